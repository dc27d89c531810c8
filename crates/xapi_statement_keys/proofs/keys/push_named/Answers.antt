use Rattle.std.proofs.Common.{OnOk, ◌||◌, refl, subst}
use Rattle.std.proofs.lemmas.Result.{on_ok_weaker}
use Rattle.lrs_json.specs.View.{view}
use Rattle.lrs_json.specs.declared.tree.Tree.{Tree}
use Rattle.xapi_query.specs.XapiFormatAuthorityAuthority.{Authority}
use Rattle.xapi_statement_keys.specs.Adding.{Adds, authority_keys, role_keys}
use Rattle.xapi_statement_keys.proofs.Growing.{adds_both}
use Rattle.xapi_statement_keys.proofs.keys.push_named.Goals as goal

pub returns : goal.returns
returns c =
    let s = c.args.statement.now in
    let old = c.args.keys.now.items in
    let mid = c.push_roles.new.keys.items in
    let new = c.push_authority.new.keys.items in
    let roles : Adds old mid (role_keys (view s.received)) = subst (λ (t : Tree). Adds old mid (role_keys (view t))) c.received.ensures c.in_ok-push_roles.ensures in
    on_ok_weaker c.push_authority.result
    (λ adds. adds_both old mid new (role_keys (view s.received)) (authority_keys s.authority) (λ k. role_keys (view s.received) k || authority_keys s.authority k) (λ k. refl) roles adds)
    (subst (λ (a : Authority). OnOk c.push_authority.result (Adds mid new (authority_keys a))) c.authority.ensures c.push_authority.ensures)
