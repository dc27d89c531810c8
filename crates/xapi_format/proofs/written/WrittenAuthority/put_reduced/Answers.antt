use Rattle.std.proofs.Common.{◌≡◌, ◌++◌, List, ℕ, drop, true, codes, ap, ◌∙◌}
use Rattle.std.proofs.lemmas.Result.{on_ok_weaker}
use Rattle.lrs_json.specs.Texts.{member_text}
use Rattle.lrs_json.proofs.Pieces.{behind}
use Rattle.xapi_format.specs.Authorities.{account_agent, account_end, account_json, account_name}
use Rattle.xapi_format.specs.declared.authority.Authority.{Authority}
use Rattle.xapi_format.proofs.Added.{account_only}
use Rattle.xapi_format.proofs.written.WrittenAuthority.put_reduced.Goals as goal

pub behind-requires : goal.behind-requires
behind-requires c = rw c.as_slice.ensures.value c.self.invariant.within

pub returns-clause-ok : goal.returns-clause-ok
returns-clause-ok c =
    let old = c.args.into.now.items in
    let inside = c.self.inside in
    let first = codes ",\"authority\":{\"objectType\":\"Agent\"" in
    let account : c.behind.result.now ≡ account_end inside.authority = c.behind.ensures ∙ (ap (λ (t : List ℕ). drop inside.text.account t) c.as_slice.ensures.value ∙ c.self.invariant.ends) in
    on_ok_weaker c.put-2.result (λ e. behind old c.put.new.into.items c.put-2.new.into.items first c.behind.result.now c.in_ok-put.ensures.ok e ∙ (ap (λ (t : List ℕ). old ++ (first ++ t)) account
    ∙ (ap (λ (t : List ℕ). old ++ t) (account_only (account_json (account_name inside.authority))) ∙ ap (λ (a : Authority). old ++ member_text true (codes "authority") (account_agent (account_name a))) c.self.view_is))) c.put-2.ensures.ok
