-- The plain key, in a direct role, and the related one.
use Rattle.std.proofs.Common.{ℕ, List, OnOk, ◌&&◌, subst}
use Rattle.std.proofs.lemmas.Result.{on_ok_weaker}
use Rattle.std.specs.Str.{bytes_eq}
use Rattle.xapi_statement_keys.specs.Adding.{Adds, activity_keys, same_parts}
use Rattle.xapi_statement_keys.specs.declared.key.Key.TheVariants as key
use Rattle.xapi_statement_keys.proofs.Growing.{adds_both}
use Rattle.xapi_statement_keys.proofs.Named.{activity_split}
use Rattle.xapi_statement_keys.proofs.activities.push_id.Goals as goal

pub returns : goal.returns
returns c =
    let direct = c.args.direct in
    let id = c.args.id.now in
    let mid = c.push_plain_id.new.keys.items in
    let new = c.push.new.keys.items in
    on_ok_weaker c.push.result
    (λ adds. adds_both c.args.keys.now.items mid new (λ k. direct && same_parts (key.Activity id) k) (λ k. same_parts (key.RelatedActivity id) k) (activity_keys direct (λ other. bytes_eq id other))
    (activity_split direct id) c.in_ok-push_plain_id.ensures adds)
    (subst (λ (text : List ℕ). OnOk c.push.result (Adds mid new (λ k. same_parts (key.RelatedActivity text) k))) c.in_ok-clone.ensures.cases c.push.ensures)
