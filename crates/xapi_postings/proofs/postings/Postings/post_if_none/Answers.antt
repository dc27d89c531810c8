use Rattle.std.proofs.Common.{◌∙◌, ℕ, List, ap, rules}
use Rattle.std.specs.BTreeMap.Entry.{entry_value}
use Rattle.std.specs.Option.{unwrap_or}
use Rattle.xapi_postings.proofs.Changing.{put_if_none}
use Rattle.xapi_postings.proofs.postings.Postings.post_if_none.Goals as goal

pub returns-clause-posted : goal.returns-clause-posted
returns-clause-posted c =
    let list = c.or_insert-list.result.now in
    put_if_none c.args.key.now c.in_ok-copy.field-0 c.args.position c.first.result _ list c.self.inside.map.entries c.args.self.now _ c.in_ok-copy.ensures c.self.view_is
    c.in_ok-self-inside.ensures.value (c.or_insert-list.ensures.value ∙ ap (λ (d : List ℕ). unwrap_or (entry_value c.in_ok-self-inside.field-0) d) c.in_ok-positions.ensures) c.first.ensures
    (λ k. search (rules, (c.in_ok-self-inside.ensures.update.0 list).0 k))
