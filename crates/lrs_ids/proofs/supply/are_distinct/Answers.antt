use Rattle.std.proofs.Common.{ap, sym, ◌∙◌, arith}
use Rattle.lrs_ids.proofs.MadeIds.{are_distinct_from, distinct-more, distinct-none}
use Rattle.lrs_ids.proofs.supply.are_distinct.Goals as goal
use Rattle.lrs_json.proofs.Lists.{drop_item}

pub loop-id-init : goal.loop-id-init
loop-id-init c = ap (λ keys. are_distinct_from keys c.args.ids.now) c.new-earlier.ensures.empty ∙ distinct-none c.args.ids.now

pub loop-id-preserved : goal.loop-id-preserved
loop-id-preserved c =
    distinct-more c.loop-id.earlier.keys c.add_id.new.ids.keys c.args.ids.now c.loop-id.id-index c.id-item.result _
    (drop_item c.args.ids.now c.loop-id.id-index c.id-item.result (omega arith) c.id-item.is) c.in_ok-add_id.ensures.added
    (sym c.in_ok-add_id.ensures.new ∙ c.if-not-branch.false) c.loop-id.invariant
