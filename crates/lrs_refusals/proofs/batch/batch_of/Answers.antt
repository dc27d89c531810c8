use Rattle.std.proofs.Common.{◌∙◌}
use Rattle.lrs_ids.specs.IdSupply.{left_of}
use Rattle.lrs_made.specs.LrsPartsParts.{state_of}
use Rattle.lrs_made.specs.LrsStateState.{used_in}
use Rattle.lrs_record.specs.declared.entry.Write.TheVariants.{Post}
use Rattle.lrs_made.specs.LrsHistoryOccasions.{supply_in}
use Rattle.lrs_refusals.proofs.Handed.{batch_named}
use Rattle.lrs_refusals.proofs.Unused.{told_named}
use Rattle.xapi_index.proofs.Supplies.{names_same}
use Rattle.lrs_refusals.proofs.batch.batch_of.Goals as goal

pub returns-clause-batch : goal.returns-clause-batch
returns-clause-batch c =
    let st = state_of c.args.parts.now in
    batch_named st c.args.draw.now c.args.statements.now (record { ids = c.from_vec-ids.result; held = c.from_vec-held.result; supply = c.take_ids.new.supply })
    (left_of (used_in st) c.in_ok-supply.supply) c.in_ok-supply.ensures (c.from_vec-ids.ensures ∙ c.in_ok-names.ensures.ids) c.in_ok-names.ensures.left
    (c.from_vec-held.ensures ∙ c.in_ok-room.ensures.items)

pub returns-clause-none : goal.returns-clause-none
returns-clause-none c = c.from_vec-held.ensures ∙ c.in_ok-room.ensures.items

pub returns-clause-told : goal.returns-clause-told
returns-clause-told c =
    let st = state_of c.args.parts.now in
    let draw = c.args.draw.now in
    let ts = c.args.statements.now in
    told_named st draw ts c.from_vec-ids.result
    ((c.from_vec-ids.ensures ∙ c.in_ok-names.ensures.ids)
    ∙ names_same (left_of (used_in st) c.in_ok-supply.supply) (supply_in st (Post ts) draw) ts c.in_ok-supply.ensures)
    c.used_with-fewer.result c.used_with-fewer.ensures.count c.used_with-fewer.ensures.fewer c.used_with-fewer.ensures.counted
