use Rattle.std.proofs.Common.{◌∷◌, []}
use Rattle.std.proofs.lemmas.Result.{on_ok_weaker}
use Rattle.lrs_fold.proofs.Owed.{spoken, unspoken}
use Rattle.lrs_reads.specs.LrsHistoryWhose.{launch_of}
use Rattle.lrs_ids.specs.Ids.{supply_of}
use Rattle.lrs_learning.specs.LrsPartsParts.{state_of}
use Rattle.lrs_learning.specs.LrsStateState.{used_in}
use Rattle.lrs_fold.proofs.fold.Fold.owe_behind_put.Goals as goal

pub returns-in-Some : goal.returns-in-Some
returns-in-Some c =
    let st = state_of c.args.self.now.parts in
    on_ok_weaker c.owe_drawn.result
    (λ owed. spoken st (supply_of (used_in st) (c.args.id.now ∷ []) c.args.draw.now.name) c.args.moment c.args.added.now.items c.as_slice.result.now c.in-Some.launch.now (launch_of st c.args.who) c.owe_drawn.new.added.items c.as_slice.ensures.value c.in-Some.ensures owed)
    c.owe_drawn.ensures

pub returns-in-None : goal.returns-in-None
returns-in-None c =
    let st = state_of c.args.self.now.parts in
    unspoken st (supply_of (used_in st) (c.args.id.now ∷ []) c.args.draw.now.name) c.args.moment c.args.added.now.items c.as_slice.result.now (launch_of st c.args.who) c.as_slice.ensures.value c.in-None.ensures
