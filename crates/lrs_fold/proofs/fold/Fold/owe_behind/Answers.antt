use Rattle.std.proofs.lemmas.Result.{on_ok_weaker}
use Rattle.lrs_fold.proofs.Owed.{spoken, unspoken}
use Rattle.lrs_reads.specs.LrsHistoryWhose.{launch_of}
use Rattle.lrs_ids.specs.IdSupply.{left_of}
use Rattle.lrs_learning.specs.LrsPartsParts.{state_of}
use Rattle.lrs_learning.specs.LrsStateState.{used_in}
use Rattle.lrs_fold.proofs.fold.Fold.owe_behind.Goals as goal

pub returns-in-Some : goal.returns-in-Some
returns-in-Some c =
    let st = state_of c.args.self.now.parts in
    on_ok_weaker c.owe.result
    (λ owed. spoken st (left_of (used_in st) c.args.supply.now) c.args.moment c.args.added.now.items c.as_slice.result.now c.in-Some.launch.now (launch_of st c.args.who) c.owe.new.added.items c.as_slice.ensures.value c.in-Some.ensures owed)
    c.owe.ensures

pub returns-in-None : goal.returns-in-None
returns-in-None c =
    let st = state_of c.args.self.now.parts in
    unspoken st (left_of (used_in st) c.args.supply.now) c.args.moment c.args.added.now.items c.as_slice.result.now (launch_of st c.args.who) c.as_slice.ensures.value c.in-None.ensures
