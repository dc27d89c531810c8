use Rattle.lrs_fold.proofs.Owed.{says_new, says_nothing}
use Rattle.lrs_reads.specs.LrsHistoryWhose.{launch_of}
use Rattle.lrs_learning.specs.LrsPartsParts.{state_of}
use Rattle.lrs_fold.proofs.fold.Fold.speaks_in.Goals as goal

pub returns-in-Some : goal.returns-in-Some
returns-in-Some c = says_new c.args.said.now _ (launch_of (state_of c.args.self.now.parts) c.args.who) _ c.in-Some.ensures.value c.launch_of.ensures

pub returns-in-None : goal.returns-in-None
returns-in-None c = says_nothing c.args.said.now (launch_of (state_of c.args.self.now.parts) c.args.who) c.in-None.ensures.value
