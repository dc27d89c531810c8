use Rattle.cmi5_session.proofs.Behind.{same_parts}
use Rattle.cmi5_session.proofs.view.SessionView.next.Goals as goal

pub returns : goal.returns
returns c = same_parts c.args.self.launch.now _ _ _ _ _ _ c.behind.ensures c.counts_by_now.ensures c.counts_by_now-2.ensures
