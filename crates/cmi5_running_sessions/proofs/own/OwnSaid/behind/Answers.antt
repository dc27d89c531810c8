use Rattle.std.proofs.Common.{Some, ap}
use Rattle.cmi5_running_sessions.proofs.Hearing.{same_parts}
use Rattle.cmi5_running_sessions.proofs.own.OwnSaid.behind.Goals as goal

pub returns : goal.returns
returns c = same_parts _ _ _ _ _ _ c.began_by_now.ensures c.ended_by_now.ensures (ap Some c.stored.ensures)
