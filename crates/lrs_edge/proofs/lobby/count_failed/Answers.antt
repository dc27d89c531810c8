use Rattle.std.proofs.Common.{◌∙◌, sym}
use Rattle.lrs_disk.proofs.Doors.{counted, uncounted}
use Rattle.lrs_edge.specs.TcpDoor.{state_of}
use Rattle.lrs_edge.proofs.lobby.count_failed.Goals as goal

pub returns-then-not-has_failed : goal.returns-then-not-has_failed
returns-then-not-has_failed g c = uncounted state_of c.args.doors.now c.args.faults.now.count (sym c.has_failed.ensures ∙ c.if-not-has_failed.true)

pub returns : goal.returns
returns g c = counted state_of c.args.doors.now c.args.faults.now.count c.rise.new.self.count (sym c.has_failed.ensures ∙ c.if-not-has_failed.false) c.rise.ensures.later c.rise.ensures.rises
