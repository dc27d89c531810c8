use Rattle.std.proofs.Common.{take}
use Rattle.cmi5_running_sessions.specs.Room.{TakesSlotsBack}
use Rattle.cmi5_running_sessions.proofs.sessions.Sessions.release.Given as goal

abbrev pub invariant-loop-statement : goal.invariant-loop-statement
invariant-loop-statement l = TakesSlotsBack (take l.statement-index l.statements) l.initial.self l.self
