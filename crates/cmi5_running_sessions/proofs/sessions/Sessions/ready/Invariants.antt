use Rattle.std.proofs.Common.{take}
use Rattle.cmi5_running_sessions.specs.Room.{HasSlotsForEach, MakesSlots}
use Rattle.cmi5_running_sessions.proofs.sessions.Sessions.ready.Given as goal

abbrev pub invariant-loop-statement : goal.invariant-loop-statement
invariant-loop-statement l = record {
  made : MakesSlots l.statements l.initial.self l.self;
  there : HasSlotsForEach l.self (take l.statement-index l.statements);
}
