use Rattle.std.proofs.Common.{◌≡◌, ◌≤◌, drop, length, take}
use Rattle.cmi5_running_sessions.specs.Room.{KeepsSlots}
use Rattle.cmi5_running_sessions.specs.Cmi5SessionMarked.{marked}
use Rattle.lrs_parts.specs.Progress.{KeepsUp}
use Rattle.xapi_statement.specs.Statements.{add_each}
use Rattle.lrs_parts.proofs.following.follow_each.Given as goal

-- the statements before the position are followed, and behind them stand those that are left
abbrev pub invariant-loop-statement : goal.invariant-loop-statement
invariant-loop-statement l = record {
  within : l.position ≤ length l.statements.held;
  added : l.statements.held ≡ add_each (take l.position l.statements.held) (drop l.statement-index l.coming);
  follows : KeepsUp l.fn.progress l.founding l.learning.editions.held l.learning.registrations.held (marked (take l.first l.statements.held))
      → KeepsUp l.progress l.founding l.learning.editions.held l.learning.registrations.held (marked (take l.position l.statements.held));
  slots : KeepsSlots l.fn.progress.sessions l.progress.sessions;
}
