use Rattle.std.proofs.Common.{◌≡◌, ◌++◌, drop}
use Rattle.lrs_refusals.specs.Known.{own_held}
use Rattle.lrs_refusals.specs.Meeting.{refused_each}
use Rattle.lrs_made.specs.LrsPartsParts.{state_of}
use Rattle.lrs_refusals.proofs.meeting.refused_each.Given as goal

-- the rest, and what is known of those so far
abbrev pub invariant-loop-statement : goal.invariant-loop-statement
invariant-loop-statement l = record {
  refused : refused_each (state_of l.parts) l.who (drop l.statement-index l.statements) ≡ refused_each (state_of l.parts) l.who l.statements;
  held : l.held ++ own_held (state_of l.parts) (drop l.statement-index l.statements) ≡ l.fn.held ++ own_held (state_of l.parts) l.statements;
}
