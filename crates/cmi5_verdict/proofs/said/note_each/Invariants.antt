use Rattle.std.proofs.Common.{◌≡◌, ◌<◌, ◌+◌, ◌^◌, ℕ, length, drop}
use Rattle.cmi5_verdict.specs.Nodes.{seen}
use Rattle.cmi5_verdict.specs.Said.{either, said_among, said_of}
use Rattle.cmi5_verdict.specs.Statements.{all_of}
use Rattle.cmi5_verdict.proofs.said.note_each.Given as goal

-- what is noted so far, and what the statements say that are left
abbrev pub invariant-loop-statement : goal.invariant-loop-statement
invariant-loop-statement l = record {
  long : length l.said ≡ length l.fn.said;
  noted : (k : ℕ) → k < length l.fn.said → l.first + k < 2 ^ 64
      → either (said_of l.said k) (said_among (seen l.enrolment) (all_of l.statements) (l.first + k) (drop l.statement-index l.those))
      ≡ either (said_of l.fn.said k) (said_among (seen l.enrolment) (all_of l.statements) (l.first + k) l.those);
}
