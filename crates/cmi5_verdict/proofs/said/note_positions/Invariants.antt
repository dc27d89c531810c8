use Rattle.std.proofs.Common.{◌≡◌, ◌<◌, ◌+◌, ◌^◌, ℕ, length, drop}
use Rattle.cmi5_verdict.specs.Nodes.{seen}
use Rattle.cmi5_verdict.specs.Said.{either, said_among, said_of}
use Rattle.cmi5_verdict.specs.Statements.{all_of}
use Rattle.cmi5_verdict.proofs.said.note_positions.Given as goal
use Rattle.xapi_index.specs.Index.{statements_at}

-- what is noted so far, and what is said at the positions that are left
abbrev pub invariant-loop-position : goal.invariant-loop-position
invariant-loop-position l = record {
  long : length l.said ≡ length l.fn.said;
  noted : (k : ℕ) → k < length l.fn.said → l.first + k < 2 ^ 64
      → either (said_of l.said k) (said_among (seen l.enrolment) (all_of l.statements) (l.first + k) (statements_at l.statements.held.now.held (drop l.position-index l.positions)))
      ≡ either (said_of l.fn.said k) (said_among (seen l.enrolment) (all_of l.statements) (l.first + k) (statements_at l.statements.held.now.held l.positions));
}
