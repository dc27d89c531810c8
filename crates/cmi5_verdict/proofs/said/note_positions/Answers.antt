use Rattle.std.proofs.Common.{◌<◌, ◌∙◌, ◌+◌, sym, subst, arith}
use Rattle.cmi5_verdict.specs.Nodes.{seen}
use Rattle.cmi5_verdict.specs.Said.{said_of}
use Rattle.cmi5_verdict.specs.Statements.{all_of}
use Rattle.cmi5_verdict.proofs.Posted.{position_next, positions_end}
use Rattle.cmi5_verdict.proofs.said.note_positions.Goals as goal

pub loop-position-preserved : goal.loop-position-preserved
loop-position-preserved c =
    let at = c.loop-position in
    record {
      long = c.note_at.ensures.long ∙ at.invariant.long;
      noted = λ k lt small.
          position_next (seen c.args.enrolment.now) (all_of c.args.statements.now) (c.args.first + k) c.args.statements.now.held.now.held c.args.positions.now at.position-index (said_of at.said k) (said_of c.note_at.new.said k) _ (omega arith)
          (c.in_ok-note_at.ensures.noted k (subst (λ n. k < n) (sym at.invariant.long) lt) small) (at.invariant.noted k lt small);
    }

pub returns-clause-noted : goal.returns-clause-noted
returns-clause-noted c = λ k lt small.
    let at = c.loop-position in
    positions_end (seen c.args.enrolment.now) (all_of c.args.statements.now) (c.args.first + k) c.args.statements.now.held.now.held c.args.positions.now at.position-index (said_of at.said k) _ (omega arith) (at.invariant.noted k lt small)
