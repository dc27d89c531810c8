use Rattle.std.proofs.Common.{◌<◌, ◌∙◌, ◌+◌, sym, subst, arith}
use Rattle.cmi5_verdict.specs.Nodes.{seen}
use Rattle.cmi5_verdict.specs.Said.{said_of}
use Rattle.cmi5_verdict.specs.Statements.{all_of}
use Rattle.cmi5_verdict.proofs.Spoken.{said_end, said_next}
use Rattle.cmi5_verdict.proofs.said.note_each.Goals as goal
use Rattle.lrs_json.proofs.Lists.{drop_item}

pub loop-statement-preserved : goal.loop-statement-preserved
loop-statement-preserved c =
    let at = c.loop-statement in
    let those = c.args.those.now in
    let x = c.statement-item.result in
    let next = drop_item those at.statement-index x (omega arith) c.statement-item.is in
    record {
      long = c.note.ensures.long ∙ at.invariant.long;
      noted = λ k lt small.
          said_next (seen c.args.enrolment.now) (all_of c.args.statements.now) (c.args.first + k) those at.statement-index x (said_of at.said k) (said_of c.note.new.said k) _ next
          (c.note.ensures.noted k (subst (λ n. k < n) (sym at.invariant.long) lt) small) (at.invariant.noted k lt small);
    }

pub returns-clause-noted : goal.returns-clause-noted
returns-clause-noted c = λ k lt small.
    let at = c.loop-statement in
    said_end (seen c.args.enrolment.now) (all_of c.args.statements.now) (c.args.first + k) c.args.those.now at.statement-index (said_of at.said k) _ (omega arith) (at.invariant.noted k lt small)
