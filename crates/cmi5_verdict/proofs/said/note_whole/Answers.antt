use Rattle.std.proofs.Common.{◌∙◌, ◌+◌, ap}
use Rattle.cmi5_verdict.specs.Nodes.{seen}
use Rattle.cmi5_verdict.specs.Said.{either, said_by, said_of}
use Rattle.cmi5_verdict.specs.Statements.{all_of}
use Rattle.cmi5_session.specs.XapiStatementStored.{StoredStatement}
use Rattle.cmi5_verdict.proofs.said.note_whole.Goals as goal

pub returns-clause-noted : goal.returns-clause-noted
returns-clause-noted c = λ k lt small.
    c.note.ensures.noted k lt small
    ∙ ap (λ (s : StoredStatement). either (said_of c.args.said.now k) (said_by (seen c.args.enrolment.now) (all_of c.args.statements.now) (c.args.first + k) s)) c.in_ok-statement.ensures
