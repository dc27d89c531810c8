use Rattle.std.proofs.Common.{◌∙◌, ◌+◌, ◌==◌, false, sym, ap}
use Rattle.std.specs.Prelude.{if◌then◌else◌}
use Rattle.cmi5_verdict.specs.Nodes.{seen}
use Rattle.cmi5_verdict.specs.FoundIndices.{is_index}
use Rattle.cmi5_verdict.specs.Said.{either, said_of, unsaid}
use Rattle.cmi5_verdict.specs.Statements.{all_of}
use Rattle.cmi5_verdict.proofs.Spoken.{either_unsaid, spoken}
use Rattle.cmi5_verdict.proofs.said.note.Goals as goal

pub returns-in-Some-clause-noted : goal.returns-in-Some-clause-noted
returns-in-Some-clause-noted c = λ k lt small.
    let e = seen c.args.enrolment.now in
    let all = all_of c.args.statements.now in
    let index = c.args.first + k in
    let here = c.in-Some.index in
    let old = said_of c.args.said.now k in
    c.add.ensures.added k lt
    ∙ (ap (λ m. either old (if here == index then m else unsaid)) c.told_by.ensures
    ∙ ap (λ m. either old m) (spoken e all index c.args.statement.now (here == index) (sym (ap (λ o. is_index index o) c.in-Some.is) ∙ c.index_meant.ensures index small)))

pub returns-in_default-clause-noted : goal.returns-in_default-clause-noted
returns-in_default-clause-noted c = λ k lt small.
    let e = seen c.args.enrolment.now in
    let all = all_of c.args.statements.now in
    let index = c.args.first + k in
    let old = said_of c.args.said.now k in
    sym (either_unsaid old)
    ∙ ap (λ m. either old m) (spoken e all index c.args.statement.now false (sym (ap (λ o. is_index index o) c.in_default.is) ∙ c.index_meant.ensures index small))
