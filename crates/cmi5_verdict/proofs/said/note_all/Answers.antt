use Rattle.std.proofs.Common.{◌<◌, ◌∙◌, ◌+◌, sym, ap, subst}
use Rattle.cmi5_verdict.specs.Nodes.{seen}
use Rattle.cmi5_verdict.specs.Said.{either, said_among, said_of}
use Rattle.cmi5_verdict.specs.Statements.{all_of}
use Rattle.cmi5_verdict.proofs.Spoken.{among_both, either_assoc}
use Rattle.cmi5_verdict.proofs.said.note_all.Goals as goal

pub returns-clause-noted : goal.returns-clause-noted
returns-clause-noted c = λ k lt small.
    let e = seen c.args.enrolment.now in
    let all = all_of c.args.statements.now in
    let index = c.args.first + k in
    let held = c.args.statements.now.held.now.held in
    let new = c.args.statements.now.new.now in
    let old = said_of c.args.said.now k in
    c.note_each.ensures.noted k (subst (λ n. k < n) (sym c.note_held.ensures.long) lt) small
    ∙ (ap (λ s. either s (said_among e all index new)) (c.in_ok-note_held.ensures.noted k lt small)
    ∙ (either_assoc old (said_among e all index held) (said_among e all index new) ∙ ap (λ s. either old s) (sym (among_both e all index held new))))
