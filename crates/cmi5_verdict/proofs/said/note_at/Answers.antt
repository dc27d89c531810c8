use Rattle.std.proofs.Common.{ℕ, ◌∙◌, ◌+◌, sym, ap}
use Rattle.std.specs.Option.{option_copied, option_map_or}
use Rattle.std.specs.Prelude.{slice_get}
use Rattle.std.proofs.lemmas.Result.{on_ok_weaker}
use Rattle.cmi5_verdict.specs.Nodes.{seen}
use Rattle.cmi5_verdict.specs.Said.{either, said_by, said_of, unsaid}
use Rattle.cmi5_verdict.specs.Statements.{all_of}
use Rattle.cmi5_verdict.proofs.Posted.{noted_as}
use Rattle.cmi5_verdict.proofs.Spoken.{either_unsaid}
use Rattle.cmi5_verdict.proofs.said.note_at.Goals as goal

pub returns-in-Some-clause-noted : goal.returns-in-Some-clause-noted
returns-in-Some-clause-noted c =
    let e = seen c.args.enrolment.now in
    let all = all_of c.args.statements.now in
    let held = c.args.statements.now.held.now.held in
    on_ok_weaker c.note_whole.result
    (noted_as c.args.said.now c.note_whole.new.said c.args.first (λ (p : ℕ). said_by e all p c.in-Some.held.now) (λ (p : ℕ). option_map_or (said_by e all p) (slice_get held c.args.at) unsaid)
    (λ p. ap (λ o. option_map_or (said_by e all p) o unsaid) (sym (ap option_copied c.in-Some.is) ∙ c.get.ensures)))
    c.note_whole.ensures.noted

pub returns-in-None-clause-noted : goal.returns-in-None-clause-noted
returns-in-None-clause-noted c = λ k lt small.
    let test = said_by (seen c.args.enrolment.now) (all_of c.args.statements.now) (c.args.first + k) in
    sym (either_unsaid (said_of c.args.said.now k))
    ∙ ap (λ o. either (said_of c.args.said.now k) (option_map_or test o unsaid)) (sym (ap option_copied c.in-None.is) ∙ c.get.ensures)
