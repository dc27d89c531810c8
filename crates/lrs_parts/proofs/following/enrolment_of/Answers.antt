use Rattle.std.proofs.Common.{◌∙◌, Some, Option, ap, option_copied, sym}
use Rattle.std.specs.Prelude.{option_map}
use Rattle.lrs_state.specs.Editions.{SeenEdition}
use Rattle.cmi5_running_verdicts.specs.Cmi5VerdictNodes.{SeenEnrolment}
use Rattle.lrs_parts.specs.Progress.{enrolment_with}
use Rattle.lrs_parts.proofs.following.enrolment_of.Goals as goal

pub returns-in-Some-clause-value : goal.returns-in-Some-clause-value
returns-in-Some-clause-value c =
    ap (λ (e : SeenEnrolment). Some e) c.enrolment_with.ensures.value
    ∙ ap (λ (o : Option SeenEdition). option_map (enrolment_with c.args.registration.now c.args.founding.now) o) (ap option_copied (sym c.in-Some.is) ∙ c.get.ensures)

pub returns-in-None-clause-value : goal.returns-in-None-clause-value
returns-in-None-clause-value c =
    ap (λ (o : Option SeenEdition). option_map (enrolment_with c.args.registration.now c.args.founding.now) o) (ap option_copied (sym c.in-None.is) ∙ c.get.ensures)
