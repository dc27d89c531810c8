use Rattle.std.proofs.Common.{◌∙◌, Option, ap, option_and_then}
use Rattle.lrs_history.specs.Enrolments.{enrolled_as}
use Rattle.lrs_parts.specs.Parts.{state_of}
use Rattle.lrs_history.specs.LrsStateRegistrationsHeldRegistration.{HeldRegistration}
use Rattle.lrs_made.proofs.enrolments.enrolled.Goals as goal

pub returns-in-Some-clause-found : goal.returns-in-Some-clause-found
returns-in-Some-clause-found c =
    c.enrolled_as.ensures.found ∙ ap (λ (o : Option HeldRegistration). option_and_then (enrolled_as (state_of c.args.parts.now)) o) c.in-Some.ensures

pub returns-in-None-clause-found : goal.returns-in-None-clause-found
returns-in-None-clause-found c = ap (λ (o : Option HeldRegistration). option_and_then (enrolled_as (state_of c.args.parts.now)) o) c.in-None.ensures
