use Rattle.std.proofs.Common.{◌∙◌, Option, ap, option_and_then}
use Rattle.lrs_history.specs.Enrolments.{Enrolled}
use Rattle.lrs_made.proofs.Lent.{target_is, target_lent, unit_of}
use Rattle.lrs_parts.specs.Parts.{state_of}
use Rattle.lrs_made.proofs.targets.target.Goals as goal

pub returns-in-Some-clause-found : goal.returns-in-Some-clause-found
returns-in-Some-clause-found c =
    c.target_in.ensures.found
    ∙ (ap (λ (o : Option Enrolled). option_and_then (unit_of c.args.publisher.now) o) c.in-Some.ensures.found
    ∙ target_is (state_of c.args.parts.now) c.args.registration.now c.args.publisher.now)

pub returns-in-Some-clause-lent : goal.returns-in-Some-clause-lent
returns-in-Some-clause-lent c =
    target_lent (state_of c.args.parts.now) c.in-Some.known c.target_in.result c.in-Some.ensures.lent c.target_in.ensures.enrolled c.target_in.ensures.index

pub returns-in-None-clause-found : goal.returns-in-None-clause-found
returns-in-None-clause-found c =
    ap (λ (o : Option Enrolled). option_and_then (unit_of c.args.publisher.now) o) c.in-None.ensures.found
    ∙ target_is (state_of c.args.parts.now) c.args.registration.now c.args.publisher.now
