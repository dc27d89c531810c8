use Rattle.std.proofs.Common.{Option, ap, refl, option_and_then, option_map}
use Rattle.lrs_history.specs.Enrolments.{enrolled_from}
use Rattle.lrs_made.proofs.Lent.{found_under, lent_as}
use Rattle.lrs_made.specs.Lent.{seen_enrolled}
use Rattle.lrs_parts.specs.Parts.{state_of}
use Rattle.lrs_history.specs.LrsStateFoundingFounding.{Founding}
use Rattle.lrs_made.proofs.enrolments.enrolled_as.Goals as goal

pub returns-in-Some-clause-found : goal.returns-in-Some-clause-found
returns-in-Some-clause-found c =
    let f = c.in-Some.founding.now in
    found_under (state_of c.args.parts.now) c.args.registration.now f (option_map seen_enrolled c.enrolled_from.result) (c.enrolled_from.ensures f refl) c.in-Some.ensures

pub returns-in-Some-clause-lent : goal.returns-in-Some-clause-lent
returns-in-Some-clause-lent c =
    let st = state_of c.args.parts.now in
    let r = c.args.registration.now in
    let f = c.in-Some.founding.now in
    lent_as st r c.enrolled_from.result (found_under st r f (option_map seen_enrolled c.enrolled_from.result) (c.enrolled_from.ensures f refl) c.in-Some.ensures)

pub returns-in-None-clause-found : goal.returns-in-None-clause-found
returns-in-None-clause-found c = ap (λ (o : Option Founding). option_and_then (enrolled_from (state_of c.args.parts.now) c.args.registration.now) o) c.in-None.ensures
