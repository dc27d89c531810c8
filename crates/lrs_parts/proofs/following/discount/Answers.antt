use Rattle.std.proofs.Common.{◌++◌, ◌∷◌, ◌∙◌, sym, false, true}
use Rattle.cmi5_running_verdicts.proofs.Elsewhere.{elsewhere_voided}
use Rattle.cmi5_running_sessions.specs.Cmi5SessionMarked.{mark}
use Rattle.lrs_parts.proofs.Enrolling.{counted_still}
use Rattle.lrs_parts.proofs.following.discount.Goals as goal

pub discount_in-requires : goal.discount_in-requires
discount_in-requires c = sym c.number_named.ensures ∙ c.in-Some.is

pub returns-in-Some : goal.returns-in-Some
returns-in-Some c = c.discount_in.ensures

pub returns-in_default : goal.returns-in_default
returns-in_default c = λ before behind counted.
    let s = c.args.statement.now in
    counted_still c.args.running.now c.args.founding.now c.args.learning.now.editions.held c.args.learning.now.registrations.held (before ++ mark s false ∷ behind) (before ++ mark s true ∷ behind) s
    (λ e tallies apart are. elsewhere_voided e before behind s tallies apart are) (sym c.number_named.ensures ∙ c.in_default.is) counted
