use Rattle.std.proofs.Common.{◌++◌, ◌∷◌, ◌∙◌, [], sym}
use Rattle.cmi5_running_verdicts.proofs.Elsewhere.{elsewhere_counted}
use Rattle.cmi5_running_sessions.specs.Cmi5SessionMarked.{mark}
use Rattle.lrs_parts.proofs.Enrolling.{counted_still}
use Rattle.lrs_parts.proofs.following.count.Goals as goal

pub count_in-requires : goal.count_in-requires
count_in-requires c = sym c.number_named.ensures ∙ c.in-Some.is

pub returns-in-Some : goal.returns-in-Some
returns-in-Some c = c.count_in.ensures

pub returns-in_default : goal.returns-in_default
returns-in_default c = λ those few counted.
    let m = mark c.args.statement.now c.args.voided in
    counted_still c.args.running.now c.args.founding.now c.args.learning.now.editions.held c.args.learning.now.registrations.held those (those ++ m ∷ []) c.args.statement.now
    (λ e tallies apart are. elsewhere_counted e those m tallies apart are) (sym c.number_named.ensures ∙ c.in_default.is) counted
