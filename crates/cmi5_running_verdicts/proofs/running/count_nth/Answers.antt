use Rattle.std.proofs.Common.{◌∙◌, ◌++◌, ℕ, List, [], Option, sym, ap, subst, append-nil, slice_get}
use Rattle.std.specs.Option.{option_map_or}
use Rattle.std.proofs.lemmas.Result.{on_ok_weaker}
use Rattle.cmi5_running_verdicts.specs.Positions.{marked_at}
use Rattle.cmi5_running_verdicts.specs.Tallies.{AreTallies}
use Rattle.cmi5_verdict.specs.Cmi5SessionMarked.{MarkedStatement}
use Rattle.cmi5_verdict.specs.Nodes.{seen}
use Rattle.cmi5_running_verdicts.proofs.Visits.{counted_as}
use Rattle.cmi5_running_verdicts.proofs.running.count_nth.Goals as goal

pub returns-in-Some-clause-counted : goal.returns-in-Some-clause-counted
returns-in-Some-clause-counted c =
    let held = c.args.statements.now.held in
    on_ok_weaker c.count_at.result
    (counted_as (seen c.args.enrolment.now) (marked_at held c.in-Some.position) (option_map_or (marked_at held) (slice_get c.args.positions.now c.args.nth) []) c.args.tallies.now c.count_at.new.tallies
    (ap (λ (o : Option ℕ). option_map_or (marked_at held) o []) (sym c.in-Some.is ∙ c.position_at.ensures)))
    c.count_at.ensures.counted

pub returns-in-None-clause-counted : goal.returns-in-None-clause-counted
returns-in-None-clause-counted c = λ those few are.
    subst (λ (o : Option ℕ). AreTallies (seen c.args.enrolment.now) (those ++ option_map_or (marked_at c.args.statements.now.held) o []) c.args.tallies.now)
    (sym c.in-None.is ∙ c.position_at.ensures)
    (subst (λ (ms : List MarkedStatement). AreTallies (seen c.args.enrolment.now) ms c.args.tallies.now) (sym (append-nil those)) are)
