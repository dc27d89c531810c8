use Rattle.std.proofs.Common.{◌≡◌, ◌∙◌, [], ◌∷◌, List, Some, None, slice_get, sym, ap, subst}
use Rattle.std.specs.Option.{option_copied}
use Rattle.std.proofs.lemmas.Result.{on_ok_weaker}
use Rattle.cmi5_running_verdicts.specs.Positions.{marked_at}
use Rattle.cmi5_running_verdicts.specs.Tallies.{AreTallies}
use Rattle.cmi5_verdict.specs.Cmi5SessionMarked.{MarkedStatement, mark}
use Rattle.cmi5_verdict.specs.Nodes.{seen}
use Rattle.cmi5_running_verdicts.proofs.Visits.{counted_as, none_marked, one_marked, voided_in_all}
use Rattle.cmi5_running_verdicts.proofs.running.count_at.Goals as goal

pub returns-in-Some-clause-counted : goal.returns-in-Some-clause-counted
returns-in-Some-clause-counted c =
    let held = c.args.statements.now.held in
    let s = c.in-Some.held.now in
    let there : slice_get held c.args.position ≡ Some s = sym c.get.ensures ∙ ap option_copied c.in-Some.is in
    let voided = voided_in_all held c.len.result c.args.position s c.is_voided_at-voided.result c.len.ensures there c.is_voided_at-voided.ensures in
    on_ok_weaker c.count_whole.result
    (counted_as (seen c.args.enrolment.now) (mark s c.is_voided_at-voided.result ∷ []) (marked_at held c.args.position) c.args.tallies.now c.count_whole.new.tallies
    (one_marked held c.args.position s c.is_voided_at-voided.result there voided))
    c.count_whole.ensures.counted

pub returns-in-None-clause-counted : goal.returns-in-None-clause-counted
returns-in-None-clause-counted c = λ those few are.
    let held = c.args.statements.now.held in
    let there : slice_get held c.args.position ≡ None = sym c.get.ensures ∙ ap option_copied c.in-None.is in
    subst (λ (ms : List MarkedStatement). AreTallies (seen c.args.enrolment.now) ms c.args.tallies.now) (none_marked held c.args.position those there) are
