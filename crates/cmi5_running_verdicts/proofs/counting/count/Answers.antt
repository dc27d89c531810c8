use Rattle.std.proofs.Common.{◌∙◌, ◌<◌, length, IfSome, sym, ap, subst}
use Rattle.cmi5_running_verdicts.specs.Changes.{added, settled, tally_of}
use Rattle.cmi5_running_verdicts.proofs.Settled.{counted_at, none_counted}
use Rattle.cmi5_verdict.specs.Cmi5SessionMarked.{mark}
use Rattle.cmi5_verdict.specs.Nodes.{seen}
use Rattle.cmi5_verdict.specs.FoundIndices.{is_index}
use Rattle.cmi5_verdict.specs.declared.said.Said.{Said}
use Rattle.cmi5_running_verdicts.proofs.counting.count.Goals as goal

pub returns-in-Some-clause-counted : goal.returns-in-Some-clause-counted
returns-in-Some-clause-counted c = λ those fewer are.
    let e = seen c.args.enrolment.now in
    let old = c.args.tallies.now in
    let index = c.in-Some.index in
    counted_at e those (mark c.args.statement.now c.args.voided) old c.count_at.new.tallies index c.index_within.ensures.few fewer
    (subst (λ o. IfSome o (λ p. p < length c.args.enrolment.now.nodes.now)) c.in-Some.is c.index_within.ensures.within)
    (λ p lt. sym (ap (λ o. is_index p o) c.in-Some.is) ∙ c.index_within.ensures.meant p lt) c.count_at.ensures.long
    (λ holder lt. c.count_at.ensures.settled holder lt ∙ ap (λ (told : Said). settled e.nodes index (added told (tally_of old index)) old holder) c.told_by.ensures) are

pub returns-in_default-clause-counted : goal.returns-in_default-clause-counted
returns-in_default-clause-counted c = λ those fewer are.
    none_counted (seen c.args.enrolment.now) those (mark c.args.statement.now c.args.voided) c.args.tallies.now
    (λ p lt. sym (sym (ap (λ o. is_index p o) c.in_default.is) ∙ c.index_within.ensures.meant p lt)) are
