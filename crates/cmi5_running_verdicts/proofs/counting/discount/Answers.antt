use Rattle.std.proofs.Common.{◌∙◌, ◌<◌, length, IfSome, sym, ap, subst}
use Rattle.cmi5_running_verdicts.specs.Changes.{removed, settled, tally_of}
use Rattle.cmi5_running_verdicts.proofs.Settled.{none_voided, voided_at}
use Rattle.cmi5_verdict.specs.Nodes.{seen}
use Rattle.cmi5_verdict.specs.FoundIndices.{is_index}
use Rattle.cmi5_verdict.specs.declared.said.Said.{Said}
use Rattle.cmi5_running_verdicts.proofs.counting.discount.Goals as goal

pub returns-in-Some-clause-counted : goal.returns-in-Some-clause-counted
returns-in-Some-clause-counted c = λ before behind are.
    let e = seen c.args.enrolment.now in
    let old = c.args.tallies.now in
    let index = c.in-Some.index in
    voided_at e before behind c.args.statement.now old c.discount_at.new.tallies index c.index_within.ensures.few
    (subst (λ o. IfSome o (λ p. p < length c.args.enrolment.now.nodes.now)) c.in-Some.is c.index_within.ensures.within)
    (λ p lt. sym (ap (λ o. is_index p o) c.in-Some.is) ∙ c.index_within.ensures.meant p lt) c.discount_at.ensures.long
    (λ holder lt. c.discount_at.ensures.settled holder lt ∙ ap (λ (told : Said). settled e.nodes index (removed told (tally_of old index)) old holder) c.told_by.ensures) are

pub returns-in_default-clause-counted : goal.returns-in_default-clause-counted
returns-in_default-clause-counted c = λ before behind are.
    none_voided (seen c.args.enrolment.now) before behind c.args.statement.now c.args.tallies.now
    (λ p lt. sym (sym (ap (λ o. is_index p o) c.in_default.is) ∙ c.index_within.ensures.meant p lt)) are
