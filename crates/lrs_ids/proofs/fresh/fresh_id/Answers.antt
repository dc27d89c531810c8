-- The ids of the words so far are all used, and there are no more of them than the set has.
use Rattle.std.proofs.Common.{sym, ap, ◌∙◌, arith}
use Rattle.lrs_names.specs.Members.{is_one_of}
use Rattle.lrs_ids.proofs.FreshLemmas.{has_id, id_of_word-mod, none_used, one_more_used, not_all_used, first_fresh}
use Rattle.lrs_ids.proofs.fresh.fresh_id.Goals as goal

pub loop-step-init : goal.loop-step-init
loop-step-init c = none_used _ _

pub returns-then-not-contains : goal.returns-then-not-contains
returns-then-not-contains c =
    first_fresh _ _ _ _ c.loop-step.invariant c.of_word-id.ensures.made (sym (has_id _ c.args.used.now.keys) ∙ sym c.contains.ensures ∙ c.if-not-contains.true)

pub loop-step-preserved : goal.loop-step-preserved
loop-step-preserved c =
    one_more_used _ _ _ c.loop-step.invariant
    (ap (λ id. is_one_of c.args.used.now.keys id) (sym (c.of_word-id.ensures.made ∙ id_of_word-mod _ _)) ∙ sym (has_id _ c.args.used.now.keys) ∙ sym c.contains.ensures ∙ c.if-not-contains.false)

pub unreachable-requires : goal.unreachable-requires
unreachable-requires c =
    not_all_used c.args.used.now.keys c.args.word c.loop-step.step (omega (arith, c.len-step-end.ensures.small, c.loop-step.auto.step-end)) (omega arith) c.loop-step.invariant
