use Rattle.std.proofs.lemmas.Result.{on_ok_weaker}
use Rattle.lrs_fields.proofs.Actors.{actor_text}
use Rattle.lrs_fields.proofs.Kept.{over_five, over_four, over_three, over_two}
use Rattle.lrs_fields.proofs.agents.put_actor.Goals as goal

pub returns-in_err-put_text-clause-kept : goal.returns-in_err-put_text-clause-kept
returns-in_err-put_text-clause-kept c = over_two _ _ _ c.put.ensures.kept c.put_text.ensures.kept

pub returns-in_err-put_given-clause-kept : goal.returns-in_err-put_given-clause-kept
returns-in_err-put_given-clause-kept c = over_three _ _ _ _ c.put.ensures.kept c.put_text.ensures.kept c.put_given.ensures.kept

pub returns-in_err-put_identifier-clause-kept : goal.returns-in_err-put_identifier-clause-kept
returns-in_err-put_identifier-clause-kept c = over_four _ _ _ _ _ c.put.ensures.kept c.put_text.ensures.kept c.put_given.ensures.kept c.put_identifier.ensures.kept

pub returns-clause-kept : goal.returns-clause-kept
returns-clause-kept c = over_five _ _ _ _ _ _ c.put.ensures.kept c.put_text.ensures.kept c.put_given.ensures.kept c.put_identifier.ensures.kept c.put-2.ensures.kept

pub returns-clause-ok : goal.returns-clause-ok
returns-clause-ok c =
    on_ok_weaker c.put-2.result
    (λ closed. actor_text _ _ _ _ _ _ c.args.actor.now c.in_ok-put.ensures.ok c.in_ok-put_text.ensures.ok c.in_ok-put_given.ensures.ok c.in_ok-put_identifier.ensures.ok closed)
    c.put-2.ensures.ok
