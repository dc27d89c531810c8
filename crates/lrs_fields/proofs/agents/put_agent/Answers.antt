use Rattle.std.proofs.lemmas.Result.{on_ok_weaker}
use Rattle.lrs_fields.proofs.Actors.{agent_text}
use Rattle.lrs_fields.proofs.Kept.{over_three, over_two}
use Rattle.lrs_fields.proofs.agents.put_agent.Goals as goal

pub returns-in_err-put_identifier-clause-kept : goal.returns-in_err-put_identifier-clause-kept
returns-in_err-put_identifier-clause-kept c = over_two _ _ _ c.put.ensures.kept c.put_identifier.ensures.kept

pub returns-clause-kept : goal.returns-clause-kept
returns-clause-kept c = over_three _ _ _ _ c.put.ensures.kept c.put_identifier.ensures.kept c.put-2.ensures.kept

pub returns-clause-ok : goal.returns-clause-ok
returns-clause-ok c =
    on_ok_weaker c.put-2.result (λ closed. agent_text _ _ _ _ c.args.agent.now c.in_ok-put.ensures.ok c.in_ok-put_identifier.ensures.ok closed) c.put-2.ensures.ok
