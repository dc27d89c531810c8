use Rattle.lrs_fields.proofs.AgentReading.{agent_read}
use Rattle.lrs_fields.proofs.Sequences.{after_word, failed, no_word}
use Rattle.lrs_fields.proofs.fields.agent_behind.Goals as goal

pub returns-in_err-word : goal.returns-in_err-word
returns-in_err-word c = failed _ c.from_residual.ensures.1 (no_word c.args.front.now _ _ _ _ _ _ c.in_err-word.ensures.all)

pub returns : goal.returns
returns c =
    after_word c.args.front.now _ _ _ _ _ _ _ c.in_ok-word.ensures.found c.in_ok-word.ensures.all (agent_read _ _ _ c.closed_identifier.ensures)
