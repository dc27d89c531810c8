use Rattle.std.proofs.Common.{Ok, Err}
use Rattle.lrs_json_reader.specs.declared.cursor.Stop.TheVariants.{Memory}
use Rattle.lrs_decimal.specs.Numbers.{Ends}
use Rattle.lrs_fields.proofs.AgentReading.{IsNamed, actor_read, name_and_identifier, named_identifier, open_agent}
use Rattle.lrs_fields.proofs.Sequences.{after_word, failed, no_word}
use Rattle.lrs_fields.proofs.agents.read_actor.Goals as goal

pub returns-in_err-word : goal.returns-in_err-word
returns-in_err-word c = failed _ c.from_residual.ensures.1 (actor_read _ _ (Err _) (no_word open_agent named_identifier IsNamed Ends _ _ _ c.in_err-word.ensures.all))

pub returns-in_err-name : goal.returns-in_err-name
returns-in_err-name c =
    failed _ c.from_residual-in_err-name.ensures.1
    (actor_read _ _ (Err _)
    (after_word open_agent named_identifier IsNamed Ends _ _ _ (Err _) c.in_ok-word.ensures.found c.in_ok-word.ensures.all (name_and_identifier _ _ _ (Err _) (Err Memory) c.in_err-name.ensures.read tt)))

pub returns-in_err-ifi : goal.returns-in_err-ifi
returns-in_err-ifi c =
    failed _ c.from_residual-in_err-ifi.ensures.1
    (actor_read _ _ (Err _)
    (after_word open_agent named_identifier IsNamed Ends _ _ _ (Err _) c.in_ok-word.ensures.found c.in_ok-word.ensures.all
    (name_and_identifier _ _ _ (Ok _) (Err _) c.in_ok-name.ensures.read c.in_err-ifi.ensures)))

pub returns : goal.returns
returns c =
    actor_read _ _ (Ok _)
    (after_word open_agent named_identifier IsNamed Ends _ _ _ (Ok _) c.in_ok-word.ensures.found c.in_ok-word.ensures.all
    (name_and_identifier _ _ _ (Ok _) (Ok _) c.in_ok-name.ensures.read c.in_ok-ifi.ensures))
