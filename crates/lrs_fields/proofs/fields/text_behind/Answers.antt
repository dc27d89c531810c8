use Rattle.lrs_fields.proofs.FieldValues.{kept_text, text_read}
use Rattle.lrs_fields.proofs.Sequences.{after_word, failed, no_word}
use Rattle.lrs_fields.proofs.fields.text_behind.Goals as goal

pub returns-in_err-word : goal.returns-in_err-word
returns-in_err-word c = failed _ c.from_residual.ensures.1 (no_word c.args.front.now _ _ _ _ _ _ c.in_err-word.ensures.all)

pub returns : goal.returns
returns c =
    after_word c.args.front.now _ _ _ _ _ _ _ c.in_ok-word.ensures.found c.in_ok-word.ensures.all
    (kept_text _ _ _ (text_read _ _ _ c.read_text.ensures.found c.read_text.ensures.all))
