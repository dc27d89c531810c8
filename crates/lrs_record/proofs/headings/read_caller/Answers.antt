use Rattle.std.proofs.Common.{Ok, Err, codes, refl, sym}
use Rattle.lrs_record.specs.Entries.{caller_text}
use Rattle.lrs_record.specs.Reading.{IsKeptCaller}
use Rattle.lrs_record.proofs.Readable.{IsUtf8-caller_text}
use Rattle.lrs_fields.proofs.FieldValues.{spelled, unspelled}
use Rattle.lrs_fields.proofs.Sequences.{failed}
use Rattle.lrs_record.proofs.EntryReading.{at_caller}
use Rattle.lrs_record.proofs.headings.read_caller.Goals as goal

pub caller_of-requires : goal.caller_of-requires
caller_of-requires c = c.in_ok-text.ensures.found.0.0

pub returns-in_err-text : goal.returns-in_err-text
returns-in_err-text c =
    failed _ c.from_residual.ensures.1
    (at_caller _ _ (Err _) (unspelled (codes "{\"caller\":") caller_text IsKeptCaller IsKeptCaller _ _ _ _ (λ caller is. (is, IsUtf8-caller_text caller is.1)) c.in_err-text.ensures))

pub returns : goal.returns
returns c =
    at_caller _ _ (Ok _)
    (spelled (codes "{\"caller\":") caller_text IsKeptCaller IsKeptCaller _ _ _ _ (Ok _) (λ caller is utf8. is) (λ caller is. (is, IsUtf8-caller_text caller is.1)) refl c.in_ok-text.ensures
    (record {
      found = ((c.caller_of.ensures.lawful, c.caller_of.ensures.holds), sym c.caller_of.ensures.text);
      all = λ caller is same. c.caller_of.ensures.all caller is.0 same;
    }))
