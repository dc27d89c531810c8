use Rattle.std.proofs.Common.{◌≤◌, ℕ, Err, codes}
use Rattle.std.specs.Fmt.{decimal}
use Rattle.lrs_fields.specs.LrsDecimalNumbers.{Ends}
use Rattle.lrs_time.specs.declared.moments.TheConstants.{LATEST}
use Rattle.lrs_fields.proofs.FieldValues.{no_number, numbered}
use Rattle.lrs_fields.proofs.Sequences.{after_word, failed, no_word}
use Rattle.lrs_record.proofs.EntryReading.{IsNumber-moment, at_moment}
use Rattle.lrs_record.proofs.headings.read_moment.Goals as goal

abbrev IsMoment : ℕ → Type 0
IsMoment moment = moment ≤ LATEST

pub returns-in_err-word : goal.returns-in_err-word
returns-in_err-word c = failed _ c.from_residual.ensures.1 (at_moment _ _ (Err _) (no_word (codes ",\"moment\":") decimal IsMoment Ends _ _ _ c.in_err-word.ensures.all))

pub returns-in_err-spelling : goal.returns-in_err-spelling
returns-in_err-spelling c =
    failed _ c.from_residual-in_err-spelling.ensures.1
    (at_moment _ _ (Err _)
    (after_word (codes ",\"moment\":") decimal IsMoment Ends _ _ _ (Err _) c.in_ok-word.ensures.found c.in_ok-word.ensures.all (no_number decimal IsMoment _ _ _ IsNumber-moment c.in_err-spelling.ensures.all)))

pub returns : goal.returns
returns c =
    at_moment _ _ _
    (after_word (codes ",\"moment\":") decimal IsMoment Ends _ _ _ _ c.in_ok-word.ensures.found c.in_ok-word.ensures.all
    (numbered decimal IsMoment _ _ _ _ _ IsNumber-moment c.as_str.ensures.lent c.in_ok-spelling.ensures.found.0 c.in_ok-spelling.ensures.all c.moment_of.ensures))
