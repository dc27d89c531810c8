-- What is known of the form of a command that is submitted.
use Rattle.std.specs.Prelude.{◌≡◌, None, Option, Some}
use Rattle.lrs_command.specs.declared.command.Command.{Command}
use Rattle.lrs_command.specs.declared.command.Command.TheVariants as command
use Rattle.lrs_made.specs.LrsHistoryRefusals.{bad_form}
use Rattle.lrs_record.specs.Entries.{HoldsWrite, closing_text}
use Rattle.lrs_record.specs.Writes.{trees_of, write_area}
use Rattle.lrs_record.specs.declared.entry.Area.{Area}
use Rattle.lrs_record.specs.declared.entry.Write.{Write}
use Rattle.lrs_replies.specs.declared.answered.Refusal.{Refusal}
use Rattle.lrs_refusals.specs.declared.submission.Form.{Form}
use Rattle.lrs_refusals.specs.declared.submission.Form.TheVariants as form
use Rattle.lrs_refusals.specs.declared.written.PreparedTexts.{PreparedTexts}

-- a write of that area, whose form is refused so
abbrev pub IsMalformed : Area → Refusal → Command → Type 0
IsMalformed area refusal (command.Write write) = (write_area write ≡ area) × (bad_form write ≡ Some refusal)
IsMalformed area refusal other = ⊥

-- The form of the write is unbroken, and this is what is written of it: what closes the text of its entry, and the
-- texts of its statements.
pub record IsWrittenOf (write : Write) (written : PreparedTexts) : Type 0 where
  pub unbroken : bad_form write ≡ None
  pub closing : written.closing ≡ closing_text write
  pub holds : HoldsWrite write
  pub texts : written.texts ≡ trees_of write

-- what is known of this command's form is so
abbrev pub IsFormOf : Command → Form → Type 0
IsFormOf c (form.Unjudged same) = same ≡ c
IsFormOf c (form.Judged write written) = (command.Write write ≡ c) × IsWrittenOf write written
IsFormOf c (form.Refused area refusal) = IsMalformed area refusal c

-- this was written of the write, if anything was
abbrev pub IsWrittenIf : Write → Option PreparedTexts → Type 0
IsWrittenIf write None = Unit {0}
IsWrittenIf write (Some written) = IsWrittenOf write written
