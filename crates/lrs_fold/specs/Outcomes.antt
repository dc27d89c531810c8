-- What is made of an outcome.
use Rattle.std.specs.Prelude.{◌≡◌, List, if◌then◌else◌}
use Rattle.lrs_json.specs.declared.tree.Tree.{Tree}
use Rattle.xapi_index.specs.Ahead.{AreTextsOf}
use Rattle.lrs_fold.specs.declared.outcome.Outcome.{Outcome as Made}
use Rattle.lrs_fold.specs.declared.outcome.Outcome.TheVariants as made
use Rattle.lrs_fold.specs.declared.outcome.Accepted.{Accepted}
use Rattle.lrs_reads.specs.LrsHistoryEffects.{effect}
use Rattle.lrs_reads.specs.LrsHistoryHistory.{Outcome, Said, Accepted as Keeps}
use Rattle.lrs_learning.specs.LrsStateState.{State, changes_nothing}
use Rattle.lrs_record.specs.Entries.{IsLawful, written_entry}
use Rattle.lrs_record.specs.declared.entry.Entry.{Entry}
use Rattle.lrs_replies.specs.declared.answered.Answered.{Answered}

-- the entry, its text, its effect, and what is told of it
pub record IsAccepted (st : State) (e : Entry) (told : Answered) (a : Accepted) : Type 0 where
  pub entry : a.entry.value ≡ e
  pub lawful : IsLawful e
  pub text : a.text ≡ written_entry e
  pub effect : a.effect ≡ effect st e
  pub said : a.said ≡ told

-- the outcome is an acceptance, and this was made of it
abbrev pub IsAcceptance : State → Outcome → Accepted → Type 0
IsAcceptance st (Said said) a = ⊥
IsAcceptance st (Keeps e said) a = IsAccepted st e said a

-- What is accepted comes with the texts of its first statements, as far as they were written before.
abbrev pub IsOutcome : State → Outcome → Made → Type 0
IsOutcome st (Said said) (made.Said text) = text ≡ said
IsOutcome st (Keeps e said) (made.Said text) = ⊥
IsOutcome st v (made.Accepted a texts) = IsAcceptance st v a × AreTextsOf texts a.effect.statements

-- what changes nothing is told at once, all else is to be kept
abbrev pub made_of : Accepted → List Tree → Made
made_of a texts = if changes_nothing a.effect then made.Said a.said else made.Accepted a texts
