-- What follows from the definitions over every history of what is refused: it makes no entry, and its status tells.
use Rattle.std.specs.Prelude.{◌≡◌, ◌⊎◌, ◌↔◌, ℕ, List, None}
use Rattle.lrs_command.specs.declared.command.Command.{Command}
use Rattle.lrs_history.specs.History.{Answer, answer, refused}
use Rattle.lrs_laws.specs.Laws.{IsAccepted}
use Rattle.lrs_names.specs.declared.draw.Draw.{Draw}
use Rattle.lrs_record.specs.declared.entry.Caller.{Caller}
use Rattle.lrs_record.specs.declared.entry.Entry.{Entry}
use Rattle.lrs_replies.specs.Replies.{status_of}
use Rattle.lrs_replies.specs.declared.answered.Refusal.{Refusal}

-- Whatever is refused, for whatever reason, makes no entry.
abbrev pub RefusedMakesNoEntry : Type 0
RefusedMakesNoEntry =
    (limit : ℕ) (h : List Entry) (caller : Caller) (c : Command) (clock : ℕ) (draw : Draw) (refusal : Refusal)
    → let a = answer limit h caller c clock draw in a.said ≡ refused refusal → a.entry ≡ None

-- the statuses of what isn't refused
abbrev pub IsSuccess : ℕ → Type 0
IsSuccess status = (status ≡ 200) ⊎ (status ≡ 204)

-- An answer has one of these exactly if it isn't refused.
abbrev pub StatusesTellRefusals : Type 0
StatusesTellRefusals = (a : Answer) → IsAccepted a ↔ IsSuccess (status_of a.said)
