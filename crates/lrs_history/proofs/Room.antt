-- An entry for which there is room, and one for which there is none.
use Rattle.std.proofs.Common.{◌≡◌, ◌<◌, ◌≤◌, ℕ, refl, arith, Some, Bool, true, false, nat_lt}
use Rattle.std.specs.Prelude.{if◌then◌else◌}
use Rattle.std.proofs.lemmas.Grind.{common_steps}
use Rattle.lrs_record.specs.declared.entry.Entry.{Entry}
use Rattle.lrs_history.specs.History.{Answer, if_room, only, refused, need}
use Rattle.lrs_replies.specs.declared.answered.Answered.{Answered}
use Rattle.lrs_replies.specs.declared.answered.Refusal.TheVariants as refusal
use Rattle.lrs_journal.specs.Store.{need_told}
use Rattle.lrs_record.specs.Entries.{written_entry}

abbrev pub no_room : ℕ → ℕ → Entry → Answer
no_room limit offset e = only (refused (refusal.Full (need_told offset (written_entry e)) limit))

abbrev pub kept_answer : Answered → Entry → Answer
kept_answer t e = record { said = t; entry = Some e }

pub room_is : (limit offset : ℕ) (t : Answered) (e : Entry) → need offset e ≤ limit → if_room limit offset t e ≡ kept_answer t e
room_is limit offset t e fits = by_test (nat_lt limit (need offset e)) refl
  where
    no : nat_lt limit (need offset e) ≡ true → ⊥
    no is = grind (arith, common_steps)

    by_test : (b : Bool) → nat_lt limit (need offset e) ≡ b → (if b then no_room limit offset e else kept_answer t e) ≡ kept_answer t e
    by_test true is = absurd (no is)
    by_test false is = refl

pub full_is : (limit offset : ℕ) (t : Answered) (e : Entry) → limit < need offset e → if_room limit offset t e ≡ no_room limit offset e
full_is limit offset t e exceeds = by_test (nat_lt limit (need offset e)) refl
  where
    no : nat_lt limit (need offset e) ≡ false → ⊥
    no is = grind (arith, common_steps)

    by_test : (b : Bool) → nat_lt limit (need offset e) ≡ b → (if b then no_room limit offset e else kept_answer t e) ≡ no_room limit offset e
    by_test true is = refl
    by_test false is = absurd (no is)
