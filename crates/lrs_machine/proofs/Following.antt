-- Whether an entry may come next is seen by the fold and by the room that is left.
use Rattle.std.proofs.Common.{◌≡◌, ◌<◌, ◌≤◌, ◌+◌, ◌-◌, ℕ, min, max, List, [], ◌∷◌, length, refl, sym, ◌∙◌, ap, subst, arith, Option, Some, None, Bool, true, false, nat_lt, nat_le, Ok, Err}
use Rattle.std.specs.Prelude.{◌==◌, ◌&&◌, is_none, if◌then◌else◌}
use Rattle.std.specs.Bool.{Decides}
use Rattle.std.specs.Cmp.{first_so, second_so}
use Rattle.std.proofs.lemmas.Grind.{common_steps}
use Rattle.std.proofs.lemmas.Bool.{and_from, and_right}
use Rattle.lrs_fold.specs.Next.{may_come}
use Rattle.lrs_fold.specs.LrsHistoryAnswers.{write_said}
use Rattle.lrs_fold.specs.LrsHistoryEffects.{effect}
use Rattle.lrs_fold.specs.LrsHistoryHistory.{Answer, answer_of, said_at_once, need, end_offset, next_entry, state, outcome_by, write_outcome, ComesNext, is_founding}
use Rattle.lrs_fold.specs.LrsHistoryRoomProofs.{no_room, kept_answer}
use Rattle.lrs_fold.specs.LrsHistoryOutcomesProofs.{accepted_again}
use Rattle.lrs_machine.specs.Replays.{has_room, may_follow, TakesEntry}
use Rattle.lrs_machine.specs.Migrating.{JudgesEntry}
use Rattle.lrs_machine.specs.declared.opening.DeskRefused.TheVariants as desk
use Rattle.lrs_machine.specs.declared.replaying.JudgeRefused.TheVariants as judge
use Rattle.lrs_parts.specs.State.{State}
use Rattle.lrs_record.specs.Entries.{written_entry}
use Rattle.lrs_time.specs.Moments.{clamped}
use Rattle.lrs_time.specs.declared.moments.TheConstants.{LATEST}
use Rattle.lrs_record.specs.declared.entry.Entry.{Entry}
use Rattle.lrs_replies.specs.declared.answered.Answered.{Answered}

-- ---- tests

none_is : (o : Option Answered) → is_none o ≡ true → o ≡ None
none_is None is = refl
none_is (Some s) is = cc is

-- ---- the room, and what the fold says

pub without_room : (b : Bool) (limit offset : ℕ) (st : State) (e : Entry) → has_room b limit offset ≡ false → may_follow b limit offset st e ≡ false
without_room b limit offset st e full = and_right (may_come b st e) (has_room b limit offset) full

pub with_room : (b : Bool) (limit offset : ℕ) (st : State) (e : Entry) → has_room b limit offset ≡ true → may_come b st e ≡ true → may_follow b limit offset st e ≡ true
with_room b limit offset st e room comes = and_from (may_come b st e) (has_room b limit offset) comes room

pub not_coming : (b : Bool) (limit offset : ℕ) (st : State) (e : Entry) → may_come b st e ≡ false → may_follow b limit offset st e ≡ false
not_coming b limit offset st e stays = ap (λ c. c && has_room b limit offset) stays

-- what was judged and has room is taken in
pub takes_judged : (frame : List ℕ) (k limit offset : ℕ) (st su : State) (old new : List Entry) (u w : Unit {0}) → has_room (k == 0) limit offset ≡ true → JudgesEntry frame (k == 0) st su old new (Ok u)
    → TakesEntry frame k limit offset st su old new (Ok w)
takes_judged frame k limit offset st su old new u w room judged = (judged.0, judged.1, judged.2, with_room (k == 0) limit offset st judged.0 room judged.3, judged.4, judged.5)

pub takes_illegal : (frame : List ℕ) (k limit offset : ℕ) (st su : State) (old new : List Entry) → JudgesEntry frame (k == 0) st su old new (Err judge.Illegal)
    → TakesEntry frame k limit offset st su old new (Err (desk.IllegalEntry k))
takes_illegal frame k limit offset st su old new never = (refl, λ e lawful is. not_coming (k == 0) limit offset st e (never e lawful is))

-- ---- a later entry

abbrev entry_of : Answer → Option Entry
entry_of a = a.entry

abbrev later : ℕ → ℕ → State → Entry → Bool
later limit offset st e = may_follow false limit offset st e

later_forth : (limit offset : ℕ) (st : State) (e : Entry) → e.moment ≤ LATEST → later limit (offset + (13 + length (written_entry e))) st e ≡ true
    → (answer_of limit offset (write_outcome st (next_entry st e.caller e.write e.moment e.draw))).entry ≡ Some e
later_forth limit offset st e early is =
    ap (λ v. (answer_of limit offset v).entry) (accepted_again st e (write_said (effect st e)) same at_once refl) ∙ by_test (nat_lt limit (need offset e)) refl
  where
    two : is_none (said_at_once st e) && nat_le st.last e.moment ≡ true
    two = first_so (is_none (said_at_once st e) && nat_le st.last e.moment) (nat_lt (offset + (13 + length (written_entry e))) limit) is

    at_once : said_at_once st e ≡ None
    at_once = none_is (said_at_once st e) (first_so (is_none (said_at_once st e)) (nat_le st.last e.moment) two)

    le : nat_le st.last e.moment ≡ true
    le = second_so (is_none (said_at_once st e)) (nat_le st.last e.moment) two

    lt : nat_lt (offset + (13 + length (written_entry e))) limit ≡ true
    lt = second_so (is_none (said_at_once st e) && nat_le st.last e.moment) (nat_lt (offset + (13 + length (written_entry e))) limit) is

    later_moment : (m n : ℕ) → m ≤ LATEST → nat_le n m ≡ true → max (min m LATEST) n ≡ m
    later_moment m n early le = let below : n ≤ m = grind (arith, common_steps) in omega (arith, early, below)

    same : max (clamped e.moment) st.last ≡ e.moment
    same = later_moment e.moment st.last early le

    roomy : (p n l : ℕ) → nat_lt (p + (13 + n)) l ≡ true → nat_lt l (p + 14 + n) ≡ true → ⊥
    roomy p n l a b = let below : p + (13 + n) < l = grind (arith, common_steps) in let above : l < p + 14 + n = grind (arith, common_steps) in omega (arith, below, above)

    by_test : (b : Bool) → nat_lt limit (need offset e) ≡ b → entry_of (if b then no_room limit offset e else kept_answer (write_said (effect st e)) e) ≡ Some e
    by_test true is = absurd (roomy offset (length (written_entry e)) limit lt is)
    by_test false is = refl

-- the entry that it would be now
abbrev entry_now : State → Entry → Entry
entry_now st e = next_entry st e.caller e.write e.moment e.draw

later_back : (limit offset : ℕ) (st : State) (e : Entry) (o : Option Answered) → said_at_once st (entry_now st e) ≡ o
    → (answer_of limit offset (outcome_by o (entry_now st e) (write_said (effect st (entry_now st e))))).entry ≡ Some e → later limit (offset + (13 + length (written_entry e))) st e ≡ true
later_back limit offset st e (Some s) at is = cc is
later_back limit offset st e None at is = by_test (nat_lt limit (need offset (entry_now st e))) refl is
  where
    order : (m n : ℕ) → max (min m LATEST) n ≡ m → nat_le n m ≡ true
    order m n is = let below : n ≤ m = omega (arith, is) in grind (arith, common_steps)

    roomy : (p n l : ℕ) → nat_lt l (p + 14 + n) ≡ false → nat_lt (p + (13 + n)) l ≡ true
    roomy p n l a = let fits : p + 14 + n ≤ l = grind (arith, common_steps) in let below : p + (13 + n) < l = omega (arith, fits) in grind (arith, common_steps)

    by_test : (b : Bool) → nat_lt limit (need offset (entry_now st e)) ≡ b
        → entry_of (if b then no_room limit offset (entry_now st e) else kept_answer (write_said (effect st (entry_now st e))) (entry_now st e)) ≡ Some e
        → later limit (offset + (13 + length (written_entry e))) st e ≡ true
    by_test true full is = cc is
    by_test false room is =
        let same : entry_now st e ≡ e = cc is in
        and_from (is_none (said_at_once st e) && nat_le st.last e.moment) (nat_lt (offset + (13 + length (written_entry e))) limit)
        (and_from (is_none (said_at_once st e)) (nat_le st.last e.moment) (ap (λ o. is_none o) (ap (λ x. said_at_once st x) (sym same) ∙ at)) (order e.moment st.last (ap (λ x. x.moment) same)))
        (roomy offset (length (written_entry e)) limit (subst (λ x. nat_lt limit (need offset x) ≡ false) same room))

first_decides : (b : Bool) → Decides (b && true) (b ≡ true)
first_decides true = (λ is. is, λ is. is)
first_decides false = (λ is. is, λ is. is)

-- the fold and the room say whether an entry comes next
pub may_decides : (limit offset : ℕ) (st : State) (h : List Entry) (e : Entry) (k : ℕ) → length h ≡ k → st ≡ state h → e.moment ≤ LATEST
    → offset ≡ end_offset limit h + (13 + length (written_entry e)) → Decides (may_follow (k == 0) limit offset st e) (ComesNext limit h e)
may_decides limit offset st [] e k long folded early behind = subst (λ n. Decides (may_follow (n == 0) limit offset st e) (ComesNext limit [] e)) long (first_decides (is_founding e))
may_decides limit offset st (x ∷ h) e k long folded early behind =
    subst (λ b. Decides (may_follow b limit offset st e) (ComesNext limit (x ∷ h) e)) (sym other) (subst (λ z. Decides (may_follow false limit offset z e) (ComesNext limit (x ∷ h) e)) (sym folded)
    (subst (λ p. Decides (may_follow false limit p (state (x ∷ h)) e) (ComesNext limit (x ∷ h) e)) (sym behind)
    (later_forth limit (end_offset limit (x ∷ h)) (state (x ∷ h)) e early, later_back limit (end_offset limit (x ∷ h)) (state (x ∷ h)) e (said_at_once (state (x ∷ h)) (entry_now (state (x ∷ h)) e)) refl)))
  where
    other : (k == 0) ≡ false
    other = let some : 0 < k = omega (arith, long) in grind (arith, common_steps)
