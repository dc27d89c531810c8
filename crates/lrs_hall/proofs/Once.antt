-- Laws of acts over one line: each entry is that of one receipt, a worker alone acts on just what it has seen, and what was
-- acknowledged is kept.
use Rattle.std.proofs.Common.{arith, ◌≡◌, ◌≢◌, ◌⊎◌, ℕ, zero, suc, ◌+◌, ◌-◌, ◌<◌, ◌≤◌, List, [], ◌∷◌, ◌++◌, length, take, drop, Option, Some, None, Bool, true, false, Result, Ok, Err, refl, sym, ap, ◌∙◌, subst, inl, inr, append_assoc, append-nil, eq-eqb, ne_eqb}
use Rattle.std.specs.List.{AllByRecursion}
use Rattle.std.specs.Prelude.{◌==◌, ◌||◌, if◌then◌else◌, slice_get, IsSome, is_some}
use Rattle.std.proofs.lemmas.Bool.{cases_eq}
use Rattle.std.proofs.lemmas.List.{take-append-drop}
use prog.Atomic.{either}
use Rattle.lrs_machine.specs.LrsHistoryHistory.{Answer, answer}
use Rattle.lrs_machine.specs.Line.{Record, entries, sure, with_made}
use Rattle.lrs_machine.specs.Acts.{Receipt, TellsEntry, changed, made_by, index_where, record_of}
use Rattle.lrs_machine.specs.Desk.{KeepsLine, Tide}
use Rattle.lrs_machine.specs.Steps.{one_of}
use Rattle.lrs_machine.proofs.Lines.{entries_append, entries_one, none_some, some_same}
use Rattle.lrs_machine.proofs.Prefixes.{prefix_less}
use Rattle.lrs_names.specs.declared.draw.Draw.{Draw}
use Rattle.lrs_record.specs.declared.entry.Caller.{Caller}
use Rattle.lrs_record.specs.declared.entry.Entry.{Entry}
use Rattle.lrs_command.specs.declared.command.Command.{Command}
use Rattle.lrs_replies.specs.declared.answered.Answered.{Answered}
use Rattle.lrs_replies.specs.declared.reply.Reply.{Reply}
use Rattle.lrs_replies.specs.declared.reply.Trouble.{Trouble}
use Rattle.lrs_replies.specs.declared.reply.Trouble.TheVariants.{Memory, Disk}
use Rattle.lrs_replies.specs.Replies.{Says}
use Rattle.lrs_turn.specs.Lists.{times}
use Rattle.lrs_turn.proofs.Steps.{times_append}
use Rattle.lrs_hall.specs.Acts.{ActsIn, ActsNext, Reach}
use Rattle.lrs_hall.specs.Laws.{Alone, AreInOrder, EntriesOnce, IsAnsweredBefore, IsFrom, InOrder, IsKept, KeepsPromises, Makes, OwnEntries, entries_at, entries_in, is_entry_at, least_of, promised}
use Rattle.lrs_hall.proofs.Lines.{begins_take, count_next, get_last, get_past, get_some, get_take, last_of, length_take, one_has, one_length, take_next}
use Rattle.lrs_hall.specs.Serving.{IsNotBelow}
use Rattle.lrs_hall.proofs.Tides.{disk_left, is_left, not_acted, tide_later}
use Rattle.lrs_hall.proofs.Talking.{Carries, all_seen, over_all}

-- ---- indices in a line

made_length : (made : Option Entry) (h : List Entry) → length (with_made made h) ≡ length (one_of made) + length h
made_length None h = omega arith
made_length (Some e) h = omega arith

-- more records have no fewer entries
pub count_more : (line : List Record) (a b : ℕ) → a ≤ b → entries_in a line ≤ entries_in b line
count_more [] zero zero le = omega arith
count_more [] zero (suc b) le = omega arith
count_more [] (suc a) zero le = omega arith
count_more [] (suc a) (suc b) le = omega arith
count_more (r ∷ line) zero b le = omega arith
count_more (r ∷ line) (suc a) zero le = absurd (omega (arith, le))
count_more (r ∷ line) (suc a) (suc b) le =
    let rest = count_more line a b (omega (arith, le)) in
    let x : entries_in (suc a) (r ∷ line) ≡ length (one_of r.made) + entries_in a line = made_length r.made (entries (take a line)) in
    let y : entries_in (suc b) (r ∷ line) ≡ length (one_of r.made) + entries_in b line = made_length r.made (entries (take b line)) in
    omega (arith, rest, x, y)

apart : (a b : ℕ) → a ≢ b → (a < b) ⊎ (b < a)
apart zero zero other = absurd (other refl)
apart zero (suc b) other = inl (omega arith)
apart (suc a) zero other = inr (omega arith)
apart (suc a) (suc b) other = up (apart a b (λ is. other (ap (λ (n : ℕ). suc n) is)))
  where
    up : (a < b) ⊎ (b < a) → (suc a < suc b) ⊎ (suc b < suc a)
    up (inl low) = inl (omega (arith, low))
    up (inr high) = inr (omega (arith, high))

low_or : (a b : ℕ) → (a ≤ b) ⊎ (b < a)
low_or zero b = inl (omega arith)
low_or (suc a) zero = inr (omega arith)
low_or (suc a) (suc b) = elim (low_or a b) [ inl le ↦ inl (omega (arith, le)) | inr low ↦ inr (omega (arith, low)) ]

-- ---- the number of an act's own record

abbrev own_step : Bool → ℕ → List ℕ
own_step changes at = if changes then at ∷ [] else []

once_or : (k at : ℕ) → ((k ≡ at) × (times k (at ∷ []) ≡ 1)) ⊎ ((k ≢ at) × (times k (at ∷ []) ≡ 0))
once_or k at = elim (cases_eq k at) [
  | inl same ↦ inl (same, subst (λ (b : Bool). either b 1 0 + 0 ≡ 1) (sym (eq-eqb k at same)) refl)
  | inr other ↦ inr (other, subst (λ (b : Bool). either b 1 0 + 0 ≡ 0) (sym (ne_eqb k at other)) refl)
]

times_step : (n at : ℕ) (b : Bool) → n ≢ at → times n (own_step b at) ≡ 0
times_step n at true other = ap (λ (b : Bool). either b 1 0 + 0) (ne_eqb n at other)
times_step n at false other = refl

none_is : (o : Option Entry) → o ≡ None → IsSome o → ⊥
none_is None is some = cc
none_is (Some e) is some = none_some e (sym is)

-- an act's own entry stands at its point, and is the answer's
entry_is : (a : Answer) (point index : ℕ) (old new : Bool) (own : Option ℕ) (said : Result Answered Trouble) → TellsEntry a point old new own said → own ≡ Some index → (index ≡ point) × IsSome a.entry
entry_is a point index old new own (Ok said) tells is = by_entry a.entry (sym is ∙ tells.1)
  where
    by_entry : (e : Option Entry) → Some index ≡ index_where (is_some e) point → (index ≡ point) × IsSome e
    by_entry None e = absurd (none_some index (sym e))
    by_entry (Some x) e = (some_same index point e, refl)
entry_is a point index old new own (Err Memory) tells is = absurd (none_some index (sym tells.0 ∙ is))
entry_is a point index old new own (Err Disk) (inl none) is = absurd (none_some index (sym none.0 ∙ is))
entry_is a point index old new own (Err Disk) (inr doubtful) is = (some_same index point (sym is ∙ doubtful.1), doubtful.0)

-- ---- one act

module _ (limit : ℕ) (line : List Record) (caller : Caller) (command : Command) (draw : Draw) (reply : Reply) (receipt : Receipt) (old new : Reach)
    (on : ActsIn limit line caller command draw reply receipt old new) where
  abbrev a : Answer
  a = answer limit (take receipt.point (entries line)) caller command receipt.clock draw

  abbrev made : Record
  made = record_of (made_by a receipt) receipt

  step_records : new.records ≡ (if changed receipt then on.at + 1 else on.at)
  step_records = ap (λ (r : Reach). r.records) on.reach

  step_own : new.own ≡ old.own ++ own_step (changed receipt) on.at
  step_own = ap (λ (r : Reach). r.own) on.reach ∙ by_change (changed receipt)
    where
      by_change : (b : Bool) → (if b then old.own ++ on.at ∷ [] else old.own) ≡ old.own ++ own_step b on.at
      by_change true = refl
      by_change false = sym (append-nil old.own)

  step_times : (n : ℕ) → times n new.own ≡ times n old.own + times n (own_step (changed receipt) on.at)
  step_times n = ap (times n) step_own ∙ times_append n old.own (own_step (changed receipt) on.at)

  step_more : changed receipt ≡ true → new.records ≡ on.at + 1
  step_more is = step_records ∙ ap (λ (b : Bool). if b then on.at + 1 else on.at) is

  at_within : on.at ≤ new.records
  at_within = by_change (changed receipt) step_records
    where
      by_change : (b : Bool) → new.records ≡ (if b then on.at + 1 else on.at) → on.at ≤ new.records
      by_change true is = omega (arith, is)
      by_change false is = omega (arith, is)

  step_later : old.records ≤ new.records
  step_later =
      let later = on.later in
      let within = at_within in
      omega (arith, later, within)

  -- the number of an act's own record is below what was seen after it
  new_step : (n : ℕ) → new.records ≤ n → times n (own_step (changed receipt) on.at) ≡ 0
  new_step n high = by_change (changed receipt) step_records
    where
      by_change : (b : Bool) → new.records ≡ (if b then on.at + 1 else on.at) → times n (own_step b on.at) ≡ 0
      by_change true is = times_step n on.at true (λ same. omega (arith, same, is, high))
      by_change false is = refl

  pub step_line : changed receipt ≡ true → slice_get line on.at ≡ Some made
  step_line is =
      let more = step_more is in
      let within = on.within in
      let len : length (take on.at line) ≡ on.at = length_take line on.at (omega (arith, more, within)) in
      let front : take new.records line ≡ take on.at line ++ made ∷ [] =
      on.acts.line ∙ ap (λ (b : Bool). if b then take on.at line ++ made ∷ [] else take on.at line) is in
      sym (get_take line new.records on.at (omega (arith, more))) ∙ ap (λ (l : List Record). slice_get l on.at) front
      ∙ ap (λ (n : ℕ). slice_get (take on.at line ++ made ∷ []) n) (sym len) ∙ get_last (take on.at line) made

  -- it stands at its point, and the history is one longer by it
  step_some : (index : ℕ) → receipt.entry ≡ Some index
      → (changed receipt ≡ true) × (index ≡ entries_in on.at line) × (entries_in (suc on.at) line ≡ entries_in on.at line + 1)
  step_some index own =
      let is : changed receipt ≡ true = ap (λ (o : Option ℕ). is_some o || is_some receipt.landed) own in
      let told = entry_is a receipt.point index _ _ receipt.entry on.said on.acts.tells own in
      let same : made.made ≡ a.entry = ap (λ (o : Option ℕ). if is_some o then a.entry else None) own in
      let one : length (one_of made.made) ≡ 1 = ap (λ (o : Option Entry). length (one_of o)) same ∙ one_length a.entry told.1 in (
        is,
        told.0 ∙ on.acts.point,
        count_next line on.at made (step_line is) ∙ ap (λ (n : ℕ). entries_in on.at line + n) one,
      )

  -- what was seen goes after the own entry
  step_past : IsSome receipt.entry → receipt.point < entries_in new.records line
  step_past = by_entry receipt.entry refl
    where
      by_entry : (o : Option ℕ) → receipt.entry ≡ o → IsSome o → receipt.point < entries_in new.records line
      by_entry None none some = absurd (cc)
      by_entry (Some index) own some =
          let s = step_some index own in
          let next = s.2 in
          let point = on.acts.point in
          let more = step_more s.0 in
          let count = count_more line (suc on.at) new.records (omega (arith, more)) in
          omega (arith, point, next, count)

  step_promised : promised receipt ≤ entries_in new.records line
  step_promised = by_entry receipt.entry refl
    where
      by_entry : (o : Option ℕ) → receipt.entry ≡ o → least_of o receipt.point ≤ entries_in new.records line
      by_entry None none =
          let point = on.acts.point in
          let count = count_more line on.at new.records at_within in
          omega (arith, point, count)
      by_entry (Some index) own =
          let s = step_some index own in
          let here = s.1 in
          let next = s.2 in
          let more = step_more s.0 in
          let count = count_more line (suc on.at) new.records (omega (arith, more)) in
          omega (arith, here, next, count)

  module _ (index k : ℕ) (makes : Makes line index k) where
    step_none_made : receipt.entry ≡ None → 0 ≡ times k (own_step (changed receipt) on.at)
    step_none_made none = by_change (changed receipt) refl
      where
        by_change : (b : Bool) → changed receipt ≡ b → 0 ≡ times k (own_step b on.at)
        by_change false is = refl
        by_change true is = elim (once_or k on.at) [
          | inl same ↦ (
              let one : makes.made ≡ made = some_same makes.made made (sym makes.stands ∙ ap (slice_get line) same.0 ∙ step_line is) in
              let nothing : makes.made.made ≡ None = ap (λ (r : Record). r.made) one ∙ ap (λ (o : Option ℕ). if is_some o then a.entry else None) none in
              absurd (none_is makes.made.made nothing makes.some))
          | inr other ↦ sym other.1
        ]

    step_some_made : (p : ℕ) → receipt.entry ≡ Some p → (if p == index then 1 else 0) ≡ times k (own_step (changed receipt) on.at)
    step_some_made p own =
        let s = step_some p own in
        let here = s.1 in
        let after = s.2 in
        let next : entries_in (suc k) line ≡ entries_in k line + 1 = count_next line k makes.made makes.stands ∙ ap (λ (n : ℕ). entries_in k line + n) (one_length makes.made.made makes.some) in
        (elim (once_or k on.at) [
          | inl same ↦ (
              let hit : p ≡ index = here ∙ ap (λ (n : ℕ). entries_in n line) (sym same.0) ∙ makes.before in
              ap (λ (b : Bool). if b then 1 else 0) (eq-eqb p index hit) ∙ sym same.1)
          | inr other ↦ (
              let miss : p ≢ index = (λ hit. elim (apart k on.at other.0) [
                | inl low ↦ (let m = count_more line (suc k) on.at (omega (arith, low)) in let b = makes.before in omega (arith, m, next, here, hit, b))
                | inr high ↦ (let m = count_more line (suc on.at) k (omega (arith, high)) in let b = makes.before in omega (arith, m, after, here, hit, b))
              ]) in
              ap (λ (b : Bool). if b then 1 else 0) (ne_eqb p index miss) ∙ sym other.1)
        ]) ∙ ap (λ (b : Bool). times k (own_step b on.at)) (sym s.0)

    step_once : (if is_entry_at receipt.entry index then 1 else 0) ≡ times k (own_step (changed receipt) on.at)
    step_once = by_entry receipt.entry refl
      where
        by_entry : (o : Option ℕ) → receipt.entry ≡ o → (if is_entry_at o index then 1 else 0) ≡ times k (own_step (changed receipt) on.at)
        by_entry None none = step_none_made none
        by_entry (Some p) own = step_some_made p own

-- ---- each entry once

module _ (limit : ℕ) (line : List Record) (index k : ℕ) (makes : Makes line index k) where
  abbrev OnceIn : List Receipt → Reach → Reach → Type 0
  OnceIn receipts old new = entries_at index receipts + times k old.own ≡ times k new.own

  once_in : Carries (ActsIn limit line) OnceIn
  once_in = record {
    none = λ x. omega arith;
    plain = λ status receipt receipts old new none more.
        let nothing : ◌≡◌ {A = ℕ} (if is_entry_at receipt.entry index then 1 else 0) 0 = ap (λ (r : Receipt). if is_entry_at r.entry index then 1 else 0) none in
        omega (arith, nothing, more);
    act = λ caller command draw reply receipt receipts old mid new on more.
        let here = step_once limit line caller command draw reply receipt old mid on index k makes in
        let own = step_times limit line caller command draw reply receipt old mid on k in
        omega (arith, here, own, more);
  }

pub entries_once : EntriesOnce
entries_once limit line index k talks links old new makes over = over_all (ActsIn limit line) (OnceIn limit line index k makes) (once_in limit line index k makes) talks links old new over

-- ---- the record of an entry

one_more : (line : List Record) (r : Record) (index k : ℕ) → Makes line index k → Makes (r ∷ line) (length (one_of r.made) + index) (suc k)
one_more line r index k makes = record {
  made = makes.made;
  stands = makes.stands;
  some = makes.some;
  before = made_length r.made (entries (take k line)) ∙ ap (λ (n : ℕ). length (one_of r.made) + n) makes.before;
}

-- each entry was made by some record
pub makes_at : (line : List Record) (index : ℕ) → index < length (entries line) → (k : ℕ) × Makes line index k
makes_at [] index low = absurd (omega (arith, low))
makes_at (r ∷ line) index low = by_made r.made refl index low (λ rest lower. makes_at line rest lower)
  where
    by_made : (made : Option Entry) → r.made ≡ made → (index : ℕ) → index < length (with_made made (entries line)) → ((rest : ℕ) → rest < length (entries line) → (k : ℕ) × Makes line rest k) → (k : ℕ) × Makes (r ∷ line) index k
    by_made None is index low more =
        let m = more index low in
        (suc m.0, subst (λ (n : ℕ). Makes (r ∷ line) n (suc m.0)) (let l : length (one_of r.made) ≡ 0 = ap (λ (o : Option Entry). length (one_of o)) is in omega (arith, l)) (one_more line r index m.0 m.1))
    by_made (Some e) is zero low more = (0, record { made = r; stands = refl; some = subst (λ (o : Option Entry). IsSome o) (sym is) refl; before = refl })
    by_made (Some e) is (suc index) low more =
        let m = more index (omega (arith, low)) in
        (suc m.0, subst (λ (n : ℕ). Makes (r ∷ line) n (suc m.0)) (let l : length (one_of r.made) ≡ 1 = ap (λ (o : Option Entry). length (one_of o)) is in omega (arith, l)) (one_more line r index m.0 m.1))

-- an entry after those of the first records was made by a later record
pub makes_behind : (line opened rest : List Record) (index k : ℕ) → opened ++ rest ≡ line → length (entries opened) ≤ index → Makes line index k → length opened ≤ k
makes_behind line opened rest index k is high makes = elim (low_or (length opened) k) [
  | inl le ↦ le
  | inr low ↦ (
      let next : entries_in (suc k) line ≡ entries_in k line + 1 = count_next line k makes.made makes.stands ∙ ap (λ (n : ℕ). entries_in k line + n) (one_length makes.made.made makes.some) in
      let whole : entries_in (length opened) line ≡ length (entries opened) = ap (λ (l : List Record). length (entries l)) (begins_take opened line (rest, is)) in
      let more = count_more line (suc k) (length opened) (omega (arith, low)) in
      let before = makes.before in
      absurd (omega (arith, next, whole, more, before, high)))
]

-- ---- one worker

module _ (limit : ℕ) (line : List Record) (start : ℕ) where
  -- no number of a record to come is its own
  abbrev NoneAhead : Reach → Type 0
  NoneAhead r = (start ≤ r.records) × ((n : ℕ) → r.records ≤ n → times n r.own ≡ 0)

  -- all numbers of records that it has seen since the start are its own
  abbrev HasAll : Reach → Type 0
  HasAll r = (n : ℕ) → start ≤ n → n < r.records → 0 < times n r.own

  none_ahead : (caller : Caller) (command : Command) (draw : Draw) (reply : Reply) (receipt : Receipt) (old new : Reach) → ActsIn limit line caller command draw reply receipt old new → NoneAhead old → NoneAhead new
  none_ahead caller command draw reply receipt old new on p =
      let later = step_later limit line caller command draw reply receipt old new on in
      let low = p.0 in (
        omega (arith, low, later),
        λ n high.
            let before = p.1 n (omega (arith, high, later)) in
            let here = step_times limit line caller command draw reply receipt old new on n in
            let step = new_step limit line caller command draw reply receipt old new on n high in
            omega (arith, before, here, step),
      )

  had_all : (caller : Caller) (command : Command) (draw : Draw) (reply : Reply) (receipt : Receipt) (old new : Reach) → ActsIn limit line caller command draw reply receipt old new → HasAll new → HasAll old
  had_all caller command draw reply receipt old new on q n from low =
      let later = on.later in
      let on_later = step_later limit line caller command draw reply receipt old new on in
      let own = q n from (omega (arith, low, on_later)) in
      let here = step_times limit line caller command draw reply receipt old new on n in
      let step = times_step n on.at (changed receipt) (λ is. omega (arith, is, low, later)) in
      omega (arith, own, here, step)

  acts_next : (caller : Caller) (command : Command) (draw : Draw) (reply : Reply) (receipt : Receipt) (old new : Reach) → ActsIn limit line caller command draw reply receipt old new → NoneAhead old → HasAll new
      → ActsNext limit line caller command draw reply receipt old new
  acts_next caller command draw reply receipt old new on p q = record {
    on = on;
    next = elim (low_or on.at old.records) [
      | inl le ↦ (let later = on.later in omega (arith, le, later))
      | inr gap ↦ (
          let within = at_within limit line caller command draw reply receipt old new on in
          let from = p.0 in
          let own = q old.records from (omega (arith, gap, within)) in
          let here = step_times limit line caller command draw reply receipt old new on old.records in
          let before = p.1 old.records (omega arith) in
          let step = times_step old.records on.at (changed receipt) (λ is. omega (arith, is, gap)) in
          absurd (omega (arith, own, here, before, step)))
    ];
  }

pub alone : Alone
alone limit line talks links old new over all none =
    let start = old.reached.records in
    all_seen (λ (r : Reach). r) (ActsIn limit line) (ActsNext limit line) (NoneAhead limit line start) (HasAll limit line start)
    (λ caller command draw reply receipt before after on p. none_ahead limit line start caller command draw reply receipt before after on p)
    (λ caller command draw reply receipt before after on q. had_all limit line start caller command draw reply receipt before after on q)
    (λ caller command draw reply receipt before after on p q. acts_next limit line start caller command draw reply receipt before after on p q)
    talks links old new (omega arith, none) (λ n from low. all n from low) over

-- ---- in order

behind_all : (n m : ℕ) (a b : Tide) (receipts : List Receipt) → n ≤ m → IsNotBelow a b → AllByRecursion (IsFrom m b) receipts → AllByRecursion (IsFrom n a) receipts
behind_all n m a b [] le low all = tt
behind_all n m a b (receipt ∷ receipts) le low all = (
  λ acted.
      let x = all.0 acted in
      let point = x.0 in
      let was = x.1.was in
      let ended = x.1.ended in
      let count = low.0 in
      let moment = low.1 in
      (omega (arith, le, point), record { was = omega (arith, count, was); ended = omega (arith, moment, ended) }),
  behind_all n m a b receipts le low all.1,
)

goes_all : (n : ℕ) (tide : Tide) (first : Receipt) (receipts : List Receipt) → first.point ≤ n → (IsSome first.entry → first.point < n) → tide.faults ≡ first.is → tide.moment ≡ first.disk
    → AllByRecursion (IsFrom n tide) receipts → AllByRecursion (IsAnsweredBefore first) receipts
goes_all n tide first [] le low count moment all = tt
goes_all n tide first (receipt ∷ receipts) le low count moment all = (
  λ mine acted.
      let x = all.0 acted in
      let point = x.0 in
      let was = x.1.was in
      let ended = x.1.ended in
      (omega (arith, le, point), λ own. let y = low own in omega (arith, point, y), omega (arith, count, was), omega (arith, moment, ended)),
  goes_all n tide first receipts le low count moment all.1,
)

goes_none : (first : Receipt) (receipts : List Receipt) → first.acted ≡ false → AllByRecursion (IsAnsweredBefore first) receipts
goes_none first [] none = tt
goes_none first (receipt ∷ receipts) none = (
  λ acted other.
      let no : ⊥ = cc (acted, none) in
      absurd no,
  goes_none first receipts none,
)

module _ (limit : ℕ) (line : List Record) where
  -- after all that was seen, and in order
  abbrev OrderIn : List Receipt → Reach → Reach → Type 0
  OrderIn receipts old new = AllByRecursion (IsFrom (entries_in old.records line) old.tide) receipts × AreInOrder receipts

  order_in : Carries (ActsIn limit line) OrderIn
  order_in = record {
    none = λ x. (tt, tt);
    plain = λ status receipt receipts old new none more.
        let other : receipt.acted ≡ false = ap (λ (r : Receipt). r.acted) none in
        ((λ acted. absurd (not_acted status receipt none acted), more.0), (goes_none receipt receipts other, more.1));
    act = λ caller command draw reply receipt receipts old mid new on more.
        let point = on.acts.point in
        let from = count_more line old.records on.at on.later in
        let later = count_more line on.at mid.records (at_within limit line caller command draw reply receipt old mid on) in
        let own = step_past limit line caller command draw reply receipt old mid on in
        let low = tide_later limit line caller command draw reply receipt old mid on in (
          (
            λ acted. (omega (arith, point, from), on.since),
            behind_all (entries_in old.records line) (entries_in mid.records line) old.tide mid.tide receipts (omega (arith, from, later)) low more.0,
          ),
          (
            goes_all (entries_in mid.records line) mid.tide receipt receipts (omega (arith, point, later)) own
                (is_left limit line caller command draw reply receipt old mid on) (disk_left limit line caller command draw reply receipt old mid on) more.0,
            more.1,
          ),
        );
  }

pub in_order : InOrder
in_order limit line talks links old new over = over_all (ActsIn limit line) (OrderIn limit line) (order_in limit line) talks links old new over

-- ---- what was acknowledged is kept

-- without trouble nothing is in doubt
calm : (a : Answer) (point : ℕ) (old new : Bool) (own : Option ℕ) (said : Result Answered Trouble) (reply : Reply) → TellsEntry a point old new own said → Says said reply → reply.status ≢ 503 → new ≡ false
calm a point old new own (Ok said) reply tells says well = tells.2
calm a point old new own (Err Memory) reply tells says well = tells.1
calm a point old new own (Err Disk) reply tells says well = absurd (well says.0)

module _ (limit now : ℕ) (since : ℕ → List ℕ → Type 0) (line : List Record) (kept : KeepsLine limit now since line)
    (later : (t u : ℕ) (c : List ℕ) → t ≤ u → since u c → since t c) where
  receipt_kept : (caller : Caller) (command : Command) (draw : Draw) (reply : Reply) (receipt : Receipt) (old new : Reach) → 1 ≤ new.records
      → ActsIn limit line caller command draw reply receipt old new → IsKept limit since line receipt
  receipt_kept caller command draw reply receipt old new some on acted well c left =
      let l = last_of new.records some in
      let last = l.1 in
      let within = on.within in
      let g = get_some line l.0 (omega (arith, last, within)) in
      let here : slice_get (take new.records line) l.0 ≡ Some g.0 = get_take line new.records l.0 (omega (arith, last)) ∙ g.1 in
      let held = (kept l.0 g.0 g.1).1 c (later g.0.moment receipt.disk c (on.acts.moments l.0 g.0 here) left) in
      let doubt = calm _ receipt.point _ _ receipt.entry on.said reply on.acts.tells on.says (λ is. well (on.status ∙ is)) in
      let next : l.0 + 1 ≡ new.records = omega (arith, last) in
      let same : sure (take (l.0 + 1) line) ≡ entries_in new.records line =
      ap (λ (n : ℕ). sure (take n line)) next ∙ ap (λ (d : Bool). if d then entries_in new.records line - 1 else entries_in new.records line) doubt in
      let promise = step_promised limit line caller command draw reply receipt old new on in
      prefix_less limit (sure (take (l.0 + 1) line)) (promised receipt) (entries line) c (omega (arith, same, promise)) held

  abbrev KeptIn : List Receipt → Reach → Reach → Type 0
  KeptIn receipts old new = 1 ≤ old.records → AllByRecursion (IsKept limit since line) receipts

  kept_in : Carries (ActsIn limit line) KeptIn
  kept_in = record {
    none = λ x some. tt;
    plain = λ status receipt receipts old new none more some. (
      λ acted.
          let other : receipt.acted ≡ false = ap (λ (r : Receipt). r.acted) none in
          let no : ⊥ = cc (acted, other) in
          absurd no,
      more some,
    );
    act = λ caller command draw reply receipt receipts old mid new on more some.
        let on_later = step_later limit line caller command draw reply receipt old mid on in
        let behind : 1 ≤ mid.records = omega (arith, some, on_later) in
        (receipt_kept caller command draw reply receipt old mid behind on, more behind);
  }

pub keeps_promises : (now : ℕ) (since : ℕ → List ℕ → Type 0) → ((t u : ℕ) (c : List ℕ) → t ≤ u → since u c → since t c) → KeepsPromises now since
keeps_promises now since later limit line talks links old new kept some over =
    over_all (ActsIn limit line) (KeptIn limit now since line kept later) (kept_in limit now since line kept later) talks links old new over some

-- ---- an act's own entry

pub own_entries : OwnEntries
own_entries limit line caller command draw reply receipt old new index on own =
    let answered : Answer = a limit line caller command draw reply receipt old new on in
    let r : Record = made limit line caller command draw reply receipt old new on in
    let told = entry_is answered receipt.point index _ _ receipt.entry on.said on.acts.tells own in
    let is : changed receipt ≡ true = ap (λ (o : Option ℕ). is_some o || is_some receipt.landed) own in
    let same : r.made ≡ answered.entry = ap (λ (o : Option ℕ). if is_some o then answered.entry else None) own in
    let front : entries (take (suc on.at) line) ≡ entries (take on.at line) ++ one_of r.made =
    ap entries (take_next line on.at r (step_line limit line caller command draw reply receipt old new on is)) ∙ entries_append (take on.at line) (r ∷ [])
    ∙ ap (λ (l : List Entry). entries (take on.at line) ++ l) (entries_one r) in
    let rest = entries (drop (suc on.at) line) in
    let whole : entries line ≡ entries (take on.at line) ++ (one_of r.made ++ rest) =
    ap entries (sym (take-append-drop (suc on.at) line)) ∙ entries_append (take (suc on.at) line) (drop (suc on.at) line) ∙ ap (λ (l : List Entry). l ++ rest) front
    ∙ append_assoc (entries (take on.at line)) (one_of r.made) rest in
    let here : index ≡ entries_in on.at line = told.0 ∙ on.acts.point in
    let some : IsSome r.made = subst (λ (o : Option Entry). IsSome o) (sym same) told.1 in (
      told.0,
      ap (λ (h : List Entry). slice_get h index) whole ∙ ap (λ (n : ℕ). slice_get (entries (take on.at line) ++ (one_of r.made ++ rest)) n) here
          ∙ get_past (entries (take on.at line)) (one_of r.made ++ rest) ∙ one_has r.made rest some ∙ same,
    )
