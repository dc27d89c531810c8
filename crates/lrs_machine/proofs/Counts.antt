-- How many records a line has.
use Rattle.std.proofs.Common.{◌≡◌, ◌<◌, ◌≤◌, ◌+◌, ◌-◌, ◌*◌, ◌^◌, ◌&&◌, ℕ, List, [], ◌∷◌, ◌++◌, length, map, Option, Some, None, Bool, true, false, Result, refl, sym, ap, ◌∙◌, subst, arith, length-append, append_assoc}
use Rattle.std.specs.Prelude.{is_some, is_ok}
use Rattle.std.proofs.lemmas.List.{append-nil, length-map}
use Rattle.lrs_journal.specs.Store.{frames, frames_in, body, header}
use Rattle.lrs_journal.specs.declared.sizes.Format.TheVariants as format
use Rattle.lrs_journal.specs.declared.sizes.TheConstants.{MOST_BYTES}
use Rattle.lrs_record.specs.Entries.{written_entry}
use Rattle.lrs_record.specs.declared.entry.Entry.{Entry}
use Rattle.lrs_fold.specs.LrsHistoryHistory.{Answer, end_offset, next_entry, state, write_outcome, ComesNext, IsLegal, IsLegalFrom}
use Rattle.lrs_replies.specs.declared.answered.Answered.{Answered}
use Rattle.lrs_replies.specs.declared.reply.Trouble.{Trouble}
use Rattle.lrs_machine.specs.Acts.{landed_among}
use Rattle.lrs_machine.specs.Line.{Record, entries, in_doubt, line_of, opened_line, opening_record}
use Rattle.lrs_machine.specs.Steps.{Happens, IsCounted, line_after, one_if, record_made}
use Rattle.lrs_machine.proofs.Lines.{doubt_append, doubt_opened, entries_append, entries_opened, none_some}
use Rattle.lrs_machine.proofs.Tied.{accepted_by}

-- ---- a store has few entries

frames_long : (k : ℕ) (h : List Entry) → 2 * length h ≤ length (frames_in format.Two k (map written_entry h))
frames_long k [] = omega arith
frames_long k (e ∷ h) =
    let rest = frames_long (k + 1) h in
    omega (arith, rest, length-append (body k (written_entry e)) (frames_in format.Two (k + 1) (map written_entry h)), length_body k (written_entry e))
  where
    length_body : (n : ℕ) (p : List ℕ) → length (body n p) ≡ 12 + length p
    length_body n p = omega arith

store_long : (limit : ℕ) (h : List Entry) → 2 * length h ≤ end_offset limit h
store_long limit h =
    let long = frames_long 0 h in
    let whole : end_offset limit h ≡ length (header limit) + length (frames (map written_entry h)) = length-append (header limit) (frames (map written_entry h)) in
    omega (arith, long, whole)

-- an entry that may come next has room
room_of : (limit : ℕ) (h : List Entry) (e : Entry) → 0 < length h → ComesNext limit h e → 2 * length (h ++ e ∷ []) ≤ limit
room_of limit [] e some next = absurd (omega (arith, some))
room_of limit (x ∷ h) e some next =
    let a = accepted_by limit (end_offset limit (x ∷ h)) (write_outcome (state (x ∷ h)) (next_entry (state (x ∷ h)) e.caller e.write e.moment e.draw)) e next in
    let fits = a.2 in
    omega (arith, fits, store_long limit (x ∷ h), length-append (x ∷ h) (e ∷ []))

few_from : (limit : ℕ) (before rest : List Entry) → limit ≤ MOST_BYTES → 0 < length before → 2 * length before ≤ MOST_BYTES → IsLegalFrom limit before rest
    → 2 * length (before ++ rest) ≤ MOST_BYTES
few_from limit before [] most some few legal = subst (λ (h : List Entry). 2 * length h ≤ MOST_BYTES) (sym (append-nil before)) few
few_from limit before (e ∷ rest) most some few legal =
    let room = room_of limit before e some legal.1 in
    subst (λ (h : List Entry). 2 * length h ≤ MOST_BYTES) (append_assoc before (e ∷ []) rest)
    (few_from limit (before ++ e ∷ []) rest most (omega (arith, length-append before (e ∷ []))) (omega (arith, room, most)) legal.2)

few_entries : (limit : ℕ) (h : List Entry) → limit ≤ MOST_BYTES → IsLegal limit h → 2 * length h ≤ MOST_BYTES
few_entries limit [] most legal = omega arith
few_entries limit (e ∷ rest) most legal = few_from limit (e ∷ []) rest most (omega arith) (omega arith) legal.1.2

-- so the number of records never ends
pub counts_on : (records limit : ℕ) (line : List Record) → limit ≤ MOST_BYTES → IsLegal limit (entries line) → IsCounted records line → records < 2 ^ 64 - 1
counts_on records limit line most legal counted =
    let is = counted.is in
    let few = counted.few in
    let entries_few = few_entries limit (entries line) most legal in
    omega (arith, is, few, entries_few)

-- ---- the line of an opening

pub counted_opened : (records t : ℕ) (h : List Entry) (acts : List Record) → acts ≡ [] → records ≡ length h → IsCounted records (line_of t h acts)
counted_opened records t h acts none is =
    let len : length (opened_line t h) ≡ length h = length-map h (opening_record t) in
    let all : length (entries (opened_line t h)) ≡ length h = ap length (entries_opened t h) in
    let calm : one_if (in_doubt (opened_line t h)) ≡ 0 = ap one_if (doubt_opened t h) in
    subst (IsCounted records) (sym (ap (λ (a : List Record). opened_line t h ++ a) none ∙ append-nil (opened_line t h))) (record {
      is = is ∙ sym len;
      few = omega (arith, len, all, calm);
    })

-- ---- the line after an act

one_most : (b : Bool) → one_if b ≤ 1
one_most true = omega arith
one_most false = omega arith

-- only a doubt lands
doubted : (was is : Bool) (n k : ℕ) → Some k ≡ landed_among n was is false → was ≡ true
doubted true is n k lands = refl
doubted false is n k lands = absurd (none_some k (sym lands))

few_next : (line next : List Record) (made : Option Entry) (ok : Bool) (landed : Option ℕ) (moment : ℕ) → next ≡ line_after line made ok landed moment
    → landed ≡ landed_among (length (entries line)) (in_doubt line) (in_doubt next) (is_some made)
    → length line + one_if (in_doubt line) ≤ 2 * length (entries line) → length next + one_if (in_doubt next) ≤ 2 * length (entries next)
few_next line next (Some e) ok landed moment is lands few =
    let r = record_made (Some e) ok landed moment in
    let len : length next ≡ length line + 1 = ap length is ∙ length-append line (r ∷ []) in
    let all : length (entries next) ≡ length (entries line) + 1 =
    ap (λ (l : List Record). length (entries l)) is ∙ ap length (entries_append line (r ∷ [])) ∙ length-append (entries line) (e ∷ []) in
    omega (arith, few, len, all, one_most (in_doubt next))
few_next line next None ok (Some k) moment is lands few =
    let r = record_made None ok (Some k) moment in
    let len : length next ≡ length line + 1 = ap length is ∙ length-append line (r ∷ []) in
    let all : length (entries next) ≡ length (entries line) =
    ap (λ (l : List Record). length (entries l)) is ∙ ap length (entries_append line (r ∷ [])) ∙ ap length (append-nil (entries line)) in
    let was : in_doubt line ≡ true = doubted (in_doubt line) (in_doubt next) (length (entries line)) k lands in
    let one : one_if (in_doubt line) ≡ 1 = ap one_if was in
    let none : one_if (in_doubt next) ≡ 0 = ap one_if (ap in_doubt is ∙ doubt_append false line (r ∷ []) ∙ ap (λ (b : Bool). b && false) was) in
    omega (arith, few, len, all, one, none)
few_next line next None ok None moment is lands few = subst (λ (l : List Record). length l + one_if (in_doubt l) ≤ 2 * length (entries l)) (sym is) few

pub counted_next : (a : Answer) (said : Result Answered Trouble) (landed : Option ℕ) (moment : ℕ) (line next : List Record) (records more : ℕ)
    → Happens a said landed moment line next → more + length line ≡ records + length next → IsCounted records line → IsCounted more next
counted_next a said landed moment line next records more h moved counted =
    let was = counted.is in
    record {
      is = omega (arith, was, moved);
      few = few_next line next h.made (is_ok said) landed moment h.line h.lands counted.few;
    }

-- the acts' records behind those of the opening
pub moved_acts : (t : ℕ) (opening : List Entry) (acts next : List Record) (records more : ℕ) → more + length acts ≡ records + length next
    → more + length (line_of t opening acts) ≡ records + length (line_of t opening next)
moved_acts t opening acts next records more moved = omega (arith, moved, length-append (opened_line t opening) acts, length-append (opened_line t opening) next)
