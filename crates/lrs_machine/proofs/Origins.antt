-- The marks of a desk tell the disk of its opening, and the desk's disk comes from it.
use base.Stored.{Coded, Gv, gnil, gnum, gcons}
use Rattle.std.proofs.Common.{◌≡◌, ℕ, ◌≤◌, List, [], ◌∷◌, ◌++◌, length, map, Option, Bool, false, Result, refl, sym, ap, ◌∙◌, subst, arith, append_assoc}
use Rattle.std.specs.Prelude.{is_ok}
use Rattle.std.specs.Option.{ForSome}
use Rattle.lrs_disk.specs.Disk.{LeavesOnly}
use Rattle.lrs_fold.specs.LrsHistoryHistory.{Answer, IsLegal}
use Rattle.lrs_journal.specs.Journal.{Journal, StandsForFrames, TellsAlike}
use Rattle.lrs_journal.proofs.Told.{alike_both, alike_self, told_on}
use Rattle.lrs_record.specs.Entries.{written_entry}
use Rattle.lrs_record.specs.declared.entry.Entry.{Entry}
use Rattle.lrs_replies.specs.declared.answered.Answered.{Answered}
use Rattle.lrs_replies.specs.declared.reply.Trouble.{Trouble}
use Rattle.lrs_machine.specs.Desk.{Desk, HoldsPrefix, marks_of}
use Rattle.lrs_machine.specs.Line.{Record, BeginsWith, entries, in_doubt, line_of, opened_line, sure}
use Rattle.lrs_machine.specs.Numbers.{numbers_of, spelled}
use Rattle.lrs_machine.specs.Origin.{ComesFrom}
use Rattle.lrs_machine.specs.Steps.{Happens, one_of, sure_of}
use Rattle.lrs_machine.proofs.Lines.{Goes, doubt_opened, entries_goes, entries_opened, goes, sure_more}
use Rattle.lrs_machine.proofs.Prefixes.{prefix_less, prefix_on, prefix_whole, rests, run_then, weaker}

-- ---- numbers

abbrev head_of : List ℕ → ℕ
head_of [] = 0
head_of (x ∷ xs) = x

abbrev tail_of : List ℕ → List ℕ
tail_of [] = []
tail_of (x ∷ xs) = xs

spelled_one : (g h : Gv) (r s : List ℕ) → spelled g ++ r ≡ spelled h ++ s → (g ≡ h) × (r ≡ s)
spelled_one gnil gnil r s is = (refl, ap tail_of is)
spelled_one gnil (gnum m) r s is = (let e : 0 ≡ 1 = ap head_of is in absurd (omega (arith, e)))
spelled_one gnil (gcons c d) r s is = (let e : 0 ≡ 2 = ap head_of is in absurd (omega (arith, e)))
spelled_one (gnum n) gnil r s is = (let e : 1 ≡ 0 = ap head_of is in absurd (omega (arith, e)))
spelled_one (gnum n) (gnum m) r s is = (ap (λ (l : List ℕ). gnum (head_of (tail_of l))) is, ap (λ (l : List ℕ). tail_of (tail_of l)) is)
spelled_one (gnum n) (gcons c d) r s is = (let e : 1 ≡ 2 = ap head_of is in absurd (omega (arith, e)))
spelled_one (gcons a b) gnil r s is = (let e : 2 ≡ 0 = ap head_of is in absurd (omega (arith, e)))
spelled_one (gcons a b) (gnum m) r s is = (let e : 2 ≡ 1 = ap head_of is in absurd (omega (arith, e)))
spelled_one (gcons a b) (gcons c d) r s is =
    let more : (spelled a ++ spelled b) ++ r ≡ (spelled c ++ spelled d) ++ s = ap tail_of is in
    let first = spelled_one a c (spelled b ++ r) (spelled d ++ s) (sym (append_assoc (spelled a) (spelled b) r) ∙ more ∙ append_assoc (spelled c) (spelled d) s) in
    let second = spelled_one b d r s first.1 in
    (ap (λ (x : Gv). gcons x b) first.0 ∙ ap (λ (y : Gv). gcons c y) second.0, second.1)

-- a value is told by its numbers
numbers_one : {A : Type 0} (code : Coded A) (x y : A) → numbers_of code x ≡ numbers_of code y → x ≡ y
numbers_one code x y is = code.inj x y (spelled_one (code.code x) (code.code y) [] [] (ap (λ (l : List ℕ). l ++ []) is)).0

-- desks of the same marks have the same opening
pub one_origin : {D : Type 0} (code : Coded D) (old new : Desk D) → marks_of code new ≡ marks_of code old → new.origin ≡ old.origin
one_origin code old new marks = numbers_one code new.origin old.origin (ap (λ (l : List ℕ). tail_of (tail_of (tail_of l))) marks)

-- ---- lines

-- no entry of the opening comes into doubt
pub opened_sure : (t n : ℕ) (h : List Entry) (acts : List Record) → n ≡ length h → n ≤ sure (line_of t h acts)
opened_sure t n h acts is =
    let all : sure (opened_line t h) ≡ length h = ap (λ (d : Bool). sure_of d (length (entries (opened_line t h)))) (doubt_opened t h) ∙ ap length (entries_opened t h) in
    let more : sure (opened_line t h) ≤ sure (line_of t h acts) = sure_more (opened_line t h) acts in
    subst (λ (k : ℕ). k ≤ sure (line_of t h acts)) (all ∙ sym is) more

-- after an act the history goes on
pub happens_begins : (a : Answer) (said : Result Answered Trouble) (landed : Option ℕ) (moment : ℕ) (old new : List Record) → Happens a said landed moment old new → BeginsWith (entries old) (entries new)
happens_begins a said landed moment old new h =
    let g : Goes old h.made moment new = subst (λ (l : List Record). Goes old h.made moment l) (sym h.line) (goes old h.made (is_ok said) landed moment) in
    (one_of h.made, sym (entries_goes old new h.made moment g))

-- ---- disks

abbrev pub disk_in : {D : Type 0} → Journal D → D
disk_in journal = journal.disk

module _ {D : Type 0} (told : D → Option (List ℕ)) (image : D → List ℕ → Type 0) (time : D → ℕ) (since : D → ℕ → List ℕ → Type 0) where
  -- at the opening
  pub comes_here : ((d : D) (c : List ℕ) → since d (time d) c → image d c) → (disk : D) (limit least : ℕ) (line : List Record) → least ≤ length (entries line) → IsLegal limit (entries line) → in_doubt line ≡ false
      → ((c : List ℕ) → image disk c → StandsForFrames limit (in_doubt line) (map written_entry (entries line)) c) → ComesFrom told time since limit least (entries line) disk disk
  comes_here only_now disk limit least line le legal calm each = (
    alike_self (told disk),
    λ b there.
        rests time since image only_now disk (HoldsPrefix limit least (entries line))
        (λ c left. prefix_whole limit least (entries line) c le (subst (λ (d : Bool). StandsForFrames limit d (map written_entry (entries line)) c) calm (each c left), legal)),
  )

  -- after an act
  pub comes_on : (on old new : D) (limit limit_now least sures : ℕ) (h h_now : List Entry) → ComesFrom told time since limit least h on old → TellsAlike (told old) (told new) → BeginsWith h h_now → least ≤ sures
      → ForSome (told old) (λ _. LeavesOnly time since old new (HoldsPrefix limit sures h_now)) → limit_now ≡ limit → ComesFrom told time since limit_now least h_now on new
  comes_on on old new limit limit_now least sures h h_now comes alike goes_on le stops same = subst (λ (l : ℕ). ComesFrom told time since l least h_now on new) (sym same) (
    alike_both (told on) (told old) (told new) comes.0 alike,
    λ b there.
        let m = told_on (told on) (told old) b comes.0 there in
        run_then time since on old new (HoldsPrefix limit least h_now) (HoldsPrefix limit sures h_now)
        (weaker time since on old (HoldsPrefix limit least h) (HoldsPrefix limit least h_now) (comes.1 b there) (λ c held. prefix_on limit least h h_now c goes_on held))
        (stops m.0 m.1)
        (λ c held. prefix_less limit sures least h_now c le held),
  )
