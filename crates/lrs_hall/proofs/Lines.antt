-- Records and entries of a line, and of its front.
use Rattle.std.proofs.Common.{arith, ◌≡◌, ℕ, zero, suc, ◌+◌, ◌<◌, ◌≤◌, List, [], ◌∷◌, ◌++◌, length, take, drop, Option, Some, None, refl, sym, ap, ◌∙◌, subst, length-append, append-nil, append_assoc}
use Rattle.std.specs.Prelude.{slice_get, IsSome}
use Rattle.std.proofs.Math.Seq.{take-append_seam}
use Rattle.std.proofs.lemmas.List.{take-append-drop}
use Rattle.lrs_record.specs.declared.entry.Entry.{Entry}
use Rattle.lrs_machine.specs.Line.{BeginsWith, Record, entries, sure}
use Rattle.lrs_machine.specs.Steps.{one_of}
use Rattle.lrs_machine.proofs.Lines.{entries_append, entries_one, none_some, some_same, sure_more}
use Rattle.lrs_hall.specs.Laws.{entries_in}

-- ---- lists

module _ {A : Type 0} where
  pub begins_self : (h : List A) → BeginsWith h h
  begins_self h = ([], append-nil h)

  pub begins_more : (a b c : List A) → BeginsWith a b → BeginsWith b c → BeginsWith a c
  begins_more a b c x y = (x.0 ++ y.0, sym (append_assoc a x.0 y.0) ∙ ap (λ (l : List A). l ++ y.0) x.1 ∙ y.1)

  pub begins_take : (front whole : List A) → BeginsWith front whole → take (length front) whole ≡ front
  begins_take front whole b = ap (take (length front)) (sym b.1) ∙ take-append_seam front b.0

  pub begins_length : (front whole : List A) → BeginsWith front whole → length front ≤ length whole
  begins_length front whole b =
      let e : length (front ++ b.0) ≡ length whole = ap length b.1 in
      omega (arith, e, length-append front b.0)

  pub take_next : (xs : List A) (k : ℕ) (x : A) → slice_get xs k ≡ Some x → take (suc k) xs ≡ take k xs ++ x ∷ []
  take_next [] k x is = absurd (none_some x is)
  take_next (y ∷ xs) zero x is = ap (λ (a : A). a ∷ []) (some_same y x is)
  take_next (y ∷ xs) (suc k) x is = ap (λ (l : List A). y ∷ l) (take_next xs k x is)

  pub get_take : (xs : List A) (n k : ℕ) → k < n → slice_get (take n xs) k ≡ slice_get xs k
  get_take [] zero k near = refl
  get_take [] (suc n) k near = refl
  get_take (x ∷ xs) zero k near = absurd (omega (arith, near))
  get_take (x ∷ xs) (suc n) zero near = refl
  get_take (x ∷ xs) (suc n) (suc k) near = get_take xs n k (omega (arith, near))

  pub length_take : (xs : List A) (n : ℕ) → n ≤ length xs → length (take n xs) ≡ n
  length_take xs zero le = refl
  length_take [] (suc n) le = absurd (omega (arith, le))
  length_take (x ∷ xs) (suc n) le = ap (λ (k : ℕ). suc k) (length_take xs n (omega (arith, le)))

  pub get_last : (xs : List A) (y : A) → slice_get (xs ++ y ∷ []) (length xs) ≡ Some y
  get_last [] y = refl
  get_last (x ∷ xs) y = get_last xs y

  pub get_past : (xs ys : List A) → slice_get (xs ++ ys) (length xs) ≡ slice_get ys 0
  get_past [] ys = refl
  get_past (x ∷ xs) ys = get_past xs ys

  pub get_some : (xs : List A) (k : ℕ) → k < length xs → (x : A) × (slice_get xs k ≡ Some x)
  get_some [] k near = absurd (omega (arith, near))
  get_some (x ∷ xs) zero near = (x, refl)
  get_some (x ∷ xs) (suc k) near = get_some xs k (omega (arith, near))

pub last_of : (n : ℕ) → 1 ≤ n → (k : ℕ) × (n ≡ suc k)
last_of zero some = absurd (omega (arith, some))
last_of (suc k) some = (k, refl)

-- ---- entries

pub one_length : (made : Option Entry) → IsSome made → length (one_of made) ≡ 1
one_length None some = absurd (cc)
one_length (Some e) some = refl

pub one_has : (o : Option Entry) (rest : List Entry) → IsSome o → slice_get (one_of o ++ rest) 0 ≡ o
one_has None rest some = absurd (cc)
one_has (Some e) rest some = refl

pub entries_begin : (a b : List Record) → BeginsWith a b → BeginsWith (entries a) (entries b)
entries_begin a b x = (entries x.0, sym (entries_append a x.0) ∙ ap entries x.1)

-- the history before a point
pub entries_take : (line : List Record) (n : ℕ) → entries (take n line) ≡ take (entries_in n line) (entries line)
entries_take line n =
    sym (take-append_seam (entries (take n line)) (entries (drop n line)))
    ∙ ap (λ (h : List Entry). take (entries_in n line) h) (sym (entries_append (take n line) (drop n line)) ∙ ap entries (take-append-drop n line))

pub count_next : (line : List Record) (k : ℕ) (r : Record) → slice_get line k ≡ Some r → entries_in (suc k) line ≡ entries_in k line + length (one_of r.made)
count_next line k r is =
    ap (λ (l : List Record). length (entries l)) (take_next line k r is)
    ∙ ap length (entries_append (take k line) (r ∷ []) ∙ ap (λ (l : List Entry). entries (take k line) ++ l) (entries_one r))
    ∙ length-append (entries (take k line)) (one_of r.made)

-- ---- certainty

-- certainty never falls
pub sure_begins : (front line : List Record) → BeginsWith front line → sure front ≤ sure line
sure_begins front line b = subst (λ (l : List Record). sure front ≤ sure l) b.1 (sure_more front b.0)
