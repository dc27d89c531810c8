-- The filled slots whose keys pass a test, where these keys stand together: they are walked from the least of them on.
use Rattle.std.proofs.Common.{◌≡◌, Bool, true, false, cond, List, [], ◌∷◌, ◌++◌, map, Option, Some, None, Ordering, Less, filter, refl, sym, ap, ◌∙◌, ⊎_elim, true≢false, append_assoc, append-nil}
use Rattle.std.specs.BTreeMap.Range.{entries_between, range_contains}
use Rattle.std.specs.declared.ops.Bound.TheVariants.{Included, Unbounded}
use Rattle.std.specs.List.{AllByRecursion}
use Rattle.std.specs.List.Sorted.{IsStrictlySortedBy}
use Rattle.std.specs.Map.{keys_of}
use Rattle.std.proofs.lemmas.Bool.{cases_Bool}
use Rattle.std.proofs.lemmas.Map.Keys.{sorted_head, sorted_tail}
use Rattle.xapi_docs.proofs.Filled.{filled}

-- the keys that pass a test stand together, from that key on
pub record StandTogether {K : Type 0} (R : K → K → Ordering) (first : K) (passes : K → Bool) : Type 0 where
  pub least : (q : K) → passes q ≡ true → range_contains R (Included first) Unbounded q ≡ true
  pub later : (q r : K) → range_contains R (Included first) Unbounded q ≡ true → passes q ≡ false → R q r ≡ Less → passes r ≡ false

module _ {K X Y : Type 0} (R : K → K → Ordering) (first : K) (test : K × X → Bool) (shows : K × X → Y) where
  abbrev pub picked : List (K × Option X) → List Y
  picked slots = map shows (filter test (filled slots))

  -- what was shown so far, and what is shown of the slots that are left, are all that is shown
  pub record Walks (done : List Y) (rest all : List (K × Option X)) : Type 0 where
    pub whole : done ++ picked rest ≡ picked all
    pub sorted : IsStrictlySortedBy R (keys_of rest)
    pub inside : AllByRecursion (λ q. range_contains R (Included first) Unbounded q ≡ true) (keys_of rest)

  abbrev pub between : List (K × Option X) → List (K × Option X)
  between slots = entries_between R (Included first) Unbounded slots

  less_between : (k : K) (slots : List (K × Option X)) → AllByRecursion (λ q. R k q ≡ Less) (keys_of slots) → AllByRecursion (λ q. R k q ≡ Less) (keys_of (between slots))
  less_between k [] less = tt
  less_between k (e ∷ slots) less = ⊎_elim
      (λ is. rw is (less.0, less_between k slots less.1))
      (λ off. rw off (less_between k slots less.1))
      (cases_Bool (range_contains R (Included first) Unbounded e.0))

  sorted_between : (slots : List (K × Option X)) → IsStrictlySortedBy R (keys_of slots) → IsStrictlySortedBy R (keys_of (between slots))
  unfolding IsStrictlySortedBy
  sorted_between [] s = tt
  sorted_between (e ∷ slots) s = ⊎_elim
      (λ is. rw is (less_between e.0 slots s.0, sorted_between slots s.1))
      (λ off. rw off (sorted_between slots s.1))
      (cases_Bool (range_contains R (Included first) Unbounded e.0))

  all_inside : (slots : List (K × Option X)) → AllByRecursion (λ q. range_contains R (Included first) Unbounded q ≡ true) (keys_of (between slots))
  all_inside [] = tt
  all_inside (e ∷ slots) = ⊎_elim
      (λ is. rw is (is, all_inside slots))
      (λ off. rw off (all_inside slots))
      (cases_Bool (range_contains R (Included first) Unbounded e.0))

  pub shown : (k : K) (x : X) (slots : List (K × Option X)) → test (k, x) ≡ true → picked ((k, Some x) ∷ slots) ≡ shows (k, x) ∷ picked slots
  shown k x slots is = ap (λ b. map shows (cond b ((k, x) ∷ filter test (filled slots)) (filter test (filled slots)))) is

  pub not_shown : (k : K) (x : X) (slots : List (K × Option X)) → test (k, x) ≡ false → picked ((k, Some x) ∷ slots) ≡ picked slots
  not_shown k x slots off = ap (λ b. map shows (cond b ((k, x) ∷ filter test (filled slots)) (filter test (filled slots)))) off

  module _ (passes : K → Bool) (together : StandTogether R first passes) (only : (k : K) (x : X) → passes k ≡ false → test (k, x) ≡ false) where
    unseen : (k : K) (p : Option X) (slots : List (K × Option X)) → passes k ≡ false → picked ((k, p) ∷ slots) ≡ picked slots
    unseen k None slots off = refl
    unseen k (Some x) slots off = not_shown k x slots (only k x off)

    outside : (k : K) (b : Bool) → passes k ≡ b → range_contains R (Included first) Unbounded k ≡ false → passes k ≡ false
    outside k true e off = absurd (true≢false (sym (together.least k e) ∙ off))
    outside k false e off = e

    seen : (k : K) (p : Option X) (few all : List (K × Option X)) → picked few ≡ picked all → picked ((k, p) ∷ few) ≡ picked ((k, p) ∷ all)
    seen k None few all same = same
    seen k (Some x) few all same = ⊎_elim
        (λ is. shown k x few is ∙ ap (λ l. shows (k, x) ∷ l) same ∙ sym (shown k x all is))
        (λ off. not_shown k x few off ∙ same ∙ sym (not_shown k x all off))
        (cases_Bool (test (k, x)))

    picked_between : (slots : List (K × Option X)) → picked (between slots) ≡ picked slots
    picked_between [] = refl
    picked_between (e ∷ slots) = ⊎_elim
        (λ is. ap (λ b. picked (cond b (e ∷ between slots) (between slots))) is ∙ seen e.0 e.1 (between slots) slots (picked_between slots))
        (λ off. ap (λ b. picked (cond b (e ∷ between slots) (between slots))) off ∙ picked_between slots ∙ sym (unseen e.0 e.1 slots (outside e.0 (passes e.0) refl off)))
        (cases_Bool (range_contains R (Included first) Unbounded e.0))

    none_later : (k : K) (slots : List (K × Option X)) → range_contains R (Included first) Unbounded k ≡ true → passes k ≡ false → AllByRecursion (λ q. R k q ≡ Less) (keys_of slots) → picked slots ≡ []
    none_later k [] from off less = refl
    none_later k (e ∷ slots) from off less = unseen e.0 e.1 slots (together.later k e.0 from off less.0) ∙ none_later k slots from off less.1

    pub begins : (slots : List (K × Option X)) → IsStrictlySortedBy R (keys_of slots) → Walks [] (between slots) slots
    begins slots s = record { whole = picked_between slots; sorted = sorted_between slots s; inside = all_inside slots }

    pub stops : (done : List Y) (k : K) (p : Option X) (rest all : List (K × Option X)) → Walks done ((k, p) ∷ rest) all → passes k ≡ false → done ≡ picked all
    stops done k p rest all walks off =
        let none : picked ((k, p) ∷ rest) ≡ [] = unseen k p rest off ∙ none_later k rest walks.inside.0 off (sorted_head R k (keys_of rest) walks.sorted) in
        sym (append-nil done) ∙ ap (λ l. done ++ l) (sym none) ∙ walks.whole

  pub ends : (done : List Y) (rest all : List (K × Option X)) → Walks done rest all → rest ≡ [] → done ≡ picked all
  ends done rest all walks none = sym (append-nil done) ∙ ap (λ l. done ++ picked l) (sym none) ∙ walks.whole

  pub passes_by : (done : List Y) (k : K) (p : Option X) (rest all : List (K × Option X)) → Walks done ((k, p) ∷ rest) all → picked ((k, p) ∷ rest) ≡ picked rest → Walks done rest all
  passes_by done k p rest all walks same = record {
    whole = ap (λ l. done ++ l) (sym same) ∙ walks.whole;
    sorted = sorted_tail R k (keys_of rest) walks.sorted;
    inside = walks.inside.1;
  }

  pub takes : (done : List Y) (k : K) (p : Option X) (y : Y) (rest all : List (K × Option X)) → Walks done ((k, p) ∷ rest) all → picked ((k, p) ∷ rest) ≡ y ∷ picked rest → Walks (done ++ y ∷ []) rest all
  takes done k p y rest all walks more = record {
    whole = append_assoc done (y ∷ []) (picked rest) ∙ ap (λ l. done ++ l) (sym more) ∙ walks.whole;
    sorted = sorted_tail R k (keys_of rest) walks.sorted;
    inside = walks.inside.1;
  }
