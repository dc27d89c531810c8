-- Tallies in the list of registrations: one in place of another, or behind all others.
use Rattle.std.proofs.Common.{◌≡◌, ◌∙◌, ◌<◌, ℕ, zero, suc, List, [], ◌∷◌, ◌++◌, length, get_or, Option, Some, None, refl, sym, ap, subst, arith}
use Rattle.std.specs.Prelude.{slice_get, slice_set}
use Rattle.std.specs.Option.{option_map_or}
use Rattle.std.proofs.lemmas.List.{get_or-set_same, length-set}
use Rattle.std.proofs.lemmas.Option.{get_or_from_slice_get, none-some, same_Some, slice_get-get_or, slice_get_within}
use Rattle.cmi5_running_verdicts.specs.Running.{HasCounted, SeenRunning, TalliesStandFor}
use Rattle.cmi5_running_verdicts.specs.Tallies.{AreTallies}
use Rattle.cmi5_running_verdicts.specs.declared.tally.Tally.{Tally}
use Rattle.cmi5_verdict.specs.Cmi5SessionMarked.{MarkedStatement}
use Rattle.cmi5_verdict.specs.Nodes.{SeenEnrolment}

-- ---- in place of another

put : (xs : List (List Tally)) (i : ℕ) (ts : List Tally) → i < length xs → slice_get (slice_set xs i ts) i ≡ Some ts
put xs i ts lt =
    slice_get-get_or (slice_set xs i ts) i ts (subst (λ n. i < n) (sym (length-set xs i ts)) lt) ∙ ap Some (get_or-set_same xs i ts ts lt)

-- the others stay
pub put_other : {A : Type 0} (xs : List A) (i k : ℕ) (x : A) → (k ≡ i → ⊥) → slice_get (slice_set xs i x) k ≡ slice_get xs k
put_other [] i k x apart = refl
put_other (y ∷ ys) zero zero x apart = absurd (apart refl)
put_other (y ∷ ys) zero (suc k) x apart = refl
put_other (y ∷ ys) (suc i) zero x apart = refl
put_other (y ∷ ys) (suc i) (suc k) x apart = put_other ys i k x (λ e. apart (ap suc e))

held_there : (xs : List (List Tally)) (r : SeenRunning) (i : ℕ) (e : SeenEnrolment) (those : List MarkedStatement) → xs ≡ r.held → (stands : TalliesStandFor r those i e) → slice_get xs i ≡ Some stands.tallies
held_there xs r i e those same stands = ap (λ (ys : List (List Tally)). slice_get ys i) same ∙ stands.held

pub stands_within : (xs : List (List Tally)) (r : SeenRunning) (i : ℕ) (e : SeenEnrolment) (those : List MarkedStatement) → xs ≡ r.held → TalliesStandFor r those i e → i < length xs
stands_within xs r i e those same stands = slice_get_within xs i stands.tallies (held_there xs r i e those same stands)

-- tallies that count on
pub put_in : (xs : List (List Tally)) (r : SeenRunning) (i : ℕ) (old new : List Tally) (e : SeenEnrolment) (before after : List MarkedStatement)
    → xs ≡ r.held → old ≡ get_or xs i old → (AreTallies e before old → AreTallies e after new) → TalliesStandFor r before i e
    → (slice_get (slice_set xs i new) i ≡ Some new) × AreTallies e after new
put_in xs r i old new e before after same is step stands =
    let there : slice_get xs i ≡ Some stands.tallies = held_there xs r i e before same stands in
    let one : old ≡ stands.tallies = is ∙ get_or_from_slice_get xs i stands.tallies old there in
    (put xs i new (slice_get_within xs i stands.tallies there), step (subst (λ (ts : List Tally). AreTallies e before ts) (sym one) stands.are))

-- ---- behind all others

pub last_held : {A : Type 0} (xs : List A) (y : A) → slice_get (xs ++ y ∷ []) (length xs) ≡ Some y
last_held [] y = refl
last_held (x ∷ xs) y = last_held xs y

before_held : {A : Type 0} (xs : List A) (y : A) (k : ℕ) → k < length xs → slice_get (xs ++ y ∷ []) k ≡ slice_get xs k
before_held [] y k lt = absurd (omega arith)
before_held (x ∷ xs) y zero lt = refl
before_held (x ∷ xs) y (suc k) lt = before_held xs y k (omega arith)

pub at_end : (xs old all : List (List Tally)) (ts : List Tally) → all ≡ xs ++ ts ∷ [] → xs ≡ old → slice_get all (length old) ≡ Some ts
at_end xs old all ts is same =
    ap (λ (ys : List (List Tally)). slice_get ys (length old)) is
    ∙ (ap (λ (ys : List (List Tally)). slice_get (xs ++ ts ∷ []) (length ys)) (sym same) ∙ last_held xs ts)

pub others_stay : (xs old all : List (List Tally)) (ts : List Tally) → all ≡ xs ++ ts ∷ [] → xs ≡ old → (k : ℕ) → k < length old → slice_get all k ≡ slice_get old k
others_stay xs old all ts is same k lt =
    ap (λ (ys : List (List Tally)). slice_get ys k) is
    ∙ (before_held xs ts k (subst (λ (ys : List (List Tally)). k < length ys) (sym same) lt) ∙ ap (λ (ys : List (List Tally)). slice_get ys k) same)

-- ---- what was made ahead

pub is_counted : (r : SeenRunning) (those : List MarkedStatement) (e : SeenEnrolment) (coming : Option (List Tally)) (ts : List Tally)
    → HasCounted r those e → coming ≡ r.coming → coming ≡ Some ts → AreTallies e those ts
is_counted r those e coming ts counted is there =
    subst (λ (us : List Tally). AreTallies e those us) (same_Some counted.tallies ts (sym counted.coming ∙ (sym is ∙ there))) counted.are

pub never_none : (r : SeenRunning) (those : List MarkedStatement) (e : SeenEnrolment) (coming : Option (List Tally)) → HasCounted r those e → coming ≡ r.coming → coming ≡ None → ⊥
never_none r those e coming counted is none = none-some counted.tallies (sym none ∙ (is ∙ counted.coming))

-- ---- what stands

-- the tallies of a registration, as they are lent
pub tallies_in : (r : SeenRunning) (number : ℕ) (e : SeenEnrolment) (those : List MarkedStatement) (ts : List Tally)
    → ts ≡ option_map_or (λ (us : List Tally). us) (slice_get r.held number) [] → TalliesStandFor r those number e → AreTallies e those ts
tallies_in r number e those ts is stands =
    let one : ts ≡ stands.tallies = is ∙ ap (λ (o : Option (List Tally)). option_map_or (λ (us : List Tally). us) o []) stands.held in
    subst (λ (us : List Tally). AreTallies e those us) (sym one) stands.are

-- they stand for other statements that tell the same
pub stands_on : (r : SeenRunning) (number : ℕ) (e : SeenEnrolment) (before after : List MarkedStatement)
    → ((ts : List Tally) → AreTallies e before ts → AreTallies e after ts) → TalliesStandFor r before number e → TalliesStandFor r after number e
stands_on r number e before after step stands = record { tallies = stands.tallies; held = stands.held; are = step stands.tallies stands.are }

-- where the same tallies are held, they stand for the same
pub stands_same : (old new : SeenRunning) (number : ℕ) (e : SeenEnrolment) (those : List MarkedStatement)
    → slice_get new.held number ≡ slice_get old.held number → TalliesStandFor old those number e → TalliesStandFor new those number e
stands_same old new number e those same stands = record { tallies = stands.tallies; held = same ∙ stands.held; are = stands.are }
