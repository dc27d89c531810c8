-- A set of ids doesn't hold more ids in a row than it has.
use Rattle.std.proofs.Common.{◌≡◌, ℕ, zero, suc, ◌+◌, ◌%◌, ◌<◌, ◌≤◌, List, [], ◌∷◌, length, true, false, ◌||◌, inl, inr, refl, sym, ap, ◌∙◌, subst, arith}
use Rattle.std.specs.Cmp.Lexicographic.{slice_cmp, same_text}
use Rattle.std.specs.Int.{to_be_bytes, w128}
use Rattle.std.specs.List.{IsDistinct, AllByRecursion, list_any}
use Rattle.std.specs.Ordering.{nat_cmp, is_eq}
use Rattle.std.specs.Set.{is_member}
use Rattle.std.specs.Str.{bytes_eq}
use Rattle.std.proofs.lemmas.Bool.{cases_lt, false≢true, or_cases}
use Rattle.std.proofs.lemmas.Cmp.{nat_list_eq_equiv}
use Rattle.std.proofs.lemmas.Map.Made.{length-le_from_is_member}
use Rattle.std.proofs.lemmas.Map.Text.{is_eq-slice_cmp}
use Rattle.lrs_ids.specs.Fresh.{IsFreshId}
use Rattle.lrs_names.specs.Ids.{bits_of, id_of_word}
use Rattle.lrs_names.specs.Members.{is_one_of}
use Rattle.lrs_names.proofs.WordBytes.{same_remainder}
use Rattle.lrs_names.specs.declared.id.TheConstants.{WORDS}

-- ---- words

-- words that are less than `WORDS` apart have different ids
apart : (w j k : ℕ) → j < k → k < WORDS → id_of_word (w + j) ≡ id_of_word (w + k) → ⊥
apart w j k less small e = let same : (w + j) % WORDS ≡ (w + k) % WORDS = same_remainder (w + j) (w + k) e in omega arith

pub id_of_word-mod : (w k : ℕ) → id_of_word (w % WORDS + k) ≡ id_of_word (w + k)
id_of_word-mod w k = let same : (w % WORDS + k) % WORDS ≡ (w + k) % WORDS = omega arith in ap (λ n. to_be_bytes w128 (bits_of n)) same

-- ---- sets

pub has_id : (id : List ℕ) (ids : List (List ℕ)) → list_any (λ other. is_eq (slice_cmp nat_cmp id other)) ids ≡ is_one_of ids id
has_id id [] = refl
has_id id (other ∷ ids) = ap (λ b. b || list_any (λ o. is_eq (slice_cmp nat_cmp id o)) ids) (is_eq-slice_cmp id other ∙ nat_list_eq_equiv.symm id other) ∙ ap (λ b. bytes_eq other id || b) (has_id id ids)

is_one_of-is_member : (ids : List (List ℕ)) (id : List ℕ) → is_one_of ids id ≡ is_member bytes_eq ids id
is_one_of-is_member [] id = refl
is_one_of-is_member (other ∷ ids) id = ap (λ b. b || is_one_of ids id) (nat_list_eq_equiv.symm other id) ∙ ap (λ b. bytes_eq id other || b) (is_one_of-is_member ids id)

-- the ids of n words from w on, the last first
row : ℕ → ℕ → List (List ℕ)
row w zero = []
row w (suc n) = id_of_word (w + n) ∷ row w n

length-row : (w n : ℕ) → length (row w n) ≡ n
unfolding row
length-row w zero = refl
length-row w (suc n) = ap suc (length-row w n)

-- what is in the row is the id of one of its words
in_row : (w n : ℕ) (id : List ℕ) → is_member bytes_eq (row w n) id ≡ true → (k : ℕ) × (k < n) × (id ≡ id_of_word (w + k))
unfolding row
in_row w zero id e = absurd (false≢true e)
in_row w (suc n) id e = elim (or_cases (bytes_eq id (id_of_word (w + n))) (is_member bytes_eq (row w n) id) e) [
  | inl same ↦ (n, omega arith, same_text id (id_of_word (w + n)) (sym same))
  | inr later ↦ let found = in_row w n id later in (found.0, omega (arith, found.1), found.2)
]

pub differs : (xs ys : List ℕ) → (xs ≡ ys → ⊥) → bytes_eq xs ys ≡ false
differs xs ys ne = elim (bytes_eq xs ys) as (λ b. bytes_eq xs ys ≡ b → b ≡ false) [ true ↦ λ e. absurd (ne (same_text xs ys (sym e))) | false ↦ λ e. refl ] refl

all_apart : (w n k : ℕ) → n ≤ k → k < WORDS → AllByRecursion (λ y. bytes_eq (id_of_word (w + k)) y ≡ false) (row w n)
unfolding row
all_apart w zero k less small = tt
all_apart w (suc n) k less small = (differs (id_of_word (w + k)) (id_of_word (w + n)) (λ e. apart w n k (omega arith) small (sym e)), all_apart w n k (omega arith) small)

IsDistinct-row : (w n : ℕ) → n ≤ WORDS → IsDistinct bytes_eq (row w n)
unfolding row IsDistinct
IsDistinct-row w zero small = tt
IsDistinct-row w (suc n) small = (all_apart w n n (omega arith) (omega arith), IsDistinct-row w n (omega arith))

-- the ids of the first n words are used
pub record AllUsed (ids : List (List ℕ)) (w n : ℕ) : Type 0 where
  pub used : (k : ℕ) → k < n → is_one_of ids (id_of_word (w + k)) ≡ true

pub none_used : (ids : List (List ℕ)) (w : ℕ) → AllUsed ids w 0
none_used ids w = record { used = λ k less. absurd (omega arith) }

pub one_more_used : (ids : List (List ℕ)) (w n : ℕ) → AllUsed ids w n → is_one_of ids (id_of_word (w + n)) ≡ true → AllUsed ids w (n + 1)
one_more_used ids w n so_far here = record {
  used = λ k less. elim (cases_lt k n) [
    | inl earlier ↦ so_far.used k earlier
    | inr last ↦ let same : n ≡ k = omega arith in subst (λ i. is_one_of ids (id_of_word (w + i)) ≡ true) same here
  ];
}

pub not_all_used : (ids : List (List ℕ)) (w n : ℕ) → n ≤ WORDS → length ids < n → AllUsed ids w n → ⊥
not_all_used ids w n small more all =
    let fits : length (row w n) ≤ length ids = length-le_from_is_member nat_list_eq_equiv (row w n) ids (IsDistinct-row w n small) (λ q e.
    let found : (k : ℕ) × (k < n) × (q ≡ id_of_word (w + k)) = in_row w n q e in
    sym (is_one_of-is_member ids q) ∙ ap (λ id. is_one_of ids id) found.2 ∙ all.used found.0 found.1) in
    omega (arith, fits, length-row w n)

pub first_fresh : (ids : List (List ℕ)) (w n : ℕ) (id : List ℕ) → AllUsed ids w n → id ≡ id_of_word (w % WORDS + n) → is_one_of ids id ≡ false → IsFreshId ids w id
first_fresh ids w n id all made unused = record { skipped = n; made = made ∙ id_of_word-mod w n; unused = unused; earlier = all.used }
