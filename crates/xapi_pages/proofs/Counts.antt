-- The statements that the query lists which asks nothing are those that aren't voided.
use mathlib.Core.List.{reverse-cons}
use Rattle.std.proofs.Common.{◌≡◌, ◌<◌, ◌+◌, ℕ, zero, suc, List, [], ◌∷◌, ◌++◌, length, take, drop, refl, sym, ◌∙◌, ap, Option, Some, None, Bool, true, false, not, ◌&&◌, arith}
use Rattle.std.specs.Prelude.{filter, reverse, slice_get, cond}
use Rattle.std.specs.List.{list_any, range_with_len}
use Rattle.std.specs.Option.{option_map_or}
use Rattle.std.proofs.lemmas.List.{take_all}
use Rattle.xapi_search.specs.XapiStatementStatements.{is_voided}
use Rattle.xapi_pages.specs.Listings.{chain, chain_from, every, is_listed, is_listed_at, listed_of_all}
use Rattle.xapi_search.specs.XapiQueryFilters.{direct, sees}
use Rattle.xapi_search.specs.XapiQuerySightSightTheVariants.{All}
use Rattle.xapi_search.specs.XapiStatementStored.{StoredStatement}
use Rattle.xapi_pages.proofs.Fronts.{drop_at, position_up}

-- ---- one statement

some_of_chain : (statements : List StoredStatement) (steps : ℕ) (s : StoredStatement)
    → list_any (λ c. sees All c && direct every c) (chain_from statements steps (Some s)) ≡ true
some_of_chain statements zero s = refl
some_of_chain statements (suc steps) s = refl

not_voided : (voided met : Bool) → met ≡ true → true && (not voided && (met && true)) ≡ not voided
not_voided true met is = refl
not_voided false met is = rw is refl

listed_one : (statements : List StoredStatement) (s : StoredStatement) → is_listed every All statements s ≡ not (is_voided statements s)
listed_one statements s =
    not_voided (is_voided statements s) (list_any (λ c. sees All c && direct every c) (chain statements s)) (some_of_chain statements (length statements) s)

no_position : {A : Type 0} (xs : List A) (at : ℕ) → at < length xs → slice_get xs at ≡ None → ⊥
no_position [] at near is = absurd (omega (arith, near))
no_position (x ∷ xs) zero near is = cc is
no_position (x ∷ xs) (suc at) near is = no_position xs at (omega (arith, near)) is

listed_here : (statements : List StoredStatement) (at : ℕ) → at < length statements
    → is_listed_at every All statements at ≡ not (option_map_or (is_voided statements) (slice_get statements at) false)
listed_here statements at near = by_one (slice_get statements at) refl
  where
    by_one : (o : Option StoredStatement) → slice_get statements at ≡ o
        → option_map_or (is_listed every All statements) o false ≡ not (option_map_or (is_voided statements) o false)
    by_one None is = absurd (no_position statements at near is)
    by_one (Some s) is = listed_one statements s

-- what the index says of a position
pub counted_at : (statements : List StoredStatement) (n at : ℕ) (voided : Bool) → n ≡ length statements → at < length statements
    → voided ≡ option_map_or (is_voided (take n statements)) (slice_get statements at) false → not voided ≡ is_listed_at every All statements at
counted_at statements n at voided all near is =
    ap not (is ∙ ap (λ (l : List StoredStatement). option_map_or (is_voided l) (slice_get statements at) false) (take_all n statements (omega (arith, all))))
    ∙ sym (listed_here statements at near)

-- ---- all of them

module _ (p : ℕ → Bool) where
  -- how many of these pass
  abbrev pub passing : List ℕ → ℕ
  passing ks = length (filter p ks)

  passing_one : (b : Bool) (k : ℕ) (ks : List ℕ) → length (cond b (k ∷ ks) ks) ≡ cond b 1 0 + length ks
  passing_one true k ks = omega arith
  passing_one false k ks = omega arith

  pub passing_next : (k : ℕ) (ks : List ℕ) → passing (k ∷ ks) ≡ cond (p k) 1 0 + passing ks
  passing_next k ks = passing_one (p k) k (filter p ks)

  passing_both : (ks js : List ℕ) → passing (ks ++ js) ≡ passing ks + passing js
  passing_both [] js = omega arith
  passing_both (k ∷ ks) js = omega (arith, passing_next k (ks ++ js), passing_next k ks, passing_both ks js)

  -- in whichever order
  pub passing_reverse : (ks : List ℕ) → passing (reverse ks) ≡ passing ks
  passing_reverse [] = refl
  passing_reverse (k ∷ ks) =
      let turned : passing (reverse (k ∷ ks)) ≡ passing (reverse ks ++ k ∷ []) = ap passing (reverse-cons k ks) in
      omega (arith, turned, passing_both (reverse ks) (k ∷ []), passing_next k [], passing_next k ks, passing_reverse ks)

  -- at a position
  pub passing_at : (n at : ℕ) → at < n → passing (drop at (range_with_len 0 n)) ≡ cond (p at) 1 0 + passing (drop (at + 1) (range_with_len 0 n))
  passing_at n at near = ap passing (drop_at (range_with_len 0 n) at at (position_up n at near)) ∙ passing_next at (drop (at + 1) (range_with_len 0 n))

pub listed_all : (statements : List StoredStatement) → listed_of_all statements ≡ passing (is_listed_at every All statements) (range_with_len 0 (length statements))
listed_all statements = passing_reverse (is_listed_at every All statements) (range_with_len 0 (length statements))
