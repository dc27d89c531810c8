-- A word that is free is found where there are more words than ids that are used or asked for.
use Rattle.std.proofs.Common.{◌≡◌, ℕ, zero, suc, ◌+◌, ◌%◌, ◌<◌, ◌≤◌, List, ◌∷◌, ◌++◌, length, Bool, true, false, ◌||◌, ◌⊎◌, inl, inr, Some, cond, refl, sym, ap, subst, ◌∙◌, arith, length-append}
use Rattle.std.proofs.lemmas.Bool.{not-false, not-true, or_parts}
use Rattle.std.specs.Prelude.{find, unwrap_or}
use Rattle.std.specs.Str.{bytes_eq}
use Rattle.std.proofs.lemmas.List.Folds.{list_any-append}
use Rattle.lrs_ids.proofs.FreshLemmas.{not_all_used}
use Rattle.lrs_ids.specs.Ids.{Used, IsCounted, free_word, is_free, words_from}
use Rattle.lrs_names.specs.Ids.{id_of_word}
use Rattle.lrs_names.specs.Members.{is_one_of}
use Rattle.lrs_names.specs.declared.id.TheConstants.{WORDS}

-- ---- the search

-- it ends at a word that passes, or none of them does
search_ends : (p : ℕ → Bool) (n word : ℕ) → (p (unwrap_or (find p (words_from n word)) (word + n)) ≡ true) ⊎ ((k : ℕ) → k ≤ n → p (word + k) ≡ false)
search_ends p zero word = by_last (p (word + 0)) refl
  where
    by_last : (b : Bool) → p (word + 0) ≡ b → (p (word + 0) ≡ true) ⊎ ((k : ℕ) → k ≤ 0 → p (word + k) ≡ false)
    by_last true is = inl is
    by_last false is = inr (λ k le. let none : 0 ≡ k = omega arith in subst (λ i. p (word + i) ≡ false) none is)
search_ends p (suc n) word = by_first (p word) refl (search_ends p n (word + 1))
  where
    shifted : (word + 1) + n ≡ word + suc n
    shifted = omega arith

    by_first : (b : Bool) → p word ≡ b → (p (unwrap_or (find p (words_from n (word + 1))) ((word + 1) + n)) ≡ true) ⊎ ((k : ℕ) → k ≤ n → p ((word + 1) + k) ≡ false)
        → (p (unwrap_or (cond (p word) (Some word) (find p (words_from n (word + 1)))) (word + suc n)) ≡ true) ⊎ ((k : ℕ) → k ≤ suc n → p (word + k) ≡ false)
    by_first true is rest = inl (ap (λ b. p (unwrap_or (cond b (Some word) (find p (words_from n (word + 1)))) (word + suc n))) is ∙ is)
    by_first false is (inl found) =
        inl (ap (λ b. p (unwrap_or (cond b (Some word) (find p (words_from n (word + 1)))) (word + suc n))) is ∙ (ap (λ m. p (unwrap_or (find p (words_from n (word + 1))) m)) (sym shifted) ∙ found))
    by_first false is (inr none) = inr each
      where
        each : (k : ℕ) → k ≤ suc n → p (word + k) ≡ false
        each zero le = let here : word ≡ word + 0 = omega arith in subst (λ w. p w ≡ false) here is
        each (suc k) le = let there : (word + 1) + k ≡ word + suc k = omega arith in subst (λ w. p w ≡ false) there (none k (omega arith))

-- where no more ids are used than are tried, one is free
free_word-free : (used : Used) → IsCounted used → (ids : List (List ℕ)) (most word : ℕ) → used.count + length ids ≤ most → most < WORDS → is_free used ids (free_word used ids most word) ≡ true
free_word-free used counted ids most word fits small = by_end (search_ends (is_free used ids) most word)
  where
    there : (q : List ℕ) → is_one_of (counted.ids ++ ids) q ≡ used.is_used q || is_one_of ids q
    there q = list_any-append (λ name. bytes_eq name q) counted.ids ids ∙ ap (λ b. b || is_one_of ids q) (sym (counted.same q))

    fewer : length (counted.ids ++ ids) < most + 1
    fewer = omega (arith, fits, length-append counted.ids ids, counted.count)

    by_end : (is_free used ids (free_word used ids most word) ≡ true) ⊎ ((k : ℕ) → k ≤ most → is_free used ids (word + k) ≡ false) → is_free used ids (free_word used ids most word) ≡ true
    by_end (inl is) = is
    by_end (inr none) =
        absurd (not_all_used (counted.ids ++ ids) word (most + 1) (omega arith) fewer
        (record { used = λ k less. there (id_of_word (word + k)) ∙ not-false (used.is_used (id_of_word (word + k)) || is_one_of ids (id_of_word (word + k))) (none k (omega arith)) }))

-- ---- ids that are made one after the other

-- Enough words are tried for the ids that are used, and there are enough for those that are to be made.
abbrev pub Suffices : Used → List (List ℕ) → ℕ → ℕ → Type 0
Suffices used ids most n = (used.count + length ids ≤ most) × (most + n < WORDS)

pub one_made : (used : Used) (id : List ℕ) (ids : List (List ℕ)) (most n : ℕ) → Suffices used ids most (suc n) → Suffices used (id ∷ ids) (most + 1) n
one_made used id ids most n fits = (omega (arith, fits.0), omega (arith, fits.1))

-- the id of such a word isn't used, and is none of these
pub made_free : (used : Used) → IsCounted used → (ids : List (List ℕ)) (most word n : ℕ) → Suffices used ids most (suc n)
    → (used.is_used (id_of_word (free_word used ids most word)) ≡ false) × (is_one_of ids (id_of_word (free_word used ids most word)) ≡ false)
made_free used counted ids most word n fits =
    let free = not-true (used.is_used (id_of_word (free_word used ids most word)) || is_one_of ids (id_of_word (free_word used ids most word)))
    (free_word-free used counted ids most word fits.0 (omega (arith, fits.1))) in (
      (or_parts (used.is_used (id_of_word (free_word used ids most word))) (is_one_of ids (id_of_word (free_word used ids most word))) free).0,
      (or_parts (used.is_used (id_of_word (free_word used ids most word))) (is_one_of ids (id_of_word (free_word used ids most word))) free).1,
    )

-- where the next made id begins
abbrev pub next_word : ℕ → ℕ
next_word free = (free + 1) % WORDS
