-- Postings that are changed for one key after the other.
use Rattle.std.proofs.Common.{◌≡◌, ◌==◌, ◌⊎◌, ◌-◌, ◌<◌, ◌≤◌, ℕ, List, [], ◌∷◌, ◌++◌, length, get_or, refl, sym, ◌∙◌, ap, subst, arith, eq-eqb, inl, inr, Some, None, Bool, true, false, cond, nat_lt, slice_get, ◌||◌}
use Rattle.std.specs.List.{AllByRecursion}
use Rattle.std.specs.Option.{option_map_or}
use Rattle.std.proofs.lemmas.Bool.Decides.{nat_tests}
use Rattle.std.proofs.lemmas.List.{length_push}
use Rattle.std.proofs.lemmas.List.Elements.{All-from_recursion}
use Rattle.std.proofs.lemmas.Option.{slice_get_cases}
use Rattle.xapi_index.specs.Ahead.{ChangesEach, ChangesSome}
use Rattle.xapi_postings.specs.Ascending.{below}
use Rattle.xapi_postings.specs.Postings.{SamePostings, is_last, posted, posting_of}
use Rattle.xapi_postings.specs.XapiStatementKeysKeyKey.{Key}

-- ---- one change

-- those below a bound are below it
pub below_again : (n : ℕ) (ks : List ℕ) → below n (below n ks) ≡ below n ks
below_again n [] = refl
below_again n (k ∷ ks) = by_test (nat_lt k n) refl (below_again n ks)
  where
    by_test : (b : Bool) → nat_lt k n ≡ b → below n (below n ks) ≡ below n ks → below n (cond b (k ∷ below n ks) (below n ks)) ≡ cond b (k ∷ below n ks) (below n ks)
    by_test true is more = ap (λ b. cond b (k ∷ below n (below n ks)) (below n (below n ks))) is ∙ ap (λ xs. k ∷ xs) more
    by_test false is more = more

got_end : (ks : List ℕ) (k : ℕ) → slice_get (ks ++ k ∷ []) (length ks) ≡ Some k
got_end [] k = refl
got_end (j ∷ ks) k = got_end ks k

last_push : (k : ℕ) (ks : List ℕ) → is_last k (ks ++ k ∷ []) ≡ true
last_push k ks =
    let end : length (ks ++ k ∷ []) - 1 ≡ length ks = omega (arith, length_push ks k) in
    ap (λ o. option_map_or (λ last. last == k) o false) (ap (λ n. slice_get (ks ++ k ∷ []) n) end ∙ got_end ks k) ∙ eq-eqb k k refl

-- a position is put at the end once
pub posted_again : (k : ℕ) (ks : List ℕ) → posted k (posted k ks) ≡ posted k ks
posted_again k ks = by_test (is_last k ks) refl
  where
    by_test : (b : Bool) → is_last k ks ≡ b → posted k (cond b ks (ks ++ k ∷ [])) ≡ cond b ks (ks ++ k ∷ [])
    by_test true is = ap (λ b. cond b ks (ks ++ k ∷ [])) is
    by_test false is = ap (λ b. cond b (ks ++ k ∷ []) ((ks ++ k ∷ []) ++ k ∷ [])) (last_push k ks)

not_last : (last k : ℕ) → last < k → (last == k) ≡ false
not_last last k less = grind (arith, nat_tests)

-- a position that is greater than all comes behind them
pub posted_new : (k : ℕ) (ks : List ℕ) → AllByRecursion (λ j. j < k) ks → posted k ks ≡ ks ++ k ∷ []
posted_new k ks each = ap (λ b. cond b ks (ks ++ k ∷ [])) (by_last (slice_get_cases ks (length ks - 1)).1)
  where
    by_last : (((x : ℕ) × (length ks - 1 < length ks) × (slice_get ks (length ks - 1) ≡ Some x) × (get_or ks (length ks - 1) x ≡ x)) ⊎ ((length ks ≤ length ks - 1) × (slice_get ks (length ks - 1) ≡ None)))
        → is_last k ks ≡ false
    by_last (inl w) =
        let less : w.0 < k = subst (λ j. j < k) w.3 (All-from_recursion (λ j. j < k) ks each (length ks - 1) w.0 w.1) in
        ap (λ o. option_map_or (λ last. last == k) o false) w.2 ∙ not_last w.0 k less
    by_last (inr w) = ap (λ o. option_map_or (λ last. last == k) o false) w.1

-- ---- several keys

-- a change that changes nothing the second time, of some more keys
pub changed_more : (done one next : Key → Bool) (change : List ℕ → List ℕ) (old mid new : List (Key × List ℕ)) → ((ks : List ℕ) → change (change ks) ≡ change ks) → ((k : Key) → next k ≡ (done k || one k))
    → ChangesEach done change old mid → ChangesEach one change mid new → ChangesEach next change old new
changed_more done one next change old mid new again split before after = λ k.
    after k ∙ (ap (λ ks. cond (one k) (change ks) ks) (before k)
    ∙ (by_test (done k) (one k) (posting_of k old) ∙ ap (λ b. cond b (change (posting_of k old)) (posting_of k old)) (sym (split k))))
  where
    by_test : (d o : Bool) (ks : List ℕ) → cond o (change (cond d (change ks) ks)) (cond d (change ks) ks) ≡ cond (d || o) (change ks) ks
    by_test true true ks = again ks
    by_test true false ks = refl
    by_test false true ks = refl
    by_test false false ks = refl

pub changed_same : (passes : Key → Bool) (change : List ℕ → List ℕ) (old mid new : List (Key × List ℕ)) → ChangesEach passes change old mid → SamePostings mid new → ChangesEach passes change old new
changed_same passes change old mid new before same = λ k. same k ∙ before k

-- each of some of the keys
pub changed_some : (passes wider : Key → Bool) (change : List ℕ → List ℕ) (old new : List (Key × List ℕ)) → ((k : Key) → passes k ≡ true → wider k ≡ true) → ChangesEach passes change old new
    → ChangesSome wider change old new
changed_some passes wider change old new among each = λ k. by_test k (passes k) refl (each k)
  where
    by_test : (k : Key) (b : Bool) → passes k ≡ b → posting_of k new ≡ cond b (change (posting_of k old)) (posting_of k old)
        → (posting_of k new ≡ posting_of k old) ⊎ ((wider k ≡ true) × (posting_of k new ≡ change (posting_of k old)))
    by_test k true at is = inr (among k at, is)
    by_test k false at is = inl is
