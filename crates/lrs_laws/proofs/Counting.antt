-- How many items of a list pass a test.
use Rattle.std.proofs.Common.{◌≡◌, ◌⊎◌, inl, inr, ℕ, zero, suc, ◌+◌, ◌<◌, ◌≤◌, List, [], ◌∷◌, ◌++◌, length, Bool, true, false, ◌&&◌, cond, refl, sym, ap, ◌∙◌, arith, length-append, true≢false}
use Rattle.std.specs.Prelude.{filter, if◌then◌else◌}
use Rattle.std.specs.List.{AllByRecursion, range_with_len}
use Rattle.std.proofs.lemmas.List.Elements.{filter-append}
use Rattle.xapi_statement.specs.Statements.{add, add_each, is_held}
use Rattle.xapi_statement.specs.Stored.{StoredStatement}

abbrev pub many : {A : Type 0} → (A → Bool) → List A → ℕ
many p xs = length (filter p xs)

pub many-append : {A : Type 0} (p : A → Bool) (xs ys : List A) → many p (xs ++ ys) ≡ many p xs + many p ys
many-append p xs ys = ap (λ l. length l) (filter-append p xs ys) ∙ length-append (filter p xs) (filter p ys)

pub none_many : {A : Type 0} (p : A → Bool) (xs : List A) → AllByRecursion (λ x. p x ≡ false) xs → many p xs ≡ 0
none_many p [] each = refl
none_many p (x ∷ xs) each = ap (λ b. length (cond b (x ∷ filter p xs) (filter p xs))) each.0 ∙ none_many p xs each.1

-- none passes, or one does
pub some_passes : {A : Type 0} (p : A → Bool) (xs : List A) → (many p xs ≡ 0) ⊎ ((x : A) × (p x ≡ true))
some_passes p [] = inl refl
some_passes {A} p (x ∷ xs) = by_test (p x) refl (some_passes p xs)
  where
    by_test : (b : Bool) → p x ≡ b → (many p xs ≡ 0) ⊎ ((y : A) × (p y ≡ true)) → (length (cond b (x ∷ filter p xs) (filter p xs)) ≡ 0) ⊎ ((y : A) × (p y ≡ true))
    by_test true is rest = inr (x, is)
    by_test false is rest = rest

-- ---- two lists

-- one item more in both, of which the second passes where the first does
pub many_both : {A B : Type 0} (p : A → Bool) (q : B → Bool) (x : A) (y : B) (xs : List A) (ys : List B) → (p x ≡ true → q y ≡ true) → many p xs ≤ many q ys → many p (x ∷ xs) ≤ many q (y ∷ ys)
many_both p q x y xs ys so rest = by_tests (p x) (q y) refl refl
  where
    by_tests : (b c : Bool) → p x ≡ b → q y ≡ c → length (cond b (x ∷ filter p xs) (filter p xs)) ≤ length (cond c (y ∷ filter q ys) (filter q ys))
    by_tests true true is at = let more : suc (many p xs) ≤ suc (many q ys) = omega (arith, rest) in more
    by_tests true false is at = absurd (true≢false (sym (so is) ∙ at))
    by_tests false true is at = let more : many p xs ≤ suc (many q ys) = omega (arith, rest) in more
    by_tests false false is at = rest

pub many_more : {A B : Type 0} (p : A → Bool) (q : B → Bool) (y : B) (xs : List A) (ys : List B) → many p xs ≤ many q ys → many p xs ≤ many q (y ∷ ys)
many_more p q y xs ys rest = by_test (q y)
  where
    by_test : (c : Bool) → many p xs ≤ length (cond c (y ∷ filter q ys) (filter q ys))
    by_test true = let more : many p xs ≤ suc (many q ys) = omega (arith, rest) in more
    by_test false = rest

-- ---- statements that are added

many_add : (p : StoredStatement → Bool) (held : List StoredStatement) (x : StoredStatement) → many p (add held x) ≤ many p held + many p (x ∷ [])
many_add p held x = by_held (is_held x.id held)
  where
    by_held : (b : Bool) → many p (if b then held else held ++ x ∷ []) ≤ many p held + many p (x ∷ [])
    by_held true = let old : many p held ≤ many p held + many p (x ∷ []) = omega arith in old
    by_held false =
        let both : many p (held ++ x ∷ []) ≡ many p held + many p (x ∷ []) = many-append p held (x ∷ []) in
        let new : many p (held ++ x ∷ []) ≤ many p held + many p (x ∷ []) = omega (arith, both) in
        new

pub many_each : (p : StoredStatement → Bool) (held xs : List StoredStatement) → many p (add_each held xs) ≤ many p held + many p xs
many_each p held [] = let old : many p held ≤ many p held + 0 = omega arith in old
many_each p held (x ∷ xs) =
    let whole : many p (x ∷ xs) ≡ many p (x ∷ []) + many p xs = many-append p (x ∷ []) xs in
    let later : many p (add_each held (x ∷ xs)) ≤ many p (add held x) + many p xs = many_each p (add held x) xs in
    let one : many p (add held x) ≤ many p held + many p (x ∷ []) = many_add p held x in
    omega (arith, whole, later, one)

-- ---- numbers

-- of those that pass one test, those that pass another
pub many_filter : (p q : ℕ → Bool) (xs : List ℕ) → many p (filter q xs) ≡ many (λ x. q x && p x) xs
many_filter p q [] = refl
many_filter p q (x ∷ xs) = by_first (q x) (many_filter p q xs)
  where
    first : List ℕ
    first = filter p (filter q xs)

    both : List ℕ
    both = filter (λ y. q y && p y) xs

    by_second : (c : Bool) → length first ≡ length both → length (cond c (x ∷ first) first) ≡ length (cond c (x ∷ both) both)
    by_second true rest = ap (λ n. suc n) rest
    by_second false rest = rest

    by_first : (b : Bool) → length first ≡ length both → length (filter p (cond b (x ∷ filter q xs) (filter q xs))) ≡ length (cond (b && p x) (x ∷ both) both)
    by_first true rest = by_second (p x) rest
    by_first false rest = rest

none_in_row : (p : ℕ → Bool) (a k : ℕ) → ((x : ℕ) → a ≤ x → x < a + k → p x ≡ false) → many p (range_with_len a k) ≡ 0
none_in_row p a zero none = refl
none_in_row p a (suc k) none =
    ap (λ b. length (cond b (a ∷ filter p (range_with_len (a + 1) k)) (filter p (range_with_len (a + 1) k)))) (none a (omega arith) (omega arith))
    ∙ none_in_row p (a + 1) k (λ x low high. none x (omega (arith, low)) (omega (arith, high)))

-- where two that pass are the same
pub one_in_row : (p : ℕ → Bool) (n : ℕ) → ((x y : ℕ) → x < n → y < n → p x ≡ true → p y ≡ true → x ≡ y) → (a k : ℕ) → a + k ≤ n → many p (range_with_len a k) ≤ 1
one_in_row p n same a zero fits = let none : 0 ≤ 1 = omega arith in none
one_in_row p n same a (suc k) fits = by_test (p a) refl (one_in_row p n same (a + 1) k (omega (arith, fits)))
  where
    behind : List ℕ
    behind = range_with_len (a + 1) k

    other : (x : ℕ) → p a ≡ true → a + 1 ≤ x → x < (a + 1) + k → (b : Bool) → p x ≡ b → b ≡ false
    other x is low high true at = let one : a ≡ x = same a x (omega (arith, fits)) (omega (arith, high, fits)) is at in absurd (omega (arith, one, low))
    other x is low high false at = refl

    by_test : (b : Bool) → p a ≡ b → many p behind ≤ 1 → length (cond b (a ∷ filter p behind) (filter p behind)) ≤ 1
    by_test true is rest =
        let none : many p behind ≡ 0 = none_in_row p (a + 1) k (λ x low high. other x is low high (p x) refl) in
        let one : suc (many p behind) ≤ 1 = omega (arith, none) in
        one
    by_test false is rest = rest
