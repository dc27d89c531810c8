-- Lists that are filled one by one.
use Rattle.std.proofs.Common.{◌≡◌, ◌+◌, ◌<◌, ℕ, Bool, List, [], ◌∷◌, ◌++◌, length, get_or, take, cond, Option, sym, ap, ◌∙◌, arith, map-id}
use Rattle.std.specs.Prelude.{filter, filter_map, if◌then◌else◌}
use Rattle.std.specs.List.{range_with_len}
use Rattle.std.proofs.lemmas.List.{take_more}
use Rattle.std.proofs.lemmas.List.Elements.{filter_map-append}
use Rattle.std.proofs.lemmas.List.FromFn.{filter_of_map_range_with_len_more}

-- the numbers before the next one that pass, and that one
next_passed : (test : ℕ → Bool) (n : ℕ) → filter test (range_with_len 0 (n + 1)) ≡ filter test (range_with_len 0 n) ++ (if test n then n ∷ [] else [])
next_passed test n =
    ap (λ ks. filter test ks) (sym (map-id (range_with_len 0 (n + 1))))
    ∙ (filter_of_map_range_with_len_more test (λ (k : ℕ). k) 0 n n (omega arith)
    ∙ ap (λ ks. filter test ks ++ cond (test n) (n ∷ []) []) (map-id (range_with_len 0 n)))

pub passed_more : (test : ℕ → Bool) (before now : List ℕ) (n : ℕ) (passes : Bool) → before ≡ filter test (range_with_len 0 n) → now ≡ before ++ (if passes then n ∷ [] else []) → passes ≡ test n
    → now ≡ filter test (range_with_len 0 (n + 1))
passed_more test before now n passes so_far is told =
    is ∙ (ap (λ ks. ks ++ (if passes then n ∷ [] else [])) so_far
    ∙ (ap (λ b. filter test (range_with_len 0 n) ++ (if b then n ∷ [] else [])) told ∙ sym (next_passed test n)))

-- what the first items give, and the next one
pub given_more : {A B : Type 0} (f : A → Option B) (before now : List B) (xs : List A) (i : ℕ) (d : A) → i < length xs → before ≡ filter_map f (take i xs) → now ≡ before ++ filter_map f (get_or xs i d ∷ [])
    → now ≡ filter_map f (take (i + 1) xs)
given_more f before now xs i d less so_far is =
    is ∙ (ap (λ ys. ys ++ filter_map f (get_or xs i d ∷ [])) so_far
    ∙ (sym (filter_map-append f (take i xs) (get_or xs i d ∷ [])) ∙ ap (λ ys. filter_map f ys) (sym (take_more xs i d less))))
