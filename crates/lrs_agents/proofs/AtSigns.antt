-- What stands before and after the last at sign of a text.
use Rattle.std.proofs.Common.{◌≡◌, ℕ, ◌+◌, ◌-◌, ◌<◌, ◌≤◌, ◌≢◌, List, [], ◌∷◌, length, get_or, true, false, not, ◌&&◌, nat_lt, refl, ◌∙◌, arith}
use Rattle.std.specs.List.{before_last, after_last, suffix_len}
use Rattle.std.proofs.lemmas.Grind.{common_steps}
use Rattle.std.proofs.lemmas.Bool.Decides.{nat_tests}
use Rattle.std.proofs.lemmas.List.Sums.{suffix_len_is}
use Rattle.lrs_names.specs.Iris.{has_some}
use Rattle.lrs_agents.specs.Agents.{is_at_sign}

has_some-nat_lt : (xs : List ℕ) → has_some xs ≡ nat_lt 0 (length xs)
has_some-nat_lt [] = refl
has_some-nat_lt (x ∷ xs) = grind (arith, nat_tests)

no_at_sign : (b : ℕ) → b ≢ 64 → not (is_at_sign b) ≡ true
no_at_sign b ne = grind (arith, nat_tests)

at_sign : (b : ℕ) → b ≡ 64 → not (is_at_sign b) ≡ false
at_sign b e = grind (arith, nat_tests)

-- the last at sign stands at k
suffix_at : (text : List ℕ) (k : ℕ) → k < length text → get_or text k 0 ≡ 64 → ((i : ℕ) → k < i → i < length text → get_or text i 0 ≢ 64)
    → suffix_len (λ b. not (is_at_sign b)) text ≡ length text - (k + 1)
suffix_at text k within here behind =
    let same : k + 1 - 1 ≡ k = omega arith in
    let before : get_or text (k + 1 - 1) 0 ≡ 64 = rw same here in
    suffix_len_is (λ b. not (is_at_sign b)) text (k + 1) 0 (omega arith) (λ i above inside. no_at_sign _ (behind i (omega arith) inside)) (λ pos. at_sign _ before)

suffix_none : (text : List ℕ) → ((i : ℕ) → i < length text → get_or text i 0 ≢ 64) → suffix_len (λ b. not (is_at_sign b)) text ≡ length text
suffix_none text none =
    let all : length text - 0 ≡ length text = omega arith in
    suffix_len_is (λ b. not (is_at_sign b)) text 0 0 (omega arith) (λ i above inside. no_at_sign _ (none i inside)) (λ pos. absurd (omega arith)) ∙ all

pub around_none : (text : List ℕ) → ((i : ℕ) → i < length text → get_or text i 0 ≢ 64) → (has_some (before_last is_at_sign text) && has_some (after_last is_at_sign text)) ≡ false
around_none text none = rw (suffix_none text none) (grind (arith, common_steps, has_some-nat_lt))

-- the last at sign stands there
abbrev pub IsLastAt : List ℕ → ℕ → Type 0
IsLastAt text k = (k < length text) × (get_or text k 0 ≡ 64) × ((i : ℕ) → k < i → i < length text → get_or text i 0 ≢ 64)

around : (text : List ℕ) (k : ℕ) → IsLastAt text k → (has_some (before_last is_at_sign text) && has_some (after_last is_at_sign text)) ≡ (nat_lt 0 k && nat_lt (k + 1) (length text))
around text k is = let within : k < length text = is.0 in rw (suffix_at text k is.0 is.1 is.2) (grind (arith, common_steps, has_some-nat_lt))

pub around_at : (text : List ℕ) (k : ℕ) → IsLastAt text k → 0 < k → nat_lt (k + 1) (length text) ≡ (has_some (before_last is_at_sign text) && has_some (after_last is_at_sign text))
around_at text k is later = rw (around text k is) (grind (arith, nat_tests))

pub around_start : (text : List ℕ) (k : ℕ) → IsLastAt text k → k ≤ 0 → nat_lt 0 k ≡ (has_some (before_last is_at_sign text) && has_some (after_last is_at_sign text))
around_start text k is first = rw (around text k is) (grind (arith, nat_tests))
