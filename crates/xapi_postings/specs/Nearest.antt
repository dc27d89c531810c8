-- The nearest position that passes a test: the least one from a position on, and the greatest one below a position.
use Rattle.std.specs.Prelude.{◌≡◌, ◌<◌, ◌≤◌, ℕ, nat_lt, Bool, true, false, Option, Some, None}

-- the position comes before that one, or anywhere if there is none
abbrev pub is_before : ℕ → Option ℕ → Bool
is_before k None = true
is_before k (Some end) = nat_lt k end

-- the position comes behind that one, or anywhere if there is none
abbrev pub is_after : ℕ → Option ℕ → Bool
is_after k None = true
is_after k (Some start) = nat_lt start k

-- it passes, and none passes that lies between
pub record IsLeastFrom (passes : ℕ → Bool) (start : ℕ) (least : Option ℕ) : Type 0 where
  pub found : (k : ℕ) → least ≡ Some k → (start ≤ k) × (passes k ≡ true)
  pub no_other : (k : ℕ) → start ≤ k → is_before k least ≡ true → passes k ≡ false

pub record IsGreatestBelow (passes : ℕ → Bool) (end : ℕ) (greatest : Option ℕ) : Type 0 where
  pub found : (k : ℕ) → greatest ≡ Some k → (k < end) × (passes k ≡ true)
  pub no_other : (k : ℕ) → k < end → is_after k greatest ≡ true → passes k ≡ false
