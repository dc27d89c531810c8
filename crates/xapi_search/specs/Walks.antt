-- The walk along references backwards, from positions to those of the statements that refer to them.
use Rattle.std.specs.Prelude.{◌≡◌, ◌<◌, ℕ, Bool, true, false, List, take, Some}
use Rattle.xapi_index.specs.XapiStatementStatements.{referred_at}
use Rattle.xapi_index.specs.XapiPostingsAscending.{is_in}
use Rattle.xapi_index.specs.XapiStatementStored.{StoredStatement}

-- From whichever of the first n statements one refers to one that was found and isn't left, that one was found, too.
abbrev pub IsWalked : List StoredStatement → ℕ → List ℕ → List ℕ → Type 0
IsWalked held n found left = (j k : ℕ) → j < n → referred_at (take n held) j ≡ Some k → is_in found k ≡ true
    → is_in left k ≡ false → is_in found j ≡ true

-- Those that are wanted are found besides those that were. What was found and isn't left to be walked from was found
-- before, and wasn't left.
pub record Notes (wanted : ℕ → Bool) (old new before after : List ℕ) : Type 0 where
  pub kept : (k : ℕ) → is_in old k ≡ true → is_in new k ≡ true
  pub noted : (k : ℕ) → wanted k ≡ true → is_in new k ≡ true
  pub left : (k : ℕ) → is_in new k ≡ true → is_in after k ≡ false → (is_in old k ≡ true) × (is_in before k ≡ false)
