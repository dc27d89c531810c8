-- What the calls of a disk do to what a read gives, and what a crash may do between two syncs.
use Rattle.std.specs.Prelude.{◌≡◌, ◌⊎◌, ◌^◌, ◌-◌, ℕ, ◌+◌, ◌≤◌, max, min, List, ◌++◌, length, take, drop, Option, Some}
use Rattle.std.specs.Prelude.{None}

-- old with these bytes at this offset
abbrev pub written : List ℕ → ℕ → List ℕ → List ℕ
written old offset bytes = take offset old ++ bytes ++ drop (offset + length bytes) old

-- after a write of n bytes that a crash cuts short: any bytes in the range and past the old end, the same elsewhere
pub record Torn (offset n : ℕ) (old new : List ℕ) : Type 0 where
  pub before : take offset new ≡ take offset old
  pub after : drop (offset + n) new ≡ drop (offset + n) old
  pub no_shorter : length old ≤ length new
  pub no_longer : length new ≤ max (length old) (offset + n)

-- after a cut that a crash may undo: the old bytes up to some length between
pub record Cut (n : ℕ) (old new : List ℕ) : Type 0 where
  pub no_shorter : min n (length old) ≤ length new
  pub front : take (length new) old ≡ new

-- what was told stays told, and goes on by a step
abbrev pub BothTold : (List ℕ → List ℕ → Type 0) → Option (List ℕ) → Option (List ℕ) → Type 0
BothTold step None None = Unit {0}
BothTold step None (Some c) = ⊥
BothTold step (Some b) None = ⊥
BothTold step (Some b) (Some c) = step b c

-- each of the new bytes comes from some of the old ones by a step
abbrev pub Follows : (List ℕ → List ℕ → Type 0) → (List ℕ → Type 0) → (List ℕ → Type 0) → Type 0
Follows step old new = (c : List ℕ) → new c → (d : List ℕ) × old d × step d c

-- each of the new bytes is one of the old ones
abbrev pub Within : (List ℕ → Type 0) → (List ℕ → Type 0) → Type 0
Within old new = (c : List ℕ) → new c → old c

-- A moment later: a crash since t might have left what it might have left before, or what it may leave now.
pub record Elapses (before now : ℕ) (past since : ℕ → List ℕ → Type 0) (image : List ℕ → Type 0) : Type 0 where
  pub later : before ≤ now
  pub next : (now ≡ before + 1) ⊎ (now ≡ 2 ^ 64 - 1)
  pub nothing_else : (t : ℕ) (c : List ℕ) → t ≤ before → since t c → past t c ⊎ image c
  pub keeps : (t : ℕ) (c : List ℕ) → t ≤ before → past t c → since t c

-- A crash at any moment since old leaves bytes that have P.
pub record LeavesOnly {D : Type 0} (time : D → ℕ) (image_since : D → ℕ → List ℕ → Type 0) (old new : D)
    (P : List ℕ → Type 0) : Type 0 where
  pub later : time old ≤ time new
  pub each : (c : List ℕ) → image_since new (time old) c → P c
  -- for a run that began earlier
  pub before : (t : ℕ) (c : List ℕ) → t ≤ time old → image_since new t c → image_since old t c ⊎ P c
