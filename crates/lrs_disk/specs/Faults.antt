-- The one cause of a fault: the object's count of failed calls.
use Rattle.std.specs.Prelude.{◌<◌, ◌≡◌, ◌⊎◌, ◌^◌, ◌-◌, ℕ, ◌≤◌, Result, IsOk, IsErr}
use Rattle.lrs_disk.specs.declared.failed.Failed.{Failed}

-- the count rose, or stands at its last value
abbrev pub Rises : ℕ → ℕ → Type 0
Rises before now = (before < now) ⊎ (now ≡ 2 ^ 64 - 1)

-- a count never falls, and a call fails only if it rises
pub record HasCause {T : Type 0} (before now : ℕ) (result : Result T Failed) : Type 0 where
  pub later : before ≤ now
  pub failed : IsErr result → Rises before now
  pub kept : IsOk result → now ≡ before
