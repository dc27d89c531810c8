-- Which calls of an object in memory fail.
use Rattle.std.specs.Prelude.{◌≡◌, ◌⊎◌, ◌≤◌, ◌<◌, ◌+◌, ◌-◌, ◌^◌, ◌↔◌, ℕ, List, min, Contains, Result, IsErr, OnOk}
use Rattle.lrs_disk.specs.declared.failed.Failed.{Failed}

-- The calls with these numbers fail, and those that there is no room for. Numbers count from 0.
pub record Allowance : Type 0 where
  pub failing : List ℕ
  -- the next call's
  pub number : ℕ
  -- there is room for calls with a number below
  pub calls : ℕ
  -- there is room for so many bytes more
  pub bytes : ℕ

-- a call with n bytes has room
abbrev pub HasRoom : Allowance → ℕ → Type 0
HasRoom a n = (a.number < a.calls) × (n ≤ a.bytes)

-- the next call, with n bytes, fails
abbrev pub IsDenied : Allowance → ℕ → Type 0
IsDenied a n = Contains a.failing a.number ⊎ (a.calls ≤ a.number) ⊎ (a.bytes < n)

-- a call with n bytes
pub record Spends {T : Type 0} (old new : Allowance) (n : ℕ) (result : Result T Failed) : Type 0 where
  pub fails : IsErr result ↔ IsDenied old n
  pub failing : new.failing ≡ old.failing
  pub number : new.number ≡ min (old.number + 1) (2 ^ 64 - 1)
  pub calls : new.calls ≡ old.calls
  pub spent : OnOk result (n + new.bytes ≡ old.bytes)
  pub least : old.bytes - n ≤ new.bytes
  pub most : new.bytes ≤ old.bytes
