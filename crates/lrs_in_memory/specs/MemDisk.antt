-- What is seen of a disk in memory.
use Rattle.std.specs.Prelude.{◌≡◌, ℕ, List, [], ◌∷◌, ◌++◌, Result, OnOk, OnErr}
use Rattle.lrs_in_memory.specs.Allowance.{Allowance, HasRoom, Spends}
use Rattle.lrs_in_memory.specs.Steps.{Step, IsImage, IsImageSince}
use Rattle.lrs_in_memory.specs.Ledger as ledger_words
use Rattle.lrs_disk.specs.declared.failed.Failed.{Failed}
use Rattle.lrs_in_memory.specs.declared.disk.MemDisk.{MemDisk}

-- the bytes with which it was made
abbrev pub first_of : MemDisk → List ℕ
first_of d = d.first.items

-- what a read gives
abbrev pub bytes_of : MemDisk → List ℕ
bytes_of d = d.bytes.items

-- what its calls did, as far as there was room for them
abbrev pub steps_of : MemDisk → List Step
steps_of d = ledger_words.steps_of d.ledger

-- which calls fail from now on
abbrev pub allowance_of : MemDisk → Allowance
allowance_of d = ledger_words.allowance_of d.ledger

abbrev pub moment_of : MemDisk → ℕ
moment_of d = d.ledger.plan.number

abbrev pub faults_of : MemDisk → ℕ
faults_of d = d.ledger.plan.faults

abbrev pub Leaves : MemDisk → List ℕ → Type 0
Leaves d c = IsImage (steps_of d) (first_of d) c

abbrev pub LeavesSince : MemDisk → ℕ → List ℕ → Type 0
LeavesSince d t c = IsImageSince (steps_of d) (first_of d) (moment_of d) t c

-- A call with n bytes: the step that it made, or the one that failed. Without room it does nothing.
pub record Takes {T : Type 0} (old new : MemDisk) (made tried : Step) (n : ℕ) (result : Result T Failed) : Type 0 where
  pub first : first_of new ≡ first_of old
  pub done : OnOk result (steps_of new ≡ steps_of old ++ made ∷ [])
  pub failed : OnErr result (HasRoom (allowance_of old) n → steps_of new ≡ steps_of old ++ tried ∷ [])
  pub spends : Spends (allowance_of old) (allowance_of new) n result
