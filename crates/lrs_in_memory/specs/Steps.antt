-- What the calls of a disk leave, one after the other: what a read gives, and what a crash may leave.
use Rattle.std.specs.Prelude.{◌≡◌, ◌⊎◌, ◌≤◌, ℕ, List, [], ◌∷◌, ◌++◌, length, take, replicate, nat_le, if◌then◌else◌}
use Rattle.lrs_disk.specs.Disk.{written, Torn, Cut}
use Rattle.lrs_in_memory.specs.declared.call.Pending.{Pending}
use Rattle.lrs_in_memory.specs.declared.call.Pending.TheVariants as pendings

-- what a call did: a write or a cut that failed may have reached the disk or not
pub data Step : Type 0 where
  Nothing : Step
  Wrote : ℕ → List ℕ → Step
  FailedWrite : ℕ → List ℕ → Step
  CutTo : ℕ → Step
  FailedCut : ℕ → Step
  Synced : Step

-- what a read gives after a step
abbrev pub read_after : Step → List ℕ → List ℕ
read_after Nothing read = read
read_after (Wrote offset bytes) read = written read offset bytes
read_after (FailedWrite offset bytes) read = read
read_after (CutTo to) read = take to read
read_after (FailedCut to) read = read
read_after Synced read = read

abbrev pub reads_after : List Step → List ℕ → List ℕ
reads_after [] read = read
reads_after (step ∷ steps) read = reads_after steps (read_after step read)

-- some image d of the old ones, and c comes from it by R
abbrev pub From : (List ℕ → Type 0) → (List ℕ → List ℕ → Type 0) → List ℕ → Type 0
From old R c = (d : List ℕ) × old d × R d c

-- the images after a step, if these were the images before it and this is what a read gave
abbrev pub Leaves : Step → List ℕ → (List ℕ → Type 0) → List ℕ → Type 0
Leaves Nothing read old c = old c
Leaves (Wrote offset bytes) read old c = (c ≡ written read offset bytes) ⊎ From old (Torn offset (length bytes)) c
Leaves (FailedWrite offset bytes) read old c = From old (Torn offset (length bytes)) c
Leaves (CutTo to) read old c = (c ≡ take to read) ⊎ From old (Cut to) c
Leaves (FailedCut to) read old c = From old (Cut to) c
Leaves Synced read old c = c ≡ read

abbrev pub AllLeave : List Step → List ℕ → (List ℕ → Type 0) → List ℕ → Type 0
AllLeave [] read old c = old c
AllLeave (step ∷ steps) read old c = AllLeave steps (read_after step read) (Leaves step read old) c

-- an image after these steps, from first bytes that were on the disk
abbrev pub IsImage : List Step → List ℕ → List ℕ → Type 0
IsImage steps first c = AllLeave steps first (λ d. d ≡ first) c

-- an image at some moment from t to now
abbrev pub IsImageSince : List Step → List ℕ → ℕ → ℕ → List ℕ → Type 0
IsImageSince steps first now t c = (k : ℕ) × (t ≤ k) × (k ≤ now) × IsImage (take k steps) first c

-- this step was added, or one that did nothing, or none
abbrev pub MayAdd : List Step → List Step → Step → Type 0
MayAdd old new step = (new ≡ old ++ step ∷ []) ⊎ (new ≡ old ++ Nothing ∷ []) ⊎ (new ≡ old)

-- a write of which nothing reached the disk, or all of it, or all of its range with another byte
abbrev pub torn_write : Pending → ℕ → List ℕ → List ℕ → List ℕ
torn_write pendings.Lost offset bytes left = left
torn_write pendings.Landed offset bytes left = if nat_le offset (length left) then written left offset bytes else left
torn_write (pendings.Torn byte) offset bytes left =
    if nat_le offset (length left) then written left offset (replicate (length bytes) byte) else left

-- a cut that was undone, or not
abbrev pub torn_cut : Pending → ℕ → List ℕ → List ℕ
torn_cut pendings.Lost to left = left
torn_cut pendings.Landed to left = take to left
torn_cut (pendings.Torn byte) to left = take to left

abbrev pub image_after : Pending → Step → List ℕ → List ℕ → List ℕ
image_after pending Nothing read left = left
image_after pending (Wrote offset bytes) read left = torn_write pending offset bytes left
image_after pending (FailedWrite offset bytes) read left = torn_write pending offset bytes left
image_after pending (CutTo to) read left = torn_cut pending to left
image_after pending (FailedCut to) read left = torn_cut pending to left
image_after pending Synced read left = read

-- the image in which all that wasn't synced was lost, or landed, or holds one byte
abbrev pub crash_image : Pending → List Step → List ℕ → List ℕ → List ℕ
crash_image pending [] read left = left
crash_image pending (step ∷ steps) read left =
    crash_image pending steps (read_after step read) (image_after pending step read left)
