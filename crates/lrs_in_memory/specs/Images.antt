-- The laws of the images that steps leave.
use Rattle.std.specs.Prelude.{◌≡◌, ◌≤◌, ℕ, List, [], ◌∷◌, length, Some}
use Rattle.std.proofs.Common.{refl, subst, sym, inl, arith}
use Rattle.std.proofs.lemmas.List.{take_all}
use Rattle.lrs_disk.specs.Disk.{Torn, Cut}
use Rattle.lrs_in_memory.specs.Steps.{Step, Nothing, Wrote, FailedWrite, CutTo, FailedCut, Synced, read_after}
use Rattle.lrs_in_memory.specs.Steps.{reads_after, Leaves, AllLeave, IsImage, IsImageSince}

pub torn_nothing : (offset n : ℕ) (c : List ℕ) → Torn offset n c c
torn_nothing offset n c = record { before = refl; after = refl; no_shorter = omega arith; no_longer = omega arith }

pub cut_nothing : (n : ℕ) (c : List ℕ) → Cut n c c
cut_nothing n c = record { no_shorter = omega arith; front = take_all (length c) c (omega arith) }

leaves_read : (step : Step) (read : List ℕ) (old : List ℕ → Type 0) → old read
    → Leaves step read old (read_after step read)
leaves_read Nothing read old here = here
leaves_read (Wrote offset bytes) read old here = inl refl
leaves_read (FailedWrite offset bytes) read old here = (read, here, torn_nothing offset (length bytes) read)
leaves_read (CutTo to) read old here = inl refl
leaves_read (FailedCut to) read old here = (read, here, cut_nothing to read)
leaves_read Synced read old here = refl

all_leave_read : (steps : List Step) (read : List ℕ) (old : List ℕ → Type 0) → old read
    → AllLeave steps read old (reads_after steps read)
all_leave_read [] read old here = here
all_leave_read (step ∷ steps) read old here =
    all_leave_read steps (read_after step read) (Leaves step read old) (leaves_read step read old here)

-- what a read gives is an image
pub reads_image : (steps : List Step) (first b : List ℕ) → b ≡ reads_after steps first → IsImage steps first b
reads_image steps first b is = subst (IsImage steps first) (sym is) (all_leave_read steps first (λ d. d ≡ first) refl)

-- an image now is one since each earlier moment
pub counts_now : (steps : List Step) (first : List ℕ) (now : ℕ) → length steps ≤ now → (t : ℕ) (c : List ℕ)
    → t ≤ now → IsImage steps first c → IsImageSince steps first now t c
counts_now steps first now kept t c le left =
    (now, le, omega arith, subst (λ (l : List Step). IsImage l first c) (sym (take_all now steps kept)) left)

-- since now there is no other
pub only_now : (steps : List Step) (first : List ℕ) (now : ℕ) → length steps ≤ now → (c : List ℕ)
    → IsImageSince steps first now now c → IsImage steps first c
only_now steps first now kept c left =
    subst (λ (l : List Step). IsImage l first c) (take_all left.0 steps (omega (arith, left.1))) left.3

-- an image since a later moment is one since an earlier
pub since_later : (steps : List Step) (first : List ℕ) (now t u : ℕ) (c : List ℕ) → t ≤ u
    → IsImageSince steps first now u c → IsImageSince steps first now t c
since_later steps first now t u c le left = (left.0, omega (arith, le, left.1), left.2, left.3)

-- what is told is what a read gives
pub told_reads : (bytes b reads : List ℕ) → Some bytes ≡ Some b → bytes ≡ reads → b ≡ reads
told_reads bytes b reads told is = cc
