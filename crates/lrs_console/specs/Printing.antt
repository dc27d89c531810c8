-- What a run prints.
use Rattle.std.specs.Prelude.{◌≡◌, ◌⊎◌, ◌<◌, ◌≤◌, ℕ, List, ◌++◌, length, take, Option, option_map, if◌then◌else◌, ◌==◌}
use Rattle.lrs_disk.specs.Faults.{Rises}

-- of the text this many bytes were taken
abbrev pub HasTaken : List ℕ → ℕ → Option (List ℕ) → Option (List ℕ) → Type 0
HasTaken text n start now = now ≡ option_map (λ taken. taken ++ take n text) start

-- if so many bytes of the text were taken since some start, there are more now
abbrev pub TakesUpTo : List ℕ → ℕ → ℕ → Option (List ℕ) → Option (List ℕ) → Type 0
TakesUpTo text done offset old new = (start : Option (List ℕ)) → HasTaken text done start old
    → HasTaken text offset start new

-- of the text a proper part was taken
abbrev pub TakesPart : List ℕ → Option (List ℕ) → Option (List ℕ) → Type 0
TakesPart text old new = (n : ℕ) × (n < length text) × HasTaken text n old new

-- the text is printed, or the sink failed: then 7 stands for 0, and a part of the text is printed
abbrev pub Prints : ℕ → List ℕ → Option (List ℕ) → Option (List ℕ) → ℕ → ℕ → ℕ → Type 0
Prints status text old new before now result =
    ((result ≡ status) × (new ≡ option_map (λ taken. taken ++ text) old) × (now ≡ before))
    ⊎ ((result ≡ (if status == 0 then 7 else status)) × TakesPart text old new × Rises before now × (before ≤ now))
