-- What a file tells whose last writes may wait.
use Rattle.std.specs.Prelude.{ℕ, List, Option, option_map}
use Rattle.lrs_disk.specs.Disk.{written}
use Rattle.lrs_edge.specs.declared.behind.WriteBehind.{WriteBehind}

-- what is told, with the bytes that wait where they belong
abbrev pub over : Option (List ℕ) → ℕ → List ℕ → Option (List ℕ)
over told start waiting = option_map (λ b. written b start waiting) told

-- what bytes tell that are told so without those that wait
abbrev pub told_by : {B : Type 0} → (B → Option (List ℕ)) → WriteBehind B → Option (List ℕ)
told_by told w = over (told w.inner) w.start w.waiting.items
