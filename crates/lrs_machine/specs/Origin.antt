-- What a desk's disk has in common with the disk of its opening.
use Rattle.std.specs.Prelude.{ℕ, List, Option}
use Rattle.std.specs.Option.{ForSome}
use Rattle.lrs_disk.specs.Disk.{LeavesOnly}
use Rattle.lrs_journal.specs.Journal.{TellsAlike}
use Rattle.lrs_record.specs.declared.entry.Entry.{Entry}
use Rattle.lrs_machine.specs.Desk.{Desk, HoldsPrefix, history}

-- The disk now tells as much as that one, and a crash at any moment since leaves the first ones of these entries, at
-- least so many.
abbrev pub ComesFrom : {D : Type 0} → (D → Option (List ℕ)) → (D → ℕ) → (D → ℕ → List ℕ → Type 0) → ℕ → ℕ → List Entry
    → D → D → Type 0
ComesFrom told time image_since limit least h on disk = TellsAlike (told on) (told disk)
    × ForSome (told on) (λ _. LeavesOnly time image_since on disk (HoldsPrefix limit least h))

-- The desk's disk comes from that of its opening, whoever acted since.
abbrev pub IsOfOrigin : {D : Type 0} → (D → Option (List ℕ)) → (D → ℕ) → (D → ℕ → List ℕ → Type 0) → Desk D → Type 0
IsOfOrigin told time image_since desk =
    ComesFrom told time image_since desk.limit desk.opened (history desk) desk.origin desk.disk
