-- What a thing of the system tells: nothing of its content.
use Rattle.std.specs.Prelude.{◌≡◌, ℕ, List, Option, Some, None, false}
use Rattle.lrs_disk.specs.Door.{DoorState}

pub tells_none : (b : List ℕ) → None ≡ Some b → ⊥
tells_none b is = cc

-- a door that never closes, with the name of the link that is out and the count of faults
abbrev pub silent_door : Option ℕ → ℕ → DoorState
silent_door out faults =
    record { closed = false; out = out; streams = None; returned = None; readings = None; faults = faults }
