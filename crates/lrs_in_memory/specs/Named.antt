-- Disks by name.
use Rattle.std.specs.Prelude.{◌≡◌, ◌-◌, ℕ, Bool, List, Option, String, Vec, find, length, map, option_map, slice_get}
use Rattle.std.specs.Prelude.{string_bytes}
use Rattle.std.specs.Global.{Global}
use Rattle.std.specs.Option.{option_or}
use Rattle.std.specs.Str.{bytes_eq}
use Rattle.lrs_in_memory.specs.MemDisk.{Leaves, bytes_of}
use Rattle.lrs_in_memory.specs.declared.disk.MemDisk.{MemDisk}

abbrev pub is_named : List ℕ → String Global × MemDisk → Bool
is_named name entry = bytes_eq (string_bytes entry.0) name

-- the disk that a name gets: the first one of that name, or the last of the spare ones
abbrev pub disk_named : List (String Global × MemDisk) → List MemDisk → List ℕ → Option MemDisk
disk_named disks spare name =
    option_or (option_map (λ (entry : String Global × MemDisk). entry.1) (find (is_named name) disks))
    (slice_get spare (length spare - 1))

-- nothing is pending: a crash leaves what a read gives
abbrev pub IsSettled : MemDisk → Type 0
IsSettled d = (c : List ℕ) → Leaves d c → c ≡ bytes_of d

-- names that are kept
abbrev pub names_of : Vec (String Global) Global → List (List ℕ)
names_of names = map string_bytes names.items
