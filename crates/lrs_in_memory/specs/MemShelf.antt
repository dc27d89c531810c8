-- What is seen of a shelf in memory.
use Rattle.std.specs.Prelude.{ℕ, List, Option, String, option_map}
use Rattle.std.specs.Global.{Global}
use Rattle.lrs_in_memory.specs.Named.{disk_named, names_of}
use Rattle.lrs_in_memory.specs.Schedule.{Schedule}
use Rattle.lrs_in_memory.specs.declared.disk.MemDisk.{MemDisk}
use Rattle.lrs_in_memory.specs.declared.shelf.MemShelf.{MemShelf}

abbrev pub disks_of : MemShelf → List (String Global × MemDisk)
disks_of s = s.disks.items

-- the disks for names that aren't there
abbrev pub spare_of : MemShelf → List MemDisk
spare_of s = s.spare.items

-- the disk that a name gets
abbrev pub disk_for : MemShelf → List ℕ → Option MemDisk
disk_for s name = disk_named (disks_of s) (spare_of s) name

-- the names that were asked for, unless there was no memory to keep them
abbrev pub taken_of : MemShelf → Option (List (List ℕ))
taken_of s = option_map names_of s.taken

abbrev pub schedule_of : MemShelf → Schedule
schedule_of s = record { failing = s.plan.failing.items; number = s.plan.number }

abbrev pub faults_of : MemShelf → ℕ
faults_of s = s.plan.faults
