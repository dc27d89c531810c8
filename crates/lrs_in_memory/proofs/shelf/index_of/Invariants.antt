use Rattle.std.proofs.Common.{◌≡◌, ◌<◌, ℕ, get_or, false, Global, String}
use Rattle.lrs_in_memory.specs.Named.{is_named}
use Rattle.lrs_in_memory.specs.declared.disk.MemDisk.{MemDisk}
use Rattle.lrs_in_memory.proofs.shelf.index_of.Given as goal

abbrev pub invariant-loop-index : goal.invariant-loop-index
invariant-loop-index l = (k : ℕ) (d : String Global × MemDisk) → k < l.index → is_named l.name (get_or l.disks k d) ≡ false
