-- A disk in memory keeps at most as many calls as there were moments.
use Rattle.std.specs.Prelude.{◌≤◌, length}
use Rattle.std.proofs.Common.{arith}
use Rattle.lrs_in_memory.specs.Calls.{length-steps}
use Rattle.lrs_in_memory.specs.MemDisk.{steps_of, moment_of}
use Rattle.lrs_in_memory.specs.declared.disk.MemDisk.{MemDisk}

pub kept : (d : MemDisk) → length (steps_of d) ≤ moment_of d
kept d = omega (arith, length-steps d.ledger.history.calls.items d.ledger.history.log.items, d.ledger.counted)
