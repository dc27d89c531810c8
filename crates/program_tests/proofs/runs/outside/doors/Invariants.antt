use Rattle.std.proofs.Common.{All}
use Rattle.lrs_in_memory_doors.specs.MemDoor.{IsUntouched}
use Rattle.program_tests.proofs.runs.outside.doors.Given as goal

-- nothing was asked of a door so far
abbrev pub invariant-loop-stream : goal.invariant-loop-stream
invariant-loop-stream l = All IsUntouched l.doors.items
