use Rattle.std.proofs.Common.{All}
use Rattle.lrs_in_memory_doors.specs.MemLink.{IsUnusedLink}
use Rattle.program_tests.proofs.runs.outside.door.Given as goal

-- no link was used so far
abbrev pub invariant-loop-stream : goal.invariant-loop-stream
invariant-loop-stream l = All IsUnusedLink l.links.items
