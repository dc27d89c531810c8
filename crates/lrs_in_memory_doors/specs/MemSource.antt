-- What is seen of an input in memory.
use Rattle.std.specs.Prelude.{ℕ, List, drop}
use Rattle.lrs_in_memory.specs.Schedule.{Schedule}
use Rattle.lrs_in_memory_doors.specs.declared.source.MemSource.{MemSource}

-- the whole input
abbrev pub input_of : MemSource → List ℕ
input_of s = s.input.bytes.items

-- how much of it was read
abbrev pub offset_of : MemSource → ℕ
offset_of s = s.input.offset

-- where reads end
abbrev pub cuts_of : MemSource → List ℕ
cuts_of s = s.input.cuts.items

-- what is left to read
abbrev pub left_of : MemSource → List ℕ
left_of s = drop (offset_of s) (input_of s)

abbrev pub schedule_of : MemSource → Schedule
schedule_of s = record { failing = s.plan.failing.items; number = s.plan.number }

abbrev pub faults_of : MemSource → ℕ
faults_of s = s.plan.faults
