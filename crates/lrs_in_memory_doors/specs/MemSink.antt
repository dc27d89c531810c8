-- What is seen of an output in memory.
use Rattle.std.specs.Prelude.{◌-◌, ℕ, List, length}
use Rattle.lrs_in_memory.specs.Schedule.{Schedule}
use Rattle.lrs_in_memory_doors.specs.declared.sink.MemSink.{MemSink}

-- what it took
abbrev pub taken_of : MemSink → List ℕ
taken_of s = s.output.taken.items

-- how many bytes more it takes
abbrev pub room_of : MemSink → ℕ
room_of s = s.output.room - length s.output.taken.items

abbrev pub schedule_of : MemSink → Schedule
schedule_of s = record { failing = s.plan.failing.items; number = s.plan.number }

abbrev pub faults_of : MemSink → ℕ
faults_of s = s.plan.faults
