-- What is seen of bytes that are taken in pieces.
use Rattle.std.specs.Prelude.{◌-◌, ℕ, length}
use Rattle.lrs_in_memory.specs.Schedule.{Schedule}
use Rattle.lrs_in_memory.specs.declared.plan.Plan.{Plan}
use Rattle.lrs_in_memory_doors.specs.declared.output.Output.{Output}

-- how many bytes more it takes
abbrev pub room_of : Output → ℕ
room_of o = o.room - length o.taken.items

-- which calls of an object with this plan fail
abbrev pub schedule_in : Plan → Schedule
schedule_in plan = record { failing = plan.failing.items; number = plan.number }
