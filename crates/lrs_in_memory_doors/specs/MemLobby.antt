-- What is seen of a lobby in memory.
use Rattle.std.specs.Prelude.{ℕ, List, String, map, string_bytes}
use Rattle.std.specs.Global.{Global}
use Rattle.lrs_disk.specs.Lobby.{DoorsAsked}
use Rattle.lrs_in_memory.specs.Schedule.{Schedule}
use Rattle.lrs_in_memory_doors.specs.declared.door.MemDoor.{MemDoor}
use Rattle.lrs_in_memory_doors.specs.declared.lobby.MemLobby.{MemLobby}

-- the doors that it can give
abbrev pub doors_of : MemLobby → List MemDoor
doors_of l = l.doors.items

-- the doors that were given back last
abbrev pub returned_of : MemLobby → List MemDoor
returned_of l = l.returned.items

abbrev pub asked_as : String Global × ℕ → DoorsAsked
asked_as request = record { address = string_bytes request.0; count = request.1 }

-- what doors were asked for
abbrev pub asked_of : MemLobby → List DoorsAsked
asked_of l = map asked_as l.asked.items

-- the numbers that its clock shows
abbrev pub clock_of : MemLobby → List ℕ
clock_of l = l.clock.numbers.items

-- how many it has shown
abbrev pub shown_of : MemLobby → ℕ
shown_of l = l.clock.shown

-- which of its calls of `doors` fail
abbrev pub schedule_of : MemLobby → Schedule
schedule_of l = record { failing = l.plan.failing.items; number = l.plan.number }

abbrev pub faults_of : MemLobby → ℕ
faults_of l = l.plan.faults
