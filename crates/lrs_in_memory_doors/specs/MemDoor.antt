-- What is seen of a door in memory.
use Rattle.std.specs.Prelude.{◌≡◌, ◌∷◌, [], ℕ, false, List, Option, Some, None, map, length}
use Rattle.lrs_in_memory_doors.specs.Clock.{told_readings}
use Rattle.lrs_disk.specs.Door.{DoorState, Returned, link_returned}
use Rattle.lrs_in_memory_doors.specs.MemLink.{stream_of, taken_of, named, faults_of as link_faults_of}
use Rattle.lrs_in_memory.specs.Schedule.{Schedule}
use Rattle.lrs_disk.specs.declared.door.Next.{Next}
use Rattle.lrs_disk.specs.declared.door.Next.TheVariants as answers
use Rattle.lrs_in_memory_doors.specs.declared.door.MemDoor.{MemDoor}
use Rattle.lrs_in_memory_doors.specs.declared.link.MemLink.{MemLink}

-- the links still to come
abbrev pub coming_of : MemDoor → List MemLink
coming_of d = d.coming.items

-- the links that were given back
abbrev pub returned_of : MemDoor → List MemLink
returned_of d = d.returned.items

-- the name of the link that is out
abbrev pub out_of : MemDoor → Option ℕ
out_of d = d.out

-- the numbers that its clock shows
abbrev pub clock_of : MemDoor → List ℕ
clock_of d = d.clock.numbers.items

-- how many it has shown
abbrev pub shown_of : MemDoor → ℕ
shown_of d = d.clock.shown

-- which of its calls of `next` fail
abbrev pub schedule_of : MemDoor → Schedule
schedule_of d = record { failing = d.plan.failing.items; number = d.plan.number }

abbrev pub faults_of : MemDoor → ℕ
faults_of d = d.plan.faults

abbrev pub returned_as : MemLink → Returned
returned_as l = link_returned (Some (stream_of l)) (Some (taken_of l)) (link_faults_of l)

abbrev pub state_of : MemDoor → DoorState
state_of d = record {
  closed = d.closed;
  out = out_of d;
  streams = Some (map stream_of (coming_of d));
  returned = Some (map returned_as (returned_of d));
  readings = told_readings (clock_of d) (shown_of d);
  faults = faults_of d;
}

-- nothing was asked of it so far
pub record IsUntouched (d : MemDoor) : Type 0 where
  pub not_closed : d.closed ≡ false
  pub none_out : out_of d ≡ None
  pub none_returned : length (returned_of d) ≡ 0
  pub no_reading : shown_of d ≡ 0
  pub no_fault : faults_of d ≡ 0

-- the first of the links to come joins, named by its number
abbrev pub JoinsFirst : Next MemLink → List MemLink → List MemLink → ℕ → Type 0
JoinsFirst (answers.Joined link) [] coming number = ⊥
JoinsFirst (answers.Joined link) (first ∷ rest) coming number = (link ≡ named number first) × (coming ≡ rest)
JoinsFirst answers.Closed before coming number = (before ≡ []) × (coming ≡ before)
JoinsFirst answers.Failed before coming number = coming ≡ before
