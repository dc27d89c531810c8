-- What is seen of a connection in memory.
use Rattle.std.specs.Prelude.{◌≡◌, ◌-◌, [], ℕ, List, drop, length}
use Rattle.lrs_in_memory.specs.Schedule.{Schedule}
use Rattle.lrs_in_memory_doors.specs.declared.link.MemLink.{MemLink}

-- all that it brings
abbrev pub stream_of : MemLink → List ℕ
stream_of l = l.input.bytes.items

-- how much of it was read
abbrev pub offset_of : MemLink → ℕ
offset_of l = l.input.offset

-- where reads end
abbrev pub cuts_of : MemLink → List ℕ
cuts_of l = l.input.cuts.items

-- what is left to read
abbrev pub left_of : MemLink → List ℕ
left_of l = drop (offset_of l) (stream_of l)

-- what it took
abbrev pub taken_of : MemLink → List ℕ
taken_of l = l.output.taken.items

-- how many bytes more it takes
abbrev pub room_of : MemLink → ℕ
room_of l = l.output.room - length l.output.taken.items

-- the number that its door gave it
abbrev pub name_of : MemLink → ℕ
name_of l = l.name

-- which of its calls, reads and writes, fail
abbrev pub schedule_of : MemLink → Schedule
schedule_of l = record { failing = l.plan.failing.items; number = l.plan.number }

abbrev pub faults_of : MemLink → ℕ
faults_of l = l.plan.faults

-- the same link, whatever was read and written
pub record IsSameLink (old new : MemLink) : Type 0 where
  pub stream : stream_of new ≡ stream_of old
  pub cuts : cuts_of new ≡ cuts_of old
  pub name : name_of new ≡ name_of old

-- nothing was read of it, nothing was written to it, and no call has failed
pub record IsUnusedLink (l : MemLink) : Type 0 where
  pub unread : offset_of l ≡ 0
  pub unwritten : taken_of l ≡ []
  pub unfailed : faults_of l ≡ 0

-- the link with this name
abbrev pub named : ℕ → MemLink → MemLink
named number l = record l { name = number }
