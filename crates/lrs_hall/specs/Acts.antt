-- What an act of a conversation tells: of what its worker has seen, and of the one line that there is in the end.
use Rattle.std.specs.Prelude.{◌≡◌, ◌⊎◌, ◌≤◌, ◌+◌, ℕ, List, [], ◌∷◌, ◌++◌, length, take, Option, Result, Ok, Err}
use Rattle.std.specs.Prelude.{if◌then◌else◌}
use Rattle.lrs_disk.specs.Faults.{Rises}
use Rattle.lrs_disk.specs.Readings.{AddsReading}
use Rattle.lrs_machine.specs.Line.{BeginsWith, Record, entries}
use Rattle.lrs_machine.specs.Acts.{Acts, Receipt, changed}
use Rattle.lrs_machine.specs.Desk.{Tide}
use Rattle.lrs_machine.specs.LrsHistoryHistory.{answer}
use Rattle.lrs_replies.specs.Replies.{Says}
use Rattle.lrs_replies.specs.declared.answered.Answered.{Answered}
use Rattle.lrs_replies.specs.declared.reply.Reply.{Reply}
use Rattle.lrs_replies.specs.declared.reply.Trouble.{Trouble}
use Rattle.lrs_replies.specs.declared.reply.Trouble.TheVariants as trouble
use Rattle.lrs_names.specs.declared.draw.Draw.{Draw}
use Rattle.lrs_record.specs.declared.entry.Caller.{Caller}
use Rattle.lrs_command.specs.declared.command.Command.{Command}
use Rattle.lrs_turn.specs.Passes.{Pass}

-- the numbers of a worker's own records after an act on a line of so many: one that changed the journal made the next
abbrev pub own_behind : ℕ → Receipt → List ℕ → List ℕ
own_behind at receipt own = if changed receipt then own ++ at ∷ [] else own

-- ---- the disk

-- What an act tells of the disk goes on from what its worker knew: it found no lower count of faults, and ended at no
-- earlier moment.
pub record IsSince (known : Tide) (receipt : Receipt) : Type 0 where
  pub was : known.faults ≤ receipt.was
  pub ended : known.moment ≤ receipt.disk

-- what a worker knows of the disk after an act
abbrev pub tide_behind : Receipt → Tide
tide_behind receipt = record { faults = receipt.is; moment = receipt.disk }

-- ---- over the one line

-- How far a worker has come in the one line: it has seen so many records, and these are its own. Beside it what it
-- knows of the disk, by its last act.
pub record Reach : Type 0 where
  pub records : ℕ
  pub own : List ℕ
  pub tide : Tide

-- after an act on the first records of the line
abbrev pub reach_behind : ℕ → Receipt → Reach → Reach
reach_behind at receipt old = record {
  records = if changed receipt then at + 1 else at;
  own = own_behind at receipt old.own;
  tide = tide_behind receipt;
}

-- An act on the first records of the one line: on all that the worker had seen, and maybe more, since others act too.
-- The abstract store answers it over the entries before its point. After it the worker has seen what the act left.
pub record ActsIn (limit : ℕ) (line : List Record) (caller : Caller) (command : Command) (draw : Draw) (reply : Reply)
    (receipt : Receipt) (old new : Reach) : Type 0 where
  -- how many records there were
  pub at : ℕ
  pub later : old.records ≤ at
  pub since : IsSince old.tide receipt
  pub status : receipt.status ≡ reply.status
  pub said : Result Answered Trouble
  pub says : Says said reply
  pub acts : Acts (answer limit (take receipt.point (entries line)) caller command receipt.clock draw) said receipt
      (take at line) (take new.records line)
  -- if the disk's count of faults didn't rise, the reply says the answer, or that memory ran out
  pub due : (Rises receipt.was receipt.is → ⊥)
      → Says (Ok (answer limit (take receipt.point (entries line)) caller command receipt.clock draw).said) reply
      ⊎ Says (Err trouble.Memory) reply
  pub within : new.records ≤ length line
  pub reach : new ≡ reach_behind at receipt old

-- Nothing came between: the act was on just what the worker had seen.
pub record ActsNext (limit : ℕ) (line : List Record) (caller : Caller) (command : Command) (draw : Draw) (reply : Reply)
    (receipt : Receipt) (old new : Reach) : Type 0 where
  pub on : ActsIn limit line caller command draw reply receipt old new
  pub next : on.at ≡ old.records

-- ---- over what a worker has seen

-- what the pass of a worker has seen: the first records of the one line, which of them are its own, and the disk
pub record Seen : Type 0 where
  pub front : List Record
  pub own : List ℕ
  pub tide : Tide

-- no desk that a pass takes has a lower tide, which is the count of the disk's faults and the disk's moment
abbrev pub tide_in : List ℕ → Tide
tide_in [] = record { faults = 0; moment = 0 }
tide_in (faults ∷ []) = record { faults = faults; moment = 0 }
tide_in (faults ∷ moment ∷ others) = record { faults = faults; moment = moment }

abbrev pub seen_of : Pass Record → Seen
seen_of pass = record { front = pass.front; own = pass.own; tide = tide_in pass.tide }

-- each desk that a pass takes has these marks, of which the first is the limit
abbrev pub limit_in : List ℕ → ℕ
limit_in [] = 0
limit_in (limit ∷ others) = limit

-- An act on a desk of this line, which goes on from what the worker had seen. After it the worker has seen what the act
-- left.
pub record ActsAt (line : List Record) (limit : ℕ) (caller : Caller) (command : Command) (draw : Draw) (reply : Reply)
    (receipt : Receipt) (old new : Seen) : Type 0 where
  pub goes_on : BeginsWith old.front line
  pub since : IsSince old.tide receipt
  pub status : receipt.status ≡ reply.status
  pub said : Result Answered Trouble
  pub says : Says said reply
  pub acts : Acts (answer limit (entries line) caller command receipt.clock draw) said receipt line new.front
  pub own : new.own ≡ own_behind (length line) receipt old.own
  pub tide : new.tide ≡ tide_behind receipt

-- what an act changes: what its worker has seen, and what its door tells of the clock
pub record SeenAndClock : Type 0 where
  pub seen : Seen
  pub readings : Option (List ℕ)

-- An act of a worker, with one reading of the clock.
pub record ActsOn (limit : ℕ) (caller : Caller) (command : Command) (draw : Draw) (reply : Reply) (receipt : Receipt)
    (old new : SeenAndClock) : Type 0 where
  -- the desk's as it was taken
  pub line : List Record
  pub acts : ActsAt line limit caller command draw reply receipt old.seen new.seen
  pub read : AddsReading old.readings new.readings receipt.clock
