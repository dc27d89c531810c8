-- Laws of what an act leaves that didn't do what it was asked: nothing, or its one entry, in doubt.
use Rattle.std.specs.Prelude.{◌≡◌, ◌≢◌, ◌⊎◌, ◌+◌, ℕ, List, take, true, Some, None}
use Rattle.lrs_command.specs.declared.command.Command.{Command}
use Rattle.lrs_disk.specs.Faults.{Rises}
use Rattle.lrs_machine.specs.Acts.{Receipt}
use Rattle.lrs_machine.specs.Line.{Record, entries, in_doubt}
use Rattle.lrs_names.specs.declared.draw.Draw.{Draw}
use Rattle.lrs_record.specs.declared.entry.Caller.{Caller}
use Rattle.lrs_replies.specs.declared.reply.Reply.{Reply}
use Rattle.lrs_hall.specs.Acts.{ActsIn, Reach}

-- After an act the history is the first n entries of the one line.
abbrev pub HasHistory : List Record → Reach → ℕ → Type 0
HasHistory line new n = entries (take new.records line) ≡ take n (entries line)

-- An act makes no entry, and the history after it is the one that it was answered over.
pub record LeavesNothing (line : List Record) (receipt : Receipt) (new : Reach) : Type 0 where
  pub entry : receipt.entry ≡ None
  pub history : HasHistory line new receipt.point

-- The history after an act has one entry more than the one that it was answered over: the act's own, which is in doubt.
pub record LeavesDoubt (line : List Record) (receipt : Receipt) (new : Reach) : Type 0 where
  pub entry : receipt.entry ≡ Some receipt.point
  pub history : HasHistory line new (receipt.point + 1)
  pub doubt : in_doubt (take new.records line) ≡ true

-- With another status than 200, 204 and 503 an act leaves nothing.
abbrev pub RefusalsLeaveNothing : Type 0
RefusalsLeaveNothing =
    (limit : ℕ) (line : List Record) (caller : Caller) (command : Command) (draw : Draw) (reply : Reply)
    (receipt : Receipt) (old new : Reach)
    → ActsIn limit line caller command draw reply receipt old new
    → receipt.status ≢ 200 → receipt.status ≢ 204 → receipt.status ≢ 503 → LeavesNothing line receipt new

-- With 503 it leaves nothing, or if the disk's count of faults rose its one entry, in doubt.
abbrev pub TroubleLeavesAtMostDoubt : Type 0
TroubleLeavesAtMostDoubt =
    (limit : ℕ) (line : List Record) (caller : Caller) (command : Command) (draw : Draw) (reply : Reply)
    (receipt : Receipt) (old new : Reach)
    → ActsIn limit line caller command draw reply receipt old new
    → receipt.status ≡ 503
    → LeavesNothing line receipt new ⊎ (Rises receipt.was receipt.is × LeavesDoubt line receipt new)
