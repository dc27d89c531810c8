-- Laws of acts over one line, be there one worker or several, and of one stream, which is answered in one way, however
-- the links cut it.
use Rattle.std.specs.Prelude.{◌≡◌, ◌≢◌, ◌≤◌, ◌<◌, ◌+◌, ◌==◌, ℕ, List, [], ◌∷◌, length, take, slice_get, Bool, true}
use Rattle.std.specs.Prelude.{false, if◌then◌else◌, Option, Some, None, IsSome, Result, Ok}
use Rattle.std.specs.List.{AllByRecursion}
use Rattle.lrs_disk.specs.Door.{Returned}
use Rattle.lrs_machine.specs.LrsHistoryHistory.{answer}
use Rattle.lrs_http.specs.declared.request.Request.{Request}
use Rattle.lrs_machine.specs.Line.{BeginsWith, Record, entries}
use Rattle.lrs_machine.specs.Acts.{Receipt}
use Rattle.lrs_machine.specs.Desk.{HoldsPrefix, KeepsLine}
use Rattle.lrs_names.specs.declared.draw.Draw.{Draw}
use Rattle.lrs_record.specs.declared.entry.Caller.{Caller}
use Rattle.lrs_command.specs.declared.command.Command.{Command}
use Rattle.lrs_replies.specs.declared.reply.Reply.{Reply}
use Rattle.lrs_routes.specs.Asked.{Agree, IsAsked}
use Rattle.lrs_routes.specs.declared.asked.Asked.{Asked}
use Rattle.lrs_routes.specs.declared.asked.RouteRefused.{RouteRefused}
use Rattle.lrs_time.specs.Timestamp.{IsMomentText}
use Rattle.lrs_turn.specs.Lists.{times}
use Rattle.lrs_machine.specs.Desk.{Tide}
use Rattle.lrs_hall.specs.Acts.{ActsIn, ActsNext, IsSince, Reach}
use Rattle.lrs_hall.specs.Conversation.{AnswersTo, ServesRequest, Worker}
use Rattle.lrs_hall.specs.Draws.{Draws}
use Rattle.lrs_hall.specs.Serving.{AreOnLinks, IsWholeTalk, all_receipts, clocks, worker_at}
use Rattle.lrs_hall.specs.Talks.{Talk}
use Rattle.lrs_hall.specs.declared.talk.Finish.TheVariants as finish

-- ---- the history of a line

-- how many entries the first records made
abbrev pub entries_in : ℕ → List Record → ℕ
entries_in n line = length (entries (take n line))

-- The entries of the first records are the first entries.
abbrev pub Points : Type 0
Points = (line : List Record) (n : ℕ) → entries (take n line) ≡ take (entries_in n line) (entries line)

-- An act's own entry is the answer's, and stands at its point in the one history.
abbrev pub OwnEntries : Type 0
OwnEntries =
    (limit : ℕ) (line : List Record) (caller : Caller) (command : Command) (draw : Draw) (reply : Reply)
    (receipt : Receipt) (old new : Reach) (index : ℕ)
    → ActsIn limit line caller command draw reply receipt old new → receipt.entry ≡ Some index
    → (index ≡ receipt.point)
    × (slice_get (entries line) index
    ≡ (answer limit (take receipt.point (entries line)) caller command receipt.clock draw).entry)

-- ---- each entry once

abbrev pub is_entry_at : Option ℕ → ℕ → Bool
is_entry_at None index = false
is_entry_at (Some own) index = own == index

-- how many receipts have their own entry at this index
abbrev pub entries_at : ℕ → List Receipt → ℕ
entries_at index [] = 0
entries_at index (receipt ∷ receipts) = (if is_entry_at receipt.entry index then 1 else 0) + entries_at index receipts

-- The record of this number made the entry at this index.
pub record Makes (line : List Record) (index k : ℕ) : Type 0 where
  pub made : Record
  pub stands : slice_get line k ≡ Some made
  pub some : IsSome made.made
  pub before : entries_in k line ≡ index

-- An entry is that of as many receipts of a worker as its record stands among those that became the worker's own.
abbrev pub EntriesOnce : Type 0
EntriesOnce =
    (limit : ℕ) (line : List Record) (index k : ℕ) (talks : List Talk) (links : List Returned) (old new : Worker Reach)
    → Makes line index k → AreOnLinks (ActsIn limit line) talks links old new
    → entries_at index (all_receipts talks) + times k old.reached.own ≡ times k new.reached.own

-- ---- one worker

-- If all further records that a worker has seen are its own, each of its acts was on just what it had seen.
abbrev pub Alone : Type 0
Alone =
    (limit : ℕ) (line : List Record) (talks : List Talk) (links : List Returned) (old new : Worker Reach)
    → AreOnLinks (ActsIn limit line) talks links old new
    → ((n : ℕ) → old.reached.records ≤ n → n < new.reached.records → 0 < times n new.reached.own)
    → ((n : ℕ) → old.reached.records ≤ n → times n old.reached.own ≡ 0)
    → AreOnLinks (ActsNext limit line) talks links old new

-- ---- in order

-- The second act was answered over no fewer entries than the first, and over the first one's own. It found no lower
-- count of the disk's faults than the first left, and ended at no earlier moment.
abbrev pub IsAnsweredBefore : Receipt → Receipt → Type 0
IsAnsweredBefore first second =
    first.acted ≡ true → second.acted ≡ true
    → (first.point ≤ second.point) × (IsSome first.entry → first.point < second.point)
    × (first.is ≤ second.was) × (first.disk ≤ second.disk)

-- each goes on from all before it
abbrev pub AreInOrder : List Receipt → Type 0
AreInOrder [] = Unit {0}
AreInOrder (receipt ∷ receipts) = AllByRecursion (IsAnsweredBefore receipt) receipts × AreInOrder receipts

-- the act was answered over no fewer entries than these, and goes on from what was known of the disk
abbrev pub IsFrom : ℕ → Tide → Receipt → Type 0
IsFrom n known receipt = receipt.acted ≡ true → (n ≤ receipt.point) × IsSince known receipt

-- All acts of a worker go on: from what it had seen, and each from those before it.
abbrev pub InOrder : Type 0
InOrder =
    (limit : ℕ) (line : List Record) (talks : List Talk) (links : List Returned) (old new : Worker Reach)
    → AreOnLinks (ActsIn limit line) talks links old new
    → AllByRecursion (IsFrom (entries_in old.reached.records line) old.reached.tide) (all_receipts talks)
    × AreInOrder (all_receipts talks)

-- ---- what was acknowledged is kept

abbrev pub least_of : Option ℕ → ℕ → ℕ
least_of None point = point
least_of (Some own) point = own + 1

-- how many entries a response without trouble promises: those that it was answered over, and its own
abbrev pub promised : Receipt → ℕ
promised receipt = least_of receipt.entry receipt.point

-- each image since the moment of an act without trouble holds what its response promises
abbrev pub IsKept : ℕ → (ℕ → List ℕ → Type 0) → List Record → Receipt → Type 0
IsKept limit since line receipt =
    receipt.acted ≡ true → receipt.status ≢ 503
    → (bytes : List ℕ) → since receipt.disk bytes → HoldsPrefix limit (promised receipt) (entries line) bytes

-- Over a line that is kept, what all talks of a worker promise is kept.
abbrev pub KeepsPromises : ℕ → (ℕ → List ℕ → Type 0) → Type 0
KeepsPromises now since =
    (limit : ℕ) (line : List Record) (talks : List Talk) (links : List Returned) (old new : Worker Reach)
    → KeepsLine limit now since line → 1 ≤ old.reached.records
    → AreOnLinks (ActsIn limit line) talks links old new
    → AllByRecursion (IsKept limit since line) (all_receipts talks)

-- ---- one stream

-- If a request asks something, it is answered as that, whether or not it is read after its head.
abbrev pub AnswersAsAsked : Type 0
AnswersAsAsked =
    (limit : ℕ) (line : List Record) (closes : Bool) (request : Request) (asked : Asked) (receipt : Receipt)
    (text : List ℕ) (old new : Worker Reach)
    → IsAsked request (Ok asked) → ServesRequest (ActsIn limit line) closes (Ok request) receipt text old new
    → AnswersTo (ActsIn limit line) closes request receipt text old new

-- a moment has one text
abbrev pub OneText : Type 0
OneText = (moment : ℕ) (a b : List ℕ) → IsMomentText moment a → IsMomentText moment b → a ≡ b

-- a request asks one thing, unless memory runs out
abbrev pub OneAsked : Type 0
OneAsked = (request : Request) (a b : Result Asked RouteRefused) → IsAsked request a → IsAsked request b → Agree a b

-- Memory didn't run out, and neither the disk nor the link failed.
pub record IsSmooth (talk : Talk) : Type 0 where
  pub statuses : AllByRecursion (λ (receipt : Receipt). receipt.status ≢ 503) talk.receipts
  pub memory : talk.finish ≢ finish.Memory
  pub link : talk.finish ≢ finish.LinkFault

-- Two smooth talks over one stream, from one history, with one clock and one draw after the other, send the same bytes
-- and end alike, if nobody else acts between.
abbrev pub OneStream : Type 0
OneStream =
    (limit : ℕ) (line_a line_b : List Record) (records_a records_b : ℕ) (own_a own_b : List ℕ) (tide_a tide_b : Tide)
    (stream : List ℕ) (draws : Draws) (readings : List ℕ) (a b : Talk) (out_a out_b : List ℕ)
    (end_a end_b : Worker Reach)
    → entries (take records_a line_a) ≡ entries (take records_b line_b)
    → BeginsWith (clocks a.receipts) readings → BeginsWith (clocks b.receipts) readings
    → IsWholeTalk (ActsNext limit line_a) (Some stream) a out_a (worker_at draws records_a own_a tide_a) end_a
    → IsWholeTalk (ActsNext limit line_b) (Some stream) b out_b (worker_at draws records_b own_b tide_b) end_b
    → IsSmooth a → IsSmooth b → (out_a ≡ out_b) × (a.finish ≡ b.finish)
