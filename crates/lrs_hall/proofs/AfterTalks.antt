-- What all acts of a conversation leave in the worker's pass and its clock, and all acts of a worker's talks.
use Rattle.std.proofs.Common.{ℕ, List, Option}
use Rattle.lrs_disk.specs.Door.{Returned}
use Rattle.lrs_machine.specs.Line.{BeginsWith, Record}
use Rattle.lrs_hall.specs.Acts.{ActsIn, ActsOn, Reach, SeenAndClock}
use Rattle.lrs_hall.specs.Conversation.{Worker}
use Rattle.lrs_hall.specs.Serving.{AddsReadings, AreOnLinks, IsWholeTalk, all_receipts, clocks}
use Rattle.lrs_hall.specs.Talks.{Talk}
use Rattle.lrs_hall.proofs.Conversing.{FrontGoesOn, AddsClocks, goes_on, reads}
use Rattle.lrs_hall.proofs.Talking.{all_seen, over_all, over_whole, talk_seen}
use Rattle.lrs_hall.proofs.Translating.{IsBegun, acts_in, begun_before, reach_of}

-- nothing is asked of what was before
abbrev Anything : SeenAndClock → Type 0
Anything x = Unit {0}

-- a worker over a line that begins with all that it has seen
abbrev pub on_line : Worker SeenAndClock → Worker Reach
on_line w = record { draws = w.draws; reached = reach_of w.reached }

module _ (limit : ℕ) where
  -- ---- one conversation

  module _ (stream : Option (List ℕ)) (talk : Talk) (out : List ℕ) (old new : Worker SeenAndClock) (whole : IsWholeTalk (ActsOn limit) stream talk out old new) where
    pub talk_reads : AddsReadings old.reached.readings new.reached.readings (clocks talk.receipts)
    talk_reads = over_whole (ActsOn limit) (AddsClocks limit) (reads limit) _ talk.receipts out talk.finish old new whole

    pub talk_goes_on : BeginsWith old.reached.seen.front new.reached.seen.front
    talk_goes_on = over_whole (ActsOn limit) (FrontGoesOn limit) (goes_on limit) _ talk.receipts out talk.finish old new whole

    pub talk_on_line : (line : List Record) → IsBegun line new.reached → IsWholeTalk (ActsIn limit line) stream talk out (on_line old) (on_line new)
    talk_on_line line begun =
        talk_seen reach_of (ActsOn limit) (ActsIn limit line) Anything (IsBegun line) (λ caller command draw reply receipt before after on p. tt)
        (λ caller command draw reply receipt before after on q. begun_before limit caller command draw reply receipt line before after on q)
        (λ caller command draw reply receipt before after on p q. acts_in limit caller command draw reply receipt line before after on q)
        _ talk.receipts out talk.finish old new tt begun whole

  -- ---- all talks of a worker

  module _ (talks : List Talk) (links : List Returned) (old new : Worker SeenAndClock) (all : AreOnLinks (ActsOn limit) talks links old new) where
    pub all_read : AddsReadings old.reached.readings new.reached.readings (clocks (all_receipts talks))
    all_read = over_all (ActsOn limit) (AddsClocks limit) (reads limit) talks links old new all

    pub all_go_on : BeginsWith old.reached.seen.front new.reached.seen.front
    all_go_on = over_all (ActsOn limit) (FrontGoesOn limit) (goes_on limit) talks links old new all

    -- their acts are acts on each line that begins with what was seen in the end
    pub all_on_line : (line : List Record) → IsBegun line new.reached → AreOnLinks (ActsIn limit line) talks links (on_line old) (on_line new)
    all_on_line line begun =
        all_seen reach_of (ActsOn limit) (ActsIn limit line) Anything (IsBegun line) (λ caller command draw reply receipt before after on p. tt)
        (λ caller command draw reply receipt before after on q. begun_before limit caller command draw reply receipt line before after on q)
        (λ caller command draw reply receipt before after on p q. acts_in limit caller command draw reply receipt line before after on q)
        talks links old new tt begun all
