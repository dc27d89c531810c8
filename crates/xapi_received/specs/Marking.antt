-- The received text as far as it is written, with what is shown of it by then: how the marks come about.
use Rattle.std.specs.Prelude.{◌≡◌, ◌≤◌, ◌++◌, ℕ, List, length, drop, codes, Bool, true, false, IsUtf8}
use Rattle.std.specs.Prelude.{Option, option_map}
use Rattle.std.specs.Option.{option_or}
use Rattle.lrs_json.specs.Find.{find_member}
use Rattle.lrs_json.specs.Json.{Json, Members}
use Rattle.lrs_json.specs.Spellable.{IsSpellable, AreSpellableMembers}
use Rattle.lrs_json.specs.Texts.{member_text}
use Rattle.lrs_json.specs.Written.{members_text, written}
use Rattle.xapi_format.specs.Completed.{added, completed, kept_before}
use Rattle.xapi_received.specs.Excerpts.{listed}
use Rattle.xapi_received.specs.Received.{AreWithin, EndsAs, HasSpan, bytes_at, ending_text, excerpts_text}
use Rattle.xapi_received.specs.declared.draft.Draft.{Draft}
use Rattle.xapi_received.specs.declared.marks.Ending.{Ending}
use Rattle.xapi_received.specs.declared.marks.ByteSpan.{ByteSpan}

-- ---- a draft

-- its excerpts end before the one that goes on, which begins in the text
abbrev pub IsSoundDraft : Draft → Type 0
IsSoundDraft d = AreWithin d.from (listed d.excerpts) × (d.from ≤ length d.text.items)

-- what is shown so far: the excerpts, and from the beginning of the last one on all of the text
abbrev pub shown_text : Draft → List ℕ
shown_text d = excerpts_text d.text.items (listed d.excerpts) ++ drop d.from d.text.items

-- the text has so much more, and so much more is shown
pub record AddsText (received shown : List ℕ) (old new : Draft) : Type 0 where
  pub writes : new.text.items ≡ old.text.items ++ received
  pub shows : IsSoundDraft old → IsSoundDraft new × (shown_text new ≡ shown_text old ++ shown)

-- a value is written, and what becomes of it is shown
pub record Marks (received changed : Json) (old new : Draft) : Type 0 where
  pub spellable : IsSpellable received
  pub adds : AddsText (written received) (written changed) old new

-- A member is written, and what becomes of it is shown; before each stands a comma, if others stand there.
pub record MarksMember (stands later : Bool) (name : List ℕ) (received changed : Json)
    (old new : Draft) : Type 0 where
  pub utf8 : IsUtf8 name
  pub spellable : IsSpellable received
  pub adds : AddsText (member_text stands name received) (member_text later name changed) old new

-- ---- the members of a statement, one by one

-- what all members have under the name stands at the span, or is what the rest of them have
abbrev pub IsFirst : List ℕ → List ℕ → Option ByteSpan → Members → Members → Type 0
IsFirst text name span all rest = HasSpan (length text) span × (option_map written (find_member name all)
    ≡ option_or (option_map (bytes_at text) span) (option_map written (find_member name rest)))

-- With the rest of the members, the text has them all, and of all of them those that are kept are shown.
pub record SoFar (all : Members) (start : Draft) (stands : Bool) (rest : Members)
    (now : Draft) (ending : Ending) : Type 0 where
  pub writes : now.text.items ++ members_text stands rest ≡ start.text.items ++ members_text false all
  pub shows : IsSoundDraft start → IsSoundDraft now × ((behind : Members)
      → shown_text now ++ members_text ending.later (kept_before rest behind)
      ≡ shown_text start ++ members_text false (kept_before all behind))
  pub spellable : AreSpellableMembers rest → AreSpellableMembers all
  pub ordered : ending.later ≡ true → stands ≡ true
  pub timestamp : IsFirst now.text.items (codes "timestamp") ending.timestamp all rest
  pub version : IsFirst now.text.items (codes "version") ending.version all rest

-- ---- the whole

-- The value is written. With what is added to it, its completed form is shown.
pub record Completes (received : Json) (ending : Option Ending) (old new : Draft) : Type 0 where
  pub spellable : IsSpellable received
  pub writes : new.text.items ≡ old.text.items ++ written received
  pub ends : new.from ≡ length new.text.items
  pub given : EndsAs new.text.items received ending
  pub shows : IsSoundDraft old → IsSoundDraft new × ((id stored : List ℕ) (authority : Json)
      → shown_text new ++ ending_text ending (added received id stored authority)
      ≡ shown_text old ++ written (completed received id stored authority))
