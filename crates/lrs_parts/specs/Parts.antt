-- The parts in memory, as the definitions see them, and room for an effect in each.
use Rattle.std.specs.Prelude.{◌≡◌, ◌⊎◌, ◌+◌, ◌<◌, ◌^◌, ℕ, List, [], Option, None}
use Rattle.std.specs.Cmp.Lexicographic.{slice_cmp}
use Rattle.std.specs.Ordering.{nat_cmp}
use Rattle.lrs_ids.specs.Ids.{Used, either, those}
use Rattle.lrs_state.specs.Counted.{AddsNone, HasRoomToCount, MakesSlotFor}
use Rattle.lrs_state.specs.Launches.{session_ids}
use Rattle.lrs_state.specs.Learning.{AddsNoLearningSlots, IsLearningReadyFor, MakesLearningSlots}
use Rattle.lrs_state.specs.Providers.{token_of}
use Rattle.lrs_state.specs.Registrations.{registration_ids}
use Rattle.lrs_state.specs.Sessions.{made_session_ids}
use Rattle.lrs_state.specs.State.{State}
use Rattle.lrs_state.specs.declared.effect.Effect.{Effect}
use Rattle.lrs_state.specs.declared.founding.Founding.{Founding}
use Rattle.lrs_state.specs.declared.learning.Learning.{Learning}
use Rattle.lrs_parts.specs.declared.progress.Progress.{Progress}
use Rattle.lrs_state.specs.declared.providers.HeldProvider.{HeldProvider}
use Rattle.lrs_parts.specs.Progress.{IsProgressReadyFor}
use Rattle.cmi5_running_sessions.specs.Room as room
use Rattle.lrs_register.specs.Register.{Registered}
use Rattle.lrs_register.specs.Slots.{AddsNoSlot, MakesSlots}
use Rattle.xapi_docs.specs.Docs.{HasRoomForDocuments, Slots, documents_in, is_written}
use Rattle.xapi_docs.specs.XapiKeysKeys.{key_cmp}
use Rattle.cmi5_running_verdicts.specs.XapiIndexIndex.{HoldsNothingAhead, Indexed, IsIndexReadyFor}
use Rattle.xapi_statement.specs.Statements.{ids_of}

-- what is seen of all parts together
pub record SeenParts : Type 0 where
  pub founding : Option Founding
  pub providers : Registered (List ℕ) HeldProvider
  pub statements : Indexed
  pub documents : Slots
  pub learning : Learning
  pub progress : Progress
  pub length : ℕ
  pub last : ℕ

abbrev pub state_of : SeenParts → State
state_of parts = record {
  founding = parts.founding;
  providers = parts.providers.held;
  statements = parts.statements.held;
  documents = documents_in parts.documents;
  editions = parts.learning.editions.held;
  courses = parts.learning.courses.held;
  registrations = parts.learning.registrations.held;
  launches = parts.learning.launches.held;
  sessions = parts.learning.sessions.held;
  made_sessions = parts.learning.made_sessions.held;
  keys = parts.learning.keys.held;
  tokens = parts.learning.tokens.held;
  length = parts.length;
  last = parts.last;
}

-- the ids that are used: those of the statements, of the registrations, and of sessions
abbrev pub used_with : Indexed → Learning → Used
used_with statements learning =
    either (those (ids_of statements.held))
    (either (those (registration_ids learning.registrations.held))
    (either (those (session_ids learning.launches.held)) (those (made_session_ids learning.made_sessions.held))))

-- ---- room

-- there is room for each of its changes, and one entry more can be counted
pub record IsReadyFor (parts : SeenParts) (effect : Effect) : Type 0 where
  pub providers : HasRoomToCount (slice_cmp nat_cmp) token_of parts.providers effect.providers
  pub statements : IsIndexReadyFor parts.statements effect.statements
  pub documents : HasRoomForDocuments parts.documents effect.documents
  pub learning : IsLearningReadyFor parts.learning effect
  pub progress : IsProgressReadyFor parts.progress parts.founding parts.learning.editions.held parts.statements.held
      effect
  pub length : parts.length + 1 < 2 ^ 64

-- ---- slots that are made ahead

-- Slots were made for what an effect brings, and for nothing else. Of the statements nothing needs to be said: all
-- that stands ahead is taken back.
pub record MakesSlotsFor (old new : SeenParts) (effect : Effect) : Type 0 where
  pub providers : MakesSlotFor (slice_cmp nat_cmp) token_of effect.providers old.providers new.providers
  pub documents : MakesSlots key_cmp (is_written effect.documents) old.documents new.documents
  pub learning : MakesLearningSlots old.learning new.learning effect
  pub sessions : room.MakesSlots effect.statements old.progress.sessions new.progress.sessions

-- Nothing stands ahead of statements that are to come, of tallies or of the trees of what statements void.
pub record HoldsNothingMore (parts : SeenParts) : Type 0 where
  pub statements : HoldsNothingAhead parts.statements
  pub running : parts.progress.running.coming ≡ None
  pub targets : parts.progress.targets ≡ []

-- No part has a slot that it hadn't. The statements are as they were, or hold nothing ahead; so are the tallies and
-- the trees of what statements void.
pub record AddsNoSlots (old new : SeenParts) : Type 0 where
  pub providers : AddsNone (slice_cmp nat_cmp) old.providers new.providers
  pub statements : HoldsNothingAhead new.statements ⊎ (new.statements ≡ old.statements)
  pub documents : AddsNoSlot key_cmp old.documents new.documents
  pub learning : AddsNoLearningSlots old.learning new.learning
  pub sessions : room.AddsNoSlots old.progress.sessions new.progress.sessions
  pub running : (new.progress.running.coming ≡ None) ⊎ (new.progress.running ≡ old.progress.running)
  pub targets : (new.progress.targets ≡ []) ⊎ (new.progress.targets ≡ old.progress.targets)
