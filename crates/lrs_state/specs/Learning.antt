-- What a store holds of courses and of their learners, and room for an effect in it.
use Rattle.std.specs.Prelude.{◌≡◌}
use Rattle.std.specs.Cmp.Lexicographic.{slice_cmp}
use Rattle.std.specs.Ordering.{nat_cmp}
use Rattle.std.specs.declared.cmp.Ordering.{Ordering}
use Rattle.cmi5_course.specs.Launches.{session_of}
use Rattle.lrs_state.specs.Counted.{AddsNone, HasRoomToCount, MakesSlotFor, TakesSlotBackFor}
use Rattle.lrs_state.specs.Courses.{key_of_course}
use Rattle.lrs_state.specs.EditionKeys.{edition_key}
use Rattle.lrs_state.specs.Launches.{text_of_key, text_of_token}
use Rattle.lrs_state.specs.Registrations.{registration_key}
use Rattle.lrs_state.specs.Sessions.{HasRoomForSession, made_session_id}
use Rattle.lrs_state.specs.contracts.edition_keys.EditionKeyOrd.TheImpl as key_ord
use Rattle.lrs_state.specs.declared.edition_keys.EditionKey.{EditionKey}
use Rattle.lrs_state.specs.declared.effect.Effect.{Effect}
use Rattle.lrs_state.specs.declared.learning.Learning.{Learning}

-- the order of what editions are found by: by number, then by the bytes of the id
abbrev pub edition_cmp : EditionKey → EditionKey → Ordering
edition_cmp = (key_ord.ghosts).cmp

-- each of its lists is the same
pub record KeepsLearning (old new : Learning) : Type 0 where
  pub editions : new.editions.held ≡ old.editions.held
  pub courses : new.courses.held ≡ old.courses.held
  pub registrations : new.registrations.held ≡ old.registrations.held
  pub launches : new.launches.held ≡ old.launches.held
  pub sessions : new.sessions.held ≡ old.sessions.held
  pub made_sessions : new.made_sessions.held ≡ old.made_sessions.held
  pub keys : new.keys.held ≡ old.keys.held
  pub tokens : new.tokens.held ≡ old.tokens.held

-- there is room for each of its changes
pub record IsLearningReadyFor (learning : Learning) (effect : Effect) : Type 0 where
  pub editions : HasRoomToCount edition_cmp edition_key learning.editions effect.editions
  pub courses : HasRoomToCount (slice_cmp nat_cmp) key_of_course learning.courses effect.courses
  pub registrations : HasRoomToCount (slice_cmp nat_cmp) registration_key learning.registrations effect.registrations
  pub launches : HasRoomToCount (slice_cmp nat_cmp) session_of learning.launches effect.launches
  pub sessions : HasRoomForSession learning.sessions effect.sessions
  pub made_sessions : HasRoomToCount (slice_cmp nat_cmp) made_session_id learning.made_sessions effect.made_sessions
  pub keys : HasRoomToCount (slice_cmp nat_cmp) text_of_key learning.keys effect.keys
  pub tokens : HasRoomToCount (slice_cmp nat_cmp) text_of_token learning.tokens effect.tokens

-- slots were made for what an effect brings, and for nothing else
pub record MakesLearningSlots (old new : Learning) (effect : Effect) : Type 0 where
  pub editions : MakesSlotFor edition_cmp edition_key effect.editions old.editions new.editions
  pub courses : MakesSlotFor (slice_cmp nat_cmp) key_of_course effect.courses old.courses new.courses
  pub registrations : MakesSlotFor (slice_cmp nat_cmp) registration_key effect.registrations
      old.registrations new.registrations
  pub launches : MakesSlotFor (slice_cmp nat_cmp) session_of effect.launches old.launches new.launches
  pub made_sessions : MakesSlotFor (slice_cmp nat_cmp) made_session_id effect.made_sessions old.made_sessions
      new.made_sessions
  pub keys : MakesSlotFor (slice_cmp nat_cmp) text_of_key effect.keys old.keys new.keys
  pub tokens : MakesSlotFor (slice_cmp nat_cmp) text_of_token effect.tokens old.tokens new.tokens

-- and taken back, where nothing came
pub record TakesLearningSlotsBack (old new : Learning) (effect : Effect) : Type 0 where
  pub editions : TakesSlotBackFor edition_cmp edition_key effect.editions old.editions new.editions
  pub courses : TakesSlotBackFor (slice_cmp nat_cmp) key_of_course effect.courses old.courses new.courses
  pub registrations : TakesSlotBackFor (slice_cmp nat_cmp) registration_key effect.registrations
      old.registrations new.registrations
  pub launches : TakesSlotBackFor (slice_cmp nat_cmp) session_of effect.launches old.launches new.launches
  pub made_sessions : TakesSlotBackFor (slice_cmp nat_cmp) made_session_id effect.made_sessions old.made_sessions
      new.made_sessions
  pub keys : TakesSlotBackFor (slice_cmp nat_cmp) text_of_key effect.keys old.keys new.keys
  pub tokens : TakesSlotBackFor (slice_cmp nat_cmp) text_of_token effect.tokens old.tokens new.tokens

-- none of it has a slot that it hadn't
pub record AddsNoLearningSlots (old new : Learning) : Type 0 where
  pub editions : AddsNone edition_cmp old.editions new.editions
  pub courses : AddsNone (slice_cmp nat_cmp) old.courses new.courses
  pub registrations : AddsNone (slice_cmp nat_cmp) old.registrations new.registrations
  pub launches : AddsNone (slice_cmp nat_cmp) old.launches new.launches
  pub made_sessions : AddsNone (slice_cmp nat_cmp) old.made_sessions new.made_sessions
  pub keys : AddsNone (slice_cmp nat_cmp) old.keys new.keys
  pub tokens : AddsNone (slice_cmp nat_cmp) old.tokens new.tokens
