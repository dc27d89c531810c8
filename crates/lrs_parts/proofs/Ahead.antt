-- Slots that were made ahead in the parts, and taken back.
use Rattle.std.specs.Cmp.Lexicographic.{slice_cmp}
use Rattle.std.specs.Ordering.{nat_cmp}
use Rattle.cmi5_course.specs.Launches.{session_of}
use Rattle.lrs_state.specs.Counted.{AddsNone, MakesSlotFor, TakesSlotBackFor}
use Rattle.lrs_state.specs.Courses.{key_of_course}
use Rattle.lrs_state.specs.EditionKeys.{edition_key}
use Rattle.lrs_state.specs.Launches.{text_of_key, text_of_token}
use Rattle.lrs_state.specs.Learning.{AddsNoLearningSlots, MakesLearningSlots, TakesLearningSlotsBack, edition_cmp}
use Rattle.lrs_parts.specs.Parts.{AddsNoSlots, SeenParts}
use Rattle.lrs_state.specs.Registrations.{registration_key}
use Rattle.lrs_state.specs.Sessions.{made_session_id}
use Rattle.lrs_state.specs.declared.effect.Effect.{Effect}
use Rattle.lrs_state.specs.declared.learning.Learning.{Learning}
use Rattle.lrs_register.proofs.Ahead.{made_and_back}
use Rattle.lrs_register.specs.Register.{Registered, is_key_of}
use Rattle.lrs_register.specs.declared.change.Change.{Change}
use Rattle.std.proofs.Common.{ℕ, List, inr, refl}

-- ---- one register

pub back : {T : Type 0} (key_of : T → List ℕ) (change : Change T) (before mid new : Registered (List ℕ) T)
    → MakesSlotFor (slice_cmp nat_cmp) key_of change before mid → TakesSlotBackFor (slice_cmp nat_cmp) key_of change mid new → AddsNone (slice_cmp nat_cmp) before new
back key_of change before mid new = made_and_back (slice_cmp nat_cmp) (λ k. is_key_of (slice_cmp nat_cmp) key_of change.new k) before.slots mid.slots new.slots

-- ---- all of them

pub learning_back : (before mid new : Learning) (x : Effect) → MakesLearningSlots before mid x → TakesLearningSlotsBack mid new x → AddsNoLearningSlots before new
learning_back before mid new x made taken = record {
  editions = made_and_back edition_cmp (λ k. is_key_of edition_cmp edition_key x.editions.new k) before.editions.slots mid.editions.slots new.editions.slots made.editions taken.editions;
  courses = back key_of_course x.courses before.courses mid.courses new.courses made.courses taken.courses;
  registrations = back registration_key x.registrations before.registrations mid.registrations new.registrations made.registrations taken.registrations;
  launches = back session_of x.launches before.launches mid.launches new.launches made.launches taken.launches;
  made_sessions = back made_session_id x.made_sessions before.made_sessions mid.made_sessions new.made_sessions made.made_sessions taken.made_sessions;
  keys = back text_of_key x.keys before.keys mid.keys new.keys made.keys taken.keys;
  tokens = back text_of_token x.tokens before.tokens mid.tokens new.tokens made.tokens taken.tokens;
}

pub none_more : (parts : SeenParts) → AddsNoSlots parts parts
none_more parts = record {
  providers = λ k has. has;
  learning = record { editions = λ k has. has; courses = λ k has. has; registrations = λ k has. has; launches = λ k has. has; made_sessions = λ k has. has; keys = λ k has. has; tokens = λ k has. has };
  statements = inr refl;
  documents = λ k has. has;
  sessions = record { own = λ id has. has; unit = λ registration activity has. has; units = λ registration has. has };
  running = inr refl;
  targets = inr refl;
}
