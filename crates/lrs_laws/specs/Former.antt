-- Histories as they were legal before there were editions, in version 0.1.0, whose last commit is 4ecfbeaf: a course
-- was taken up once, another one under its id was refused, and a registration had the course of its id. This file says
-- it for one law alone, which compares it with what is legal now. It stands for these definitions of that version, in
-- specs/ of the crate that is named:
-- - lrs_state: `course_under` and `index_of_course`, by `former_course` and `former_index`;
-- - lrs_history: `new_course` and `taking`, by `former_taking_beside` and `former_taking` (what was told of it is left
--   out: nothing looks at it), and the lines of `Course` and `Enrol` in `effect_of`, by `former_effect_of`;
-- - lrs_history: `refused_beside`, `course_conflict` and the line of `Course` in `conflict`, by `former_beside` and
--   `former_conflict`, and the lines of `Enrol` in `bad_form` and `missing`, by `former_bad_form` and
--   `former_missing`;
-- - lrs_record: `Write`, whose `Enrol` had no edition, by `names_no_edition`. Its text was that of one that names
--   none;
-- - lrs_history: `need`, `end_offset` and `if_room`, over the frames of the old format (lrs_journal: `need_at`,
--   `store`), by nothing. What room a store had is left out, so what is said here holds of each history that was legal
--   under any limit;
-- and, of lrs_history, only because they call those:
-- - `effect`, `state_from` with `step`, and `state`, by `former_effect`, `former_state_from` and `former_state`;
-- - `refusal_at` and `refusal`, by `former_refusal_at` and `former_refusal`;
-- - `answer`, `answer_in`, `outcome`, `write_outcome`, `outcome_by`, `said_at_once` and `answer_of`, as far as
--   `ComesNext` asks of them which entry a write is given, by `WasAccepted`; and `ComesNext` by `CameNext`;
-- - `IsLegalFrom` and `IsLegal`, by `WasLegalFrom` and `WasLegal`.
-- All other definitions are taken as they are now. `State`, `HeldRegistration`, `Effect`, `nothing`, `no_change`,
-- `changes_nothing`, `apply` with `courses_after`, `enrolling`, `Enrolled`, `enrolled_from`, `enrolment_of`,
-- `satisfied_at`, `target_of` and `activity_at` are the same over a list of editions in place of one of courses: each
-- edition is a course with the number 1, and a registration has its index. What is counted of courses beside that list
-- was not there, and no former rule looks at it. The rest has not changed, but for what is told.
use Rattle.std.specs.Prelude.{◌≡◌, ◌<◌, ℕ, Bool, true, false, not, IsTrue, List, [], ◌∷◌, ◌++◌, length}
use Rattle.std.specs.Prelude.{Option, Some, None, find, position, is_none}
use Rattle.std.specs.Str.{bytes_eq}
use Rattle.cmi5_course.specs.Courses.{Course, course_key, course_of, same_course}
use Rattle.lrs_history.specs.DeskEffects.{enrolling, taking_as}
use Rattle.lrs_history.specs.Effects.{effect_of}
use Rattle.lrs_history.specs.History.{next_entry, HasRoomFrom, IsFounding, IsLegal, IsMovable}
use Rattle.lrs_history.specs.Occasions.{Occasion, occasion}
use Rattle.lrs_history.specs.Refusals.{bad_form, barred, barred_document, conflict, missing, refused_actor}
use Rattle.lrs_history.specs.Refusals.{unless_there, unmergeable}
use Rattle.lrs_ids.specs.Choices.{first_some, when}
use Rattle.lrs_record.specs.Entries.{IsLawful}
use Rattle.lrs_record.specs.Writes.{write_area}
use Rattle.lrs_record.specs.declared.entry.Entry.{Entry}
use Rattle.lrs_record.specs.declared.entry.Write.{Write}
use Rattle.lrs_record.specs.declared.entry.Write.TheVariants.{Enrol}
use Rattle.lrs_record.specs.declared.entry.Write.TheVariants as write
use Rattle.lrs_replies.specs.declared.answered.Refusal.{Refusal}
use Rattle.lrs_replies.specs.declared.answered.Refusal.TheVariants.{Conflict}
use Rattle.lrs_state.specs.Editions.{SeenEdition}
use Rattle.lrs_state.specs.State.{State, apply, changes_nothing, no_change, nothing}
use Rattle.lrs_state.specs.declared.effect.Effect.{Effect}

-- ---- what was held of courses

-- the course of that id
abbrev pub former_course : List ℕ → List SeenEdition → Option SeenEdition
former_course id editions = find (λ (e : SeenEdition). bytes_eq (course_key e.course) id) editions

-- its index
abbrev pub former_index : List ℕ → List SeenEdition → Option ℕ
former_index id editions = position (λ (e : SeenEdition). bytes_eq (course_key e.course) id) editions

-- ---- what an entry changed

-- A course that is held is the same.
abbrev pub former_taking_beside : ℕ → Course → Option SeenEdition → Effect
former_taking_beside moment course None = taking_as moment course None None
former_taking_beside moment course (Some held) = no_change moment

abbrev pub former_taking : State → ℕ → Course → Effect
former_taking st moment course = former_taking_beside moment course (former_course (course_key course) st.editions)

abbrev pub former_effect_of : State → Occasion → Write → Effect
former_effect_of st at (write.Course tree) = former_taking st at.moment (course_of tree)
former_effect_of st at (Enrol course actor edition) = enrolling st at actor (former_index course st.editions)
former_effect_of st at other = effect_of st at other

abbrev pub former_effect : State → Entry → Effect
former_effect st e = former_effect_of st (occasion st e) e.write

abbrev pub former_state_from : State → List Entry → State
former_state_from st [] = st
former_state_from st (e ∷ entries) = former_state_from (apply st (former_effect st e)) entries

abbrev pub former_state : List Entry → State
former_state entries = former_state_from nothing entries

-- ---- why a write was refused

-- Another course is held under its id. How that was told doesn't matter here: it was refused.
abbrev pub former_beside : Course → Option SeenEdition → Option Refusal
former_beside course None = None
former_beside course (Some held) = when (not (same_course held.course course)) (Conflict (course_key course))

abbrev pub former_conflict : State → Occasion → Write → Option Refusal
former_conflict st at (write.Course tree) =
    former_beside (course_of tree) (former_course (course_key (course_of tree)) st.editions)
former_conflict st at other = conflict st at other

abbrev pub former_missing : State → Write → Option Refusal
former_missing st (Enrol course actor edition) = unless_there (former_index course st.editions)
former_missing st other = missing st other

abbrev pub former_bad_form : Write → Option Refusal
former_bad_form (Enrol course actor edition) = refused_actor actor
former_bad_form other = bad_form other

abbrev pub former_refusal_at : State → Occasion → Write → Option Refusal
former_refusal_at st at write = first_some (
    barred (write_area write) at.by
    ∷ former_bad_form write
    ∷ barred_document st at.by write
    ∷ former_missing st write
    ∷ unmergeable st write
    ∷ former_conflict st at write
    ∷ [])

abbrev pub former_refusal : State → Entry → Option Refusal
former_refusal st e = former_refusal_at st (occasion st e) e.write

-- ---- legal histories

abbrev pub names_no_edition : Write → Bool
names_no_edition (Enrol course actor edition) = is_none edition
names_no_edition other = true

-- The answer to its own write gave this entry, if there was room for it: its moment isn't before the last one's, it
-- isn't refused, and it changes something.
pub record WasAccepted (h : List Entry) (e : Entry) : Type 0 where
  pub own : e ≡ next_entry (former_state h) e.caller e.write e.moment e.draw
  pub free : former_refusal (former_state h) e ≡ None
  pub changes : changes_nothing (former_effect (former_state h) e) ≡ false

abbrev pub CameNext : List Entry → Entry → Type 0
CameNext [] e = IsFounding e
CameNext (first ∷ more) e = WasAccepted (first ∷ more) e

abbrev pub WasLegalFrom : List Entry → List Entry → Type 0
WasLegalFrom before [] = Unit {0}
WasLegalFrom before (e ∷ entries) = IsLawful e × IsTrue (names_no_edition e.write) × CameNext before e
    × WasLegalFrom (before ++ e ∷ []) entries

-- The history could have come about, whatever room there was.
abbrev pub WasLegal : List Entry → Type 0
WasLegal entries = (0 < length entries) × WasLegalFrom [] entries

-- ---- the law

-- What was legal is legal now, under a limit that holds its frames.
abbrev pub FormerHistoriesAreLegal : Type 0
FormerHistoriesAreLegal = (limit : ℕ) (h : List Entry) → WasLegal h → HasRoomFrom limit [] h → IsLegal limit h

-- and can be moved into a store of such a limit
abbrev pub FormerHistoriesAreMovable : Type 0
FormerHistoriesAreMovable = (limit : ℕ) (h : List Entry) → WasLegal h → HasRoomFrom limit [] h → IsMovable limit h
