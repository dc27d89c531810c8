-- Editions of courses over every history: their numbers, which one is the newest, and which one a registration has.
use Rattle.std.specs.Prelude.{◌≡◌, ◌+◌, ℕ, List, [], ◌∷◌, ◌++◌, length, map, take, filter, filter_map, IsTrue}
use Rattle.std.specs.Prelude.{Option, Some, None, option_map, slice_get}
use Rattle.std.specs.List.{last_or}
use Rattle.std.specs.Str.{bytes_eq}
use Rattle.cmi5_course.specs.Courses.{Course, course_key, course_of}
use Rattle.lrs_agents.specs.declared.agents.Agent.{Agent}
use Rattle.lrs_history.specs.History.{state, IsLegal}
use Rattle.lrs_history.specs.Occasions.{occasion}
use Rattle.lrs_ids.specs.Ids.{are_distinct}
use Rattle.lrs_record.specs.declared.entry.Entry.{Entry}
use Rattle.lrs_record.specs.declared.entry.Write.{Write}
use Rattle.lrs_record.specs.declared.entry.Write.TheVariants.{Enrol}
use Rattle.lrs_record.specs.declared.entry.Write.TheVariants as write
use Rattle.lrs_state.specs.Courses.{course_under, key_of_course, newest_edition}
use Rattle.lrs_state.specs.Editions.{SeenEdition, edition_under, index_of_edition}
use Rattle.lrs_state.specs.State.{State}
use Rattle.lrs_state.specs.declared.courses.HeldCourse.{HeldCourse}
use Rattle.lrs_state.specs.declared.registrations.HeldRegistration.{HeldRegistration}

-- the editions of that id, in their order
abbrev pub editions_of : List ℕ → List SeenEdition → List SeenEdition
editions_of id editions = filter (λ (e : SeenEdition). bytes_eq (course_key e.course) id) editions

-- An edition's number is one more than the number of earlier editions of its id.
abbrev pub EditionsAreNumbered : Type 0
EditionsAreNumbered = (h : List Entry) (k : ℕ) (e : SeenEdition) → slice_get (state h).editions k ≡ Some e
    → e.number ≡ length (editions_of (course_key e.course) (take k (state h).editions)) + 1

-- Each edition is found by its id and its number: no other one has both.
abbrev pub EditionsAreFound : Type 0
EditionsAreFound = (h : List Entry) (k : ℕ) (e : SeenEdition) → slice_get (state h).editions k ≡ Some e
    → index_of_edition (course_key e.course) e.number (state h).editions ≡ Some k

-- The newest edition of an id is the last one of that id.
abbrev pub NewestIsLast : Type 0
NewestIsLast = (h : List Entry) (id : List ℕ)
    → newest_edition id (state h).courses (state h).editions ≡ last_or None (editions_of id (state h).editions)

-- how many there are, if there are any
abbrev pub count_if_any : List SeenEdition → Option ℕ
count_if_any [] = None
count_if_any (e ∷ editions) = Some (length (e ∷ editions))

-- Of an id with editions their number is known, and of no other.
abbrev pub CoursesCountEditions : Type 0
CoursesCountEditions = (h : List Entry) (id : List ℕ)
    → option_map (λ (held : HeldCourse). held.editions) (course_under id (state h).courses)
    ≡ count_if_any (editions_of id (state h).editions)

-- no two courses have one id
abbrev pub CoursesNameOne : Type 0
CoursesNameOne = (h : List Entry) → IsTrue (are_distinct (map key_of_course (state h).courses))

-- an edition keeps its index and stays as it is
abbrev pub EditionsStay : Type 0
EditionsStay = (h more : List Entry) (k : ℕ) (e : SeenEdition) → slice_get (state h).editions k ≡ Some e
    → slice_get (state (h ++ more)).editions k ≡ Some e

-- ---- over legal histories

-- the course that a write brings
abbrev pub course_in : Write → Option Course
course_in (write.Course tree) = Some (course_of tree)
course_in other = None

-- The k-th entry that brings a course makes the k-th edition.
abbrev pub CoursesAreEditions : Type 0
CoursesAreEditions = (limit : ℕ) (h : List Entry) → IsLegal limit h
    → map (λ (e : SeenEdition). e.course) (state h).editions ≡ filter_map (λ (e : Entry). course_in e.write) h

-- the edition that is meant: of the number that is named, or else the newest of the id
abbrev pub edition_meant : State → List ℕ → Option ℕ → Option SeenEdition
edition_meant st course (Some number) = edition_under course number st.editions
edition_meant st course None = newest_edition course st.courses st.editions

-- The registration that an enrolment makes has the edition that was meant before it.
pub record HasEditionMeant (before after : State) (id course : List ℕ) (actor : Agent) (named : Option ℕ) : Type 0 where
  pub edition : SeenEdition
  pub registration : HeldRegistration
  pub meant : edition_meant before course named ≡ Some edition
  pub made : slice_get after.registrations (length before.registrations) ≡ Some registration
  pub id_is : registration.id ≡ id
  pub actor_is : registration.actor ≡ actor
  pub edition_is : slice_get after.editions registration.edition ≡ Some edition

-- A registration has the edition that its enrolment named, or else the newest of the id before it; for good. It stands
-- at its place among the registrations, and no other one has its id as long as there are ids to be made.
abbrev pub RegistrationsKeepTheirEdition : Type 0
RegistrationsKeepTheirEdition =
    (limit : ℕ) (h more : List Entry) (e : Entry) (course : List ℕ) (actor : Agent) (named : Option ℕ)
    → IsLegal limit (h ++ e ∷ more) → e.write ≡ Enrol course actor named
    → HasEditionMeant (state h) (state (h ++ e ∷ more)) ((occasion (state h) e).supply 0) course actor named
