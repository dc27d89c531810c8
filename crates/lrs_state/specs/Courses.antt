-- The courses by id: how many editions each has, and which edition is meant.
use Rattle.std.specs.Prelude.{ℕ, List, Option, Some, None, option_and_then}
use Rattle.lrs_register.specs.Changes.{unchanged}
use Rattle.lrs_register.specs.declared.change.Change.{Change}
use Rattle.lrs_state.specs.Counted.{first_under, list_after}
use Rattle.lrs_state.specs.Editions.{SeenEdition, edition_under, index_of_edition}
use Rattle.lrs_state.specs.declared.courses.HeldCourse.{HeldCourse}

abbrev pub key_of_course : HeldCourse → List ℕ
key_of_course held = held.id

-- the course of that id
abbrev pub course_under : List ℕ → List HeldCourse → Option HeldCourse
course_under id courses = first_under key_of_course id courses

-- The newest edition of that id: its number is how many there are.
abbrev pub newest_edition : List ℕ → List HeldCourse → List SeenEdition → Option SeenEdition
newest_edition id courses editions =
    option_and_then (λ (held : HeldCourse). edition_under id held.editions editions) (course_under id courses)

-- the index of the edition that is meant: of that number, or the newest where none is named
abbrev pub index_meant : List ℕ → Option ℕ → List HeldCourse → List SeenEdition → Option ℕ
index_meant id (Some number) courses editions = index_of_edition id number editions
index_meant id None courses editions =
    option_and_then (λ (held : HeldCourse). index_of_edition id held.editions editions) (course_under id courses)

-- ---- what is changed

-- one that comes, and one that takes the place of the first with its id
abbrev pub CoursesChange : Type 0
CoursesChange = Change HeldCourse

abbrev pub unchanged_courses : CoursesChange
unchanged_courses = unchanged

abbrev pub courses_after : List HeldCourse → CoursesChange → List HeldCourse
courses_after courses change = list_after key_of_course courses change
