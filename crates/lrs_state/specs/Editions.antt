-- The editions of courses in the order in which they came. Publishers correct courses: each correction is an edition.
use Rattle.std.specs.Prelude.{ℕ, ◌==◌, ◌&&◌, Bool, List, Option, find, position}
use Rattle.std.specs.Str.{bytes_eq}
use Rattle.cmi5_course.specs.Courses.{Course, course_key}
use Rattle.lrs_register.specs.Changes.{unchanged, with_change}
use Rattle.lrs_register.specs.declared.change.Change.{Change}

-- What is seen of an edition: its course as it was taken up, and its number among the editions of its id, counted from
-- 1.
pub record SeenEdition : Type 0 where
  pub course : Course
  pub number : ℕ

-- it is the edition of that id and that number
abbrev pub is_edition_of : List ℕ → ℕ → SeenEdition → Bool
is_edition_of id number edition = (edition.number == number) && bytes_eq (course_key edition.course) id

abbrev pub edition_under : List ℕ → ℕ → List SeenEdition → Option SeenEdition
edition_under id number editions = find (is_edition_of id number) editions

-- Its index among all editions: the names of its nodes have it.
abbrev pub index_of_edition : List ℕ → ℕ → List SeenEdition → Option ℕ
index_of_edition id number editions = position (is_edition_of id number) editions

-- ---- what is changed

-- one that comes
abbrev pub EditionsChange : Type 0
EditionsChange = Change SeenEdition

abbrev pub unchanged_editions : EditionsChange
unchanged_editions = unchanged

-- both have the same id and the same number
abbrev pub is_same_edition : SeenEdition → SeenEdition → Bool
is_same_edition edition other = is_edition_of (course_key other.course) other.number edition

abbrev pub editions_after : List SeenEdition → EditionsChange → List SeenEdition
editions_after editions change = with_change is_same_edition editions change
