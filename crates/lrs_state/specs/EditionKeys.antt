-- What editions are found by.
use Rattle.cmi5_course.specs.Courses.{course_key}
use Rattle.lrs_state.specs.Editions.{SeenEdition}
use Rattle.lrs_state.specs.declared.edition_keys.EditionKey.{EditionKey}

-- the number and the id of an edition
abbrev pub edition_key : SeenEdition → EditionKey
edition_key edition = record { number = edition.number; id = course_key edition.course }
