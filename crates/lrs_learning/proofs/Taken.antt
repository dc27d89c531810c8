-- What changes where a course is taken up beside the newest edition of its id.
use Rattle.std.proofs.Common.{◌≡◌, ℕ, List, true, false, Option, Some, None, sym, ap, ◌∙◌}
use Rattle.std.specs.Prelude.{if◌then◌else◌}
use Rattle.cmi5_course.specs.Courses.{Course, course_key, same_course}
use Rattle.lrs_sessions.specs.LrsHistoryDeskEffects.{coming, next_number, same_newest, taking, taking_as, with_one_more}
use Rattle.lrs_sessions.specs.LrsStateAcceptanceAcceptanceTheVariants as acceptance
use Rattle.lrs_sessions.specs.LrsStateCourses.{CoursesChange, course_under, newest_edition}
use Rattle.lrs_sessions.specs.LrsStateEditions.{SeenEdition}
use Rattle.lrs_sessions.specs.LrsStateEffectEffect.{Effect}
use Rattle.lrs_sessions.specs.LrsStateState.{State, no_change}

-- the id is that of the course, and the newest edition that of the store
pub taken_is : (st : State) (moment : ℕ) (course : Course) (id : List ℕ) (newest : Option SeenEdition) (x : Effect) → id ≡ course_key course
    → newest ≡ newest_edition id st.courses st.editions → x ≡ taking_as moment course (course_under id st.courses) (same_newest course newest) → x ≡ taking st moment course
taken_is st moment course id newest x key is made =
    made
    ∙ (ap (λ (n : Option SeenEdition). taking_as moment course (course_under id st.courses) (same_newest course n)) is
    ∙ ap (λ (i : List ℕ). taking_as moment course (course_under i st.courses) (same_newest course (newest_edition i st.courses st.editions))) key)

abbrev pub told_alone : ℕ → List ℕ → ℕ → Effect
told_alone moment id number = record (no_change moment) { acceptance = acceptance.Course id number }

-- the newest is the same
pub same_is : (st : State) (moment : ℕ) (course : Course) (id : List ℕ) (newest : SeenEdition) (number : ℕ) (x : Effect) → id ≡ course_key course → number ≡ newest.number
    → same_course newest.course course ≡ true → x ≡ told_alone moment id number → x ≡ taking_as moment course (course_under id st.courses) (same_newest course (Some newest))
same_is st moment course id newest number x key counted same made =
    made
    ∙ (ap (λ (i : List ℕ). told_alone moment i number) key
    ∙ (ap (λ (n : ℕ). told_alone moment (course_key course) n) counted
    ∙ ap (λ b. taking_as moment course (course_under id st.courses) (if b then Some newest else None)) (sym same)))

-- the newest is another
pub other_is : (st : State) (moment : ℕ) (course : Course) (id : List ℕ) (newest : SeenEdition) (x : Effect) → same_course newest.course course ≡ false
    → x ≡ taking_as moment course (course_under id st.courses) None → x ≡ taking_as moment course (course_under id st.courses) (same_newest course (Some newest))
other_is st moment course id newest x other made =
    made ∙ ap (λ b. taking_as moment course (course_under id st.courses) (if b then Some newest else None)) (sym other)

abbrev pub taken_with : ℕ → SeenEdition → CoursesChange → List ℕ → ℕ → Effect
taken_with moment edition courses id number = record (no_change moment) {
  editions = coming edition;
  courses = courses;
  acceptance = acceptance.Course id number;
}

-- a new edition comes
pub taken_up_is : (st : State) (moment : ℕ) (course : Course) (id : List ℕ) (number : ℕ) (courses : CoursesChange) (edition : SeenEdition) (x : Effect) → id ≡ course_key course
    → number ≡ next_number (course_under id st.courses) → courses ≡ with_one_more id (course_under id st.courses) → edition ≡ record { course = course; number = number }
    → x ≡ taken_with moment edition courses id number → x ≡ taking_as moment course (course_under id st.courses) None
taken_up_is st moment course id number courses edition x key counted more is made =
    let held = course_under id st.courses in
    let with_key : List ℕ → Effect = λ (i : List ℕ). taken_with moment (record { course = course; number = next_number held }) (with_one_more i held) i (next_number held) in
    made
    ∙ (ap (λ (e : SeenEdition). taken_with moment e courses id number) is
    ∙ (ap (λ (c : CoursesChange). taken_with moment (record { course = course; number = number }) c id number) more
    ∙ (ap (λ (n : ℕ). taken_with moment (record { course = course; number = n }) (with_one_more id held) id n) counted
    ∙ ap with_key key)))
