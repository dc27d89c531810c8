-- What follows from the definitions over every legal history of what is said of nodes: that one is satisfied is said at
-- most once in a registration, and of each block and course that is.
use Rattle.std.specs.Prelude.{◌≡◌, ◌≤◌, ◌<◌, ◌*◌, ℕ, true, false, List, filter, length, Some, slice_get}
use Rattle.cmi5_launch.specs.Names.{satisfied}
use Rattle.cmi5_session.specs.Counting.{counts}
use Rattle.cmi5_verdict.specs.Nodes.{activity_of_node, is_unit_in}
use Rattle.lrs_history.specs.Enrolments.{Enrolled, enrolled, enrolment_of, verdicts_of}
use Rattle.lrs_history.specs.History.{state, IsLegal}
use Rattle.lrs_json.specs.View.{view}
use Rattle.lrs_names.specs.declared.id.TheConstants.{WORDS}
use Rattle.lrs_record.specs.declared.entry.Entry.{Entry}
use Rattle.lrs_state.specs.State.{used_in}
use Rattle.xapi_statement.specs.Stored.{StoredStatement}

-- the statements that say it in that registration of the node that the store knows under that id, voided or not
abbrev pub told_satisfied : List ℕ → List ℕ → List StoredStatement → List StoredStatement
told_satisfied registration activity statements =
    filter (λ (s : StoredStatement). counts registration activity satisfied (view s.received)) statements

-- Of a registration and a node at most one statement says that it is satisfied, whosever it is.
abbrev pub SatisfiedOnce : Type 0
SatisfiedOnce =
    (limit : ℕ) (h : List Entry) (registration activity : List ℕ) → IsLegal limit h
    → length (told_satisfied registration activity (state h).statements) ≤ 1

-- The node of that number is the course itself or a block, and is satisfied: so whoever asks about the registration is
-- shown it.
pub record IsSatisfiedHolder (h : List Entry) (e : Enrolled) (index : ℕ) : Type 0 where
  pub holder : is_unit_in e.edition.course.nodes index ≡ false
  pub satisfied : slice_get (verdicts_of (state h) e) index ≡ Some true

-- Fewer than half of the ids that can be made are in use.
abbrev pub HasIdsLeft : List Entry → Type 0
HasIdsLeft h = 2 * (used_in (state h)).count < WORDS

-- A block or a course that is satisfied in a registration has its satisfied statement, and no second one.
abbrev pub SatisfiedAreTold : Type 0
SatisfiedAreTold =
    (limit : ℕ) (h : List Entry) (registration : List ℕ) (e : Enrolled) (index : ℕ) → IsLegal limit h → HasIdsLeft h
    → enrolled (state h) registration ≡ Some e → IsSatisfiedHolder h e index
    → length (told_satisfied registration (activity_of_node (enrolment_of e) index) (state h).statements) ≡ 1
