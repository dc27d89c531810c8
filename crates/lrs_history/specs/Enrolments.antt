-- Registrations with their editions: what is told of the nodes of one, and of which nodes it is still to be said that
-- they are satisfied.
use Rattle.std.specs.Prelude.{ℕ, Bool, List, ◌++◌, Option, option_and_then, option_map, slice_get}
use Rattle.cmi5_verdict.specs.Nodes.{SeenEnrolment, owed, verdicts}
use Rattle.lrs_state.specs.Editions.{SeenEdition}
use Rattle.lrs_state.specs.Registrations.{registration_under}
use Rattle.lrs_state.specs.State.{State}
use Rattle.lrs_state.specs.declared.founding.Founding.{Founding}
use Rattle.lrs_state.specs.declared.registrations.HeldRegistration.{HeldRegistration}
use Rattle.xapi_pages.specs.XapiStatementStored.{StoredStatement}

-- a registration and its edition
pub record Enrolled : Type 0 where
  -- the address that the store's own names begin with
  pub base : List ℕ
  pub registration : HeldRegistration
  pub edition : SeenEdition

-- what a verdict looks at
abbrev pub enrolment_of : Enrolled → SeenEnrolment
enrolment_of e = record {
  registration = e.registration.id;
  base = e.base;
  course = e.registration.edition;
  nodes = e.edition.course.nodes;
}

abbrev pub enrolled_from : State → HeldRegistration → Founding → Option Enrolled
enrolled_from st r founding = option_map
    (λ edition. record { base = founding.base; registration = r; edition = edition })
    (slice_get st.editions r.edition)

-- with its edition, if that is there and the store is founded
abbrev pub enrolled_as : State → HeldRegistration → Option Enrolled
enrolled_as st r = option_and_then (enrolled_from st r) st.founding

-- the registration of that id
abbrev pub enrolled : State → List ℕ → Option Enrolled
enrolled st id = option_and_then (enrolled_as st) (registration_under id st.registrations)

-- ---- verdicts

-- whether each node is satisfied, in the order of the text
abbrev pub verdicts_of : State → Enrolled → List Bool
verdicts_of st e = verdicts (enrolment_of e) st.statements

-- the nodes of which it is to be said behind these new statements
abbrev pub owed_behind : State → List StoredStatement → Enrolled → List ℕ
owed_behind st new e = owed (enrolment_of e) (st.statements ++ new)
