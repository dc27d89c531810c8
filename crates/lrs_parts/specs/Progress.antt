-- What is kept from entry to entry of how far sessions and registrations have come, what it stands for, and what a
-- statement that comes changes of what came before it.
use Rattle.std.specs.Prelude.{◌≡◌, ◌+◌, ◌==◌, ℕ, ◌&&◌, Bool, false, not, List, length, take, Option, Some, None}
use Rattle.std.specs.Prelude.{IsTrue, option_and_then, option_map, slice_get, if◌then◌else◌}
use Rattle.std.specs.Option.{option_map_or}
use Rattle.std.specs.Str.{bytes_eq}
use Rattle.cmi5_running_sessions.specs.Kept.{SaidStandsFor}
use Rattle.cmi5_running_sessions.specs.Room.{HasSlotsForEach}
use Rattle.cmi5_running_verdicts.specs.Running.{HasCounted, SeenRunning, TalliesStandFor}
use Rattle.cmi5_running_sessions.specs.Cmi5SessionMarked.{MarkedStatement, marked}
use Rattle.cmi5_running_verdicts.specs.Cmi5VerdictNodes.{SeenEnrolment}
use Rattle.lrs_ids.specs.Ids.{are_distinct}
use Rattle.lrs_json.specs.View.{view}
use Rattle.lrs_state.specs.Counted.{index_under}
use Rattle.lrs_state.specs.Editions.{SeenEdition}
use Rattle.lrs_state.specs.Registrations.{registration_key}
use Rattle.lrs_parts.specs.Trees.{AreTargets}
use Rattle.lrs_state.specs.declared.effect.Effect.{Effect}
use Rattle.lrs_state.specs.declared.founding.Founding.{Founding}
use Rattle.lrs_parts.specs.declared.progress.Progress.{Progress}
use Rattle.lrs_state.specs.declared.registrations.HeldRegistration.{HeldRegistration}
use Rattle.xapi_statement.specs.Statements.{ids_of, is_voided, referred_at}
use Rattle.xapi_statement.specs.Statement.{registration_of}
use Rattle.xapi_statement.specs.Stored.{StoredStatement}

-- ---- what verdicts look at

abbrev pub enrolment_with : HeldRegistration → Founding → SeenEdition → SeenEnrolment
enrolment_with r founding edition = record {
  registration = r.id;
  base = founding.base;
  course = r.edition;
  nodes = edition.course.nodes;
}

-- of a registration, if the store is founded and the edition is there
abbrev pub enrolment_in : Option Founding → List SeenEdition → HeldRegistration → Option SeenEnrolment
enrolment_in founding editions r = option_and_then
    (λ f. option_map (enrolment_with r f) (slice_get editions r.edition)) founding

-- of the registration of that number
abbrev pub enrolment_at : Option Founding → List SeenEdition → List HeldRegistration → ℕ → Option SeenEnrolment
enrolment_at founding editions registrations number =
    option_and_then (enrolment_in founding editions) (slice_get registrations number)

-- the number of the registration that a statement names, the first of its id
abbrev pub number_named : StoredStatement → List HeldRegistration → Option ℕ
number_named s registrations =
    option_and_then (λ id. index_under registration_key id registrations) (registration_of (view s.received))

-- that number, if the registration there is in the edition of this one
abbrev pub number_in : HeldRegistration → List HeldRegistration → ℕ → Option ℕ
number_in r registrations number = option_and_then
    (λ (held : HeldRegistration). if held.edition == r.edition then Some number else None)
    (slice_get registrations number)

-- the number of a registration, if it is held and the first of its id
abbrev pub number_held : HeldRegistration → List HeldRegistration → Option ℕ
number_held r registrations =
    option_and_then (number_in r registrations) (index_under registration_key r.id registrations)

-- ---- what it stands for

-- the tallies of a registration stand for these statements
pub record HasTallies (running : SeenRunning) (founding : Option Founding) (editions : List SeenEdition)
    (those : List MarkedStatement) (number : ℕ) (r : HeldRegistration) : Type 0 where
  pub enrolment : SeenEnrolment
  pub enrolled : enrolment_in founding editions r ≡ Some enrolment
  pub stands : TalliesStandFor running those number enrolment

-- Each registration has tallies. Those of the first of its id stand for these statements, and it has its edition.
pub record AreCounted (running : SeenRunning) (founding : Option Founding) (editions : List SeenEdition)
    (registrations : List HeldRegistration) (those : List MarkedStatement) : Type 0 where
  pub long : length running.held ≡ length registrations
  pub each : (id : List ℕ) → (number : ℕ) → (r : HeldRegistration)
      → index_under registration_key id registrations ≡ Some number → slice_get registrations number ≡ Some r
      → HasTallies running founding editions those number r

-- What is kept of sessions stands for these statements, and so does what is kept of registrations.
pub record KeepsUp (p : Progress) (founding : Option Founding) (editions : List SeenEdition)
    (registrations : List HeldRegistration) (those : List MarkedStatement) : Type 0 where
  pub sessions : SaidStandsFor p.sessions those
  pub counted : AreCounted p.running founding editions registrations those

-- The statements have ids of their own, and what is kept follows them.
pub record IsUpToDate (p : Progress) (founding : Option Founding) (editions : List SeenEdition)
    (registrations : List HeldRegistration) (statements : List StoredStatement) : Type 0 where
  pub distinct : IsTrue (are_distinct (ids_of statements))
  pub follows : KeepsUp p founding editions registrations (marked statements)

-- ---- what a statement that comes changes

-- the statement at a position is there, and one of the first n voids it
abbrev pub is_voided_at : List StoredStatement → ℕ → ℕ → Bool
is_voided_at statements n position = option_map_or (is_voided (take n statements)) (slice_get statements position) false

-- the one at `at` voids that one, and none before it does
abbrev pub is_voided_anew : List StoredStatement → ℕ → ℕ → Bool
is_voided_anew statements at position =
    not (is_voided_at statements at position) && is_voided_at statements (at + 1) position

-- the position of the one that it voids so
abbrev pub voided_anew : List StoredStatement → ℕ → Option ℕ
voided_anew statements at = option_and_then
    (λ position. if is_voided_anew statements at position then Some position else None)
    (referred_at (take (at + 1) statements) at)

-- a statement that came is the one at a position
abbrev pub is_statement_at : StoredStatement → List StoredStatement → ℕ → Bool
is_statement_at s statements at =
    option_map_or (λ (t : StoredStatement). bytes_eq t.id s.id) (slice_get statements at) false

-- where the next one stands: behind that position, or there if this one's id was held
abbrev pub index_behind : StoredStatement → List StoredStatement → ℕ → ℕ
index_behind s statements at = if is_statement_at s statements at then at + 1 else at

-- ---- room

-- this is what verdicts look at of a registration that has its edition
abbrev pub IsEnrolmentOf : Option Founding → List SeenEdition → HeldRegistration → Option SeenEnrolment → Type 0
IsEnrolmentOf founding editions r enrolment = (e : SeenEnrolment) × (enrolment_in founding editions r ≡ Some e)
    × (enrolment ≡ Some e)

-- the registration has its edition, and what these statements say of it is counted
pub record IsReadyToEnrol (running : SeenRunning) (founding : Option Founding) (editions : List SeenEdition)
    (r : HeldRegistration) (those : List MarkedStatement) : Type 0 where
  pub enrolment : SeenEnrolment
  pub enrolled : enrolment_in founding editions r ≡ Some enrolment
  pub counted : HasCounted running those enrolment

-- A registration comes only to a founded store with its edition, of which nothing is replaced, and what the statements
-- that are held say of it is counted. What those that come say has slots, and the trees of those that they void are
-- there.
pub record IsProgressReadyFor (p : Progress) (founding : Option Founding) (editions : List SeenEdition)
    (statements : List StoredStatement) (effect : Effect) : Type 0 where
  pub sessions : HasSlotsForEach p.sessions effect.statements
  pub targets : AreTargets p.targets statements effect.statements
  pub editions_stay : effect.editions.replaced ≡ None
  pub registrations_stay : effect.registrations.replaced ≡ None
  pub running : (r : HeldRegistration) → effect.registrations.new ≡ Some r
      → IsReadyToEnrol p.running founding editions r (marked statements)
