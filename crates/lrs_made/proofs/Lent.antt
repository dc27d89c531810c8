-- What the parts lend: a registration with its edition, and a unit of it.
use Rattle.std.proofs.Common.{◌≡◌, ◌<◌, ◌∙◌, ℕ, List, length, Option, Some, None, IfSome, option_and_then, option_map, slice_get, refl, sym, ap, subst}
use Rattle.std.proofs.lemmas.Option.{slice_get_within}
use Rattle.cmi5_course.specs.Courses.{Course, unit_at}
use Rattle.cmi5_course.specs.Units.{AssignableUnit}
use Rattle.cmi5_course.specs.declared.course.Node.{Node}
use Rattle.lrs_history.specs.Cmi5VerdictNodes.{SeenEnrolment}
use Rattle.lrs_history.specs.Enrolments.{Enrolled, enrolled, enrolled_as, enrolled_from, enrolment_of}
use Rattle.lrs_history.specs.Launches.{Target, target, target_in, target_of}
use Rattle.lrs_made.specs.Lent.{IsLentBy, IsTargetOf, enrolled_of, seen_enrolled}
use Rattle.lrs_made.specs.declared.enrolments.LentEnrolled.{LentEnrolled}
use Rattle.lrs_made.specs.declared.targets.LentTarget.{LentTarget}
use Rattle.lrs_parts.specs.Progress.{enrolment_in, enrolment_with}
use Rattle.lrs_history.specs.LrsStateEditions.{SeenEdition}
use Rattle.lrs_history.specs.LrsStateRegistrations.{registration_under}
use Rattle.lrs_history.specs.LrsStateState.{State}
use Rattle.lrs_history.specs.LrsStateFoundingFounding.{Founding}
use Rattle.lrs_history.specs.LrsStateRegistrationsHeldRegistration.{HeldRegistration}

abbrev in_edition : Founding → HeldRegistration → SeenEdition → Enrolled
in_edition f r = λ (edition : SeenEdition). record { base = f.base; registration = r; edition = edition }

-- ---- what verdicts look at

of_edition : (f : Founding) (r : HeldRegistration) (o : Option SeenEdition) → option_map (enrolment_with r f) o ≡ option_map enrolment_of (option_map (in_edition f r) o)
of_edition f r None = refl
of_edition f r (Some edition) = refl

of_founding : (st : State) (r : HeldRegistration) (o : Option Founding) → enrolment_in o st.editions r ≡ option_map enrolment_of (option_and_then (enrolled_from st r) o)
of_founding st r None = refl
of_founding st r (Some f) = of_edition f r (slice_get st.editions r.edition)

-- the parts find the registration with the edition with which it is lent
pub enrolment_lent : (st : State) (r : HeldRegistration) (e : Enrolled) (x : SeenEnrolment) → enrolled_as st r ≡ Some e → x ≡ enrolment_of e → enrolment_in st.founding st.editions r ≡ Some x
enrolment_lent st r e x lent is =
    of_founding st r st.founding
    ∙ (ap (λ (o : Option Enrolled). option_map enrolment_of o) lent ∙ ap (λ (y : SeenEnrolment). Some y) (sym is))

-- ---- a registration

-- in a store that was founded so
pub found_under : (st : State) (r : HeldRegistration) (f : Founding) (o : Option Enrolled) → o ≡ enrolled_from st r f → Some f ≡ st.founding → o ≡ enrolled_as st r
found_under st r f o from founded = from ∙ ap (λ (p : Option Founding). option_and_then (enrolled_from st r) p) founded

kept_in : (f : Founding) (r : HeldRegistration) (o : Option SeenEdition) → IfSome (option_map (in_edition f r) o) (λ (e : Enrolled). e.registration ≡ r)
kept_in f r None = tt
kept_in f r (Some edition) = refl

kept_under : (st : State) (r : HeldRegistration) (o : Option Founding) → IfSome (option_and_then (enrolled_from st r) o) (λ (e : Enrolled). e.registration ≡ r)
kept_under st r None = tt
kept_under st r (Some f) = kept_in f r (slice_get st.editions r.edition)

-- what is found with a registration is lent with it
pub lent_as : (st : State) (r : HeldRegistration) (o : Option LentEnrolled) → option_map seen_enrolled o ≡ enrolled_as st r → IfSome o (λ (e : LentEnrolled). IsLentBy st e)
lent_as st r None found = tt
lent_as st r (Some e) found =
    let same : e.registration.now ≡ r =
    subst (λ (o : Option Enrolled). IfSome o (λ (x : Enrolled). x.registration ≡ r)) (sym found) (kept_under st r st.founding) in
    ap (λ (x : HeldRegistration). enrolled_as st x) same ∙ sym found

-- ---- a unit

node_there : (index : ℕ) (nodes : List Node) (unit : AssignableUnit) (o : Option Node) → slice_get nodes index ≡ o
    → Some unit ≡ option_and_then (λ (node : Node). node.unit) o → index < length nodes
node_there index nodes unit None at is =
    let no : ◌≡◌ {A = Option AssignableUnit} (Some unit) None = is in
    absurd (cc no)
node_there index nodes unit (Some node) at is = slice_get_within nodes index node at

-- a unit's number is that of a node
pub unit_within : (course : Course) (index : ℕ) (unit : AssignableUnit) → Some unit ≡ unit_at index course → index < length course.nodes
unit_within course index unit is = node_there index course.nodes unit (slice_get course.nodes index) refl is

-- the unit of that id in the edition of a registration
abbrev pub unit_of : List ℕ → Enrolled → Option Target
unit_of publisher e = target_in e.base e.registration publisher e.edition.course

unit_of_edition : (publisher : List ℕ) (f : Founding) (r : HeldRegistration) (o : Option SeenEdition) → option_and_then (unit_of publisher) (option_map (in_edition f r) o)
    ≡ option_and_then (λ (e : SeenEdition). target_in f.base r publisher e.course) o
unit_of_edition publisher f r None = refl
unit_of_edition publisher f r (Some edition) = refl

unit_of_both : (st : State) (publisher : List ℕ) (o : Option Founding) (p : Option HeldRegistration)
    → option_and_then (unit_of publisher) (option_and_then (λ (r : HeldRegistration). option_and_then (enrolled_from st r) o) p)
    ≡ option_and_then (λ (f : Founding). option_and_then (λ (r : HeldRegistration). target_of st publisher r f) p) o
unit_of_both st publisher None None = refl
unit_of_both st publisher None (Some r) = refl
unit_of_both st publisher (Some f) None = refl
unit_of_both st publisher (Some f) (Some r) = unit_of_edition publisher f r (slice_get st.editions r.edition)

-- it is found over the registration with its edition
pub target_is : (st : State) (registration publisher : List ℕ) → option_and_then (unit_of publisher) (enrolled st registration) ≡ target st registration publisher
target_is st registration publisher = unit_of_both st publisher st.founding (registration_under registration st.registrations)

-- a unit in the edition of a registration that is lent
pub target_lent : (st : State) (e : LentEnrolled) (o : Option LentTarget) → IsLentBy st e → IfSome o (λ (t : LentTarget). enrolled_of t ≡ seen_enrolled e)
    → IfSome o (λ (t : LentTarget). t.index < length e.edition.now.course.nodes) → IfSome o (λ (t : LentTarget). IsTargetOf st t)
target_lent st e None lent is within = tt
target_lent st e (Some t) lent is within = record {
  enrolled = ap (λ (x : Enrolled). enrolled_as st x.registration) is ∙ (lent ∙ ap (λ (x : Enrolled). Some x) (sym is));
  index = subst (λ (x : Enrolled). t.index < length x.edition.course.nodes) (sym is) within;
}
