-- The bodies of the desk: each has one value, and an enrolment or a launch that breaks no rule passes each test.
use Rattle.std.proofs.Common.{◌≡◌, ℕ, Bool, true, false, List, ◌++◌, Option, Some, None, MatchOption, codes, refl, sym, ◌∙◌}
use Rattle.std.proofs.lemmas.Option.{same_Some}
use Rattle.lrs_agents.specs.Readings.{IsAgentOf}
use Rattle.lrs_agents.specs.declared.agents.Agent.{Agent}
use Rattle.lrs_json.specs.Find.{find}
use Rattle.lrs_json.specs.Json.{Json}
use Rattle.lrs_names.specs.Iris.{is_iri}
use Rattle.lrs_names.specs.Members.{has_member_that, if_member, is_string_that}
use Rattle.lrs_names.specs.Rules.{least, lesser, unless}
use Rattle.lrs_names.proofs.RuleLemmas.{least-append}
use Rattle.lrs_bodies.specs.DeskBodies.{IsEnrolmentIn, IsLaunchIn, IsWaiverIn, IsSweepIn, enrolment_body_faults, has_iri, is_enrolment, is_launch, is_mode, launch_body_faults, names_edition, tells_learner}
use Rattle.lrs_bodies.specs.declared.body_value.BodyValue.{BodyValue}
use Rattle.lrs_bodies.specs.declared.body_value.BodyValue.TheVariants as body

-- ---- a value gives one enrolment, one launch, one waiver and one sweep

one_agent : (j : Json) (a b : Agent) → IsAgentOf j a → IsAgentOf j b → a ≡ b
one_agent j a b h k =
    let ifi : a.ifi ≡ b.ifi = same_Some a.ifi b.ifi (sym h.ifi ∙ k.ifi) in
    let name : a.name ≡ b.name = sym h.name ∙ k.name in
    λ i. record { ifi = ifi i; name = name i }

one_actor : (o : Option Json) (a b : Agent) → MatchOption o ⊥ (λ j. IsAgentOf j a) → MatchOption o ⊥ (λ j. IsAgentOf j b) → a ≡ b
one_actor None a b h k = absurd h
one_actor (Some j) a b h k = one_agent j a b h k

pub one_enrolment : (j : Json) (a b : BodyValue) → IsEnrolmentIn j a → IsEnrolmentIn j b → a ≡ b
one_enrolment j a b h k =
    let course : h.0 ≡ k.0 = same_Some h.0 k.0 (sym h.3.course_is ∙ k.3.course_is) in
    let actor : h.1 ≡ k.1 = one_actor (find (codes "actor") j) h.1 k.1 h.3.actor_is k.3.actor_is in
    let edition : h.2 ≡ k.2 = sym h.3.edition_is ∙ k.3.edition_is in
    h.4 ∙ (λ i. body.Enrolment (course i) (actor i) (edition i)) ∙ sym k.4

pub one_launch : (j : Json) (a b : BodyValue) → IsLaunchIn j a → IsLaunchIn j b → a ≡ b
one_launch j a b h k =
    let unit : h.0 ≡ k.0 = same_Some h.0 k.0 (sym h.3.unit_is ∙ k.3.unit_is) in
    let mode : h.1 ≡ k.1 = same_Some h.1 k.1 (sym h.3.mode_is ∙ k.3.mode_is) in
    let url : h.2 ≡ k.2 = sym h.3.return_url_is ∙ k.3.return_url_is in
    h.4 ∙ (λ i. body.Launch (unit i) (mode i) (url i)) ∙ sym k.4

pub one_waiver : (j : Json) (a b : BodyValue) → IsWaiverIn j a → IsWaiverIn j b → a ≡ b
one_waiver j a b h k =
    let unit : h.0 ≡ k.0 = same_Some h.0 k.0 (sym h.2.unit_is ∙ k.2.unit_is) in
    let reason : h.1 ≡ k.1 = same_Some h.1 k.1 (sym h.2.reason_is ∙ k.2.reason_is) in
    h.3 ∙ (λ i. body.Waiver (unit i) (reason i)) ∙ sym k.3

pub one_sweep : (j : Json) (a b : BodyValue) → IsSweepIn j a → IsSweepIn j b → a ≡ b
one_sweep j a b h k =
    let idle : h.0 ≡ k.0 = same_Some h.0 k.0 (sym h.1 ∙ k.1) in
    h.2 ∙ (λ i. body.Sweep (idle i)) ∙ sym k.2

-- ---- an enrolment and a launch that break no rule

no_lesser : (a b : Option ℕ) → lesser a b ≡ None → (a ≡ None) × (b ≡ None)
no_lesser None None e = (refl, refl)
no_lesser None (Some n) e = absurd (cc e)
no_lesser (Some m) None e = absurd (cc e)
no_lesser (Some m) (Some n) e = absurd (cc e)

passed : (passes : Bool) (n : ℕ) → least (unless passes n) ≡ None → passes ≡ true
passed true n e = refl
passed false n e = absurd (cc e)

met : (rules : List ℕ) (passes : Bool) (n : ℕ) → least (rules ++ unless passes n) ≡ None → (least rules ≡ None) × (passes ≡ true)
met rules passes n e =
    let parts = no_lesser (least rules) (least (unless passes n)) (sym (least-append rules (unless passes n)) ∙ e) in (parts.0, passed passes n parts.1)

pub enrolment_unbroken : (j : Json) → least (enrolment_body_faults j) ≡ None → (has_member_that (codes "actor") tells_learner j ≡ true) × (has_iri (codes "course") j ≡ true)
enrolment_unbroken j e =
    let actor = has_member_that (codes "actor") tells_learner j in
    let course = has_iri (codes "course") j in
    let edition = if_member (codes "edition") names_edition j in
    let editions = met (unless (is_enrolment j) 1 ++ unless actor 3 ++ unless course 8) edition 10 e in
    let courses = met (unless (is_enrolment j) 1 ++ unless actor 3) course 8 editions.0 in
    let actors = met (unless (is_enrolment j) 1) actor 3 courses.0 in
    (actors.1, courses.1)

pub launch_unbroken : (j : Json) → least (launch_body_faults j) ≡ None
    → (if_member (codes "mode") (is_string_that is_mode) j ≡ true) × (if_member (codes "returnURL") (is_string_that is_iri) j ≡ true) × (has_iri (codes "unit") j ≡ true)
launch_unbroken j e =
    let mode = if_member (codes "mode") (is_string_that is_mode) j in
    let url = if_member (codes "returnURL") (is_string_that is_iri) j in
    let units = met (unless (is_launch j) 1 ++ unless mode 4 ++ unless url 7) (has_iri (codes "unit") j) 8 e in
    let urls = met (unless (is_launch j) 1 ++ unless mode 4) url 7 units.0 in
    let modes = met (unless (is_launch j) 1) mode 4 urls.0 in
    (modes.1, urls.1, units.1)
