-- What a statement of a session is that the rules permit.
use Rattle.std.proofs.Common.{◌≡◌, ℕ, List, [], ◌∷◌, Bool, true, false, not, Option, None, refl}
use Rattle.std.specs.Prelude.{codes, if◌then◌else◌}
use Rattle.std.specs.Option.{option_map_or}
use Rattle.cmi5_session.specs.Own.{is_cmi5_defined}
use Rattle.cmi5_session.specs.Rules.{broken_by_phase, broken_by_verb, broken_defined, broken_rule, is_of_learner, names_session, verb_named}
use Rattle.cmi5_session.specs.Views.{SeenSession}
use Rattle.lrs_ids.specs.Choices.{first_some, when}
use Rattle.lrs_json.specs.Json.{Json}
use Rattle.lrs_laws.proofs.Again.{no_reason}
use Rattle.xapi_statement.specs.Statements.{is_that_id}
use Rattle.xapi_rules.specs.Rules.{is_voiding}
use Rattle.xapi_statement.specs.Statement.{activity_of, has_context_activity, registration_of, verb_of}

pub when_none : (b : Bool) (n : ℕ) → when b n ≡ None → b ≡ false
when_none true n none = cc none
when_none false n none = refl

pub unless_none : (b : Bool) (n : ℕ) → when (not b) n ≡ None → b ≡ true
unless_none true n none = refl
unless_none false n none = cc none

-- what is asked of each statement
pub record Permitted (v : SeenSession) (j : Json) : Type 0 where
  pub voids_none : is_voiding j ≡ false
  pub registered : is_that_id v.launch.registration (registration_of j) ≡ true
  pub in_phase : broken_by_phase v.phase j ≡ None
  pub as_defined : (if is_cmi5_defined j then broken_defined v (verb_named (verb_of j)) j else None) ≡ None

pub permitted : (v : SeenSession) (j : Json) → broken_rule v j ≡ None → Permitted v j
permitted v j free =
    let each = no_reason (when (is_voiding j) 2
    ∷ when (not (is_of_learner v.launch j)) 3
    ∷ when (not (is_that_id v.launch.registration (registration_of j))) 4
    ∷ broken_by_phase v.phase j
    ∷ (if is_cmi5_defined j then broken_defined v (verb_named (verb_of j)) j else None) ∷ []) free in
    record {
      voids_none = when_none (is_voiding j) 2 each.0;
      registered = unless_none (is_that_id v.launch.registration (registration_of j)) 4 each.1.1.0;
      in_phase = each.1.1.1.0;
      as_defined = each.1.1.1.1.0;
    }

-- what is asked of one that cmi5 defines, by the id of its verb, behind its object, its session and its publisher
abbrev pub broken_as : SeenSession → List ℕ → Json → Option ℕ
broken_as v verb j = option_map_or (broken_by_verb v) (verb_named verb) (λ x. None) j

-- Its object is the unit, and what is asked by its verb isn't broken.
pub spoken : (v : SeenSession) (j : Json) (as_verb : Option ℕ)
    → first_some (when (not (is_that_id v.launch.activity (activity_of j))) 9
    ∷ when (not (names_session v.launch.session j)) 10
    ∷ when (not (has_context_activity (codes "grouping") v.launch.publisher j)) 11
    ∷ as_verb ∷ []) ≡ None
    → (is_that_id v.launch.activity (activity_of j) ≡ true) × (as_verb ≡ None)
spoken v j as_verb free =
    let each = no_reason (when (not (is_that_id v.launch.activity (activity_of j))) 9
    ∷ when (not (names_session v.launch.session j)) 10
    ∷ when (not (has_context_activity (codes "grouping") v.launch.publisher j)) 11
    ∷ as_verb ∷ []) free in
    (unless_none (is_that_id v.launch.activity (activity_of j)) 9 each.0, each.1.1.1.0)
