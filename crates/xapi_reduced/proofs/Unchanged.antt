-- Values of one kind, and of all others.
use Rattle.std.proofs.Common.{◌≡◌, ◌++◌, ℕ, List, [], ◌∷◌, None, refl, sym, subst}
use Rattle.lrs_json.specs.Json.{Json, null, boolean, number, string, array, object, Elements, Members}
use Rattle.lrs_json.specs.Parts.{items_in, members_in, text_in}
use Rattle.lrs_json.specs.Written.{written}
use Rattle.xapi_format.specs.Completed.{completed, in_array}
use Rattle.xapi_values.specs.Kinds.{kind_named}
use Rattle.xapi_values.specs.declared.kinds.Kind.{Kind}
use Rattle.xapi_values.specs.Memberwise.{with_each_member}
use Rattle.xapi_reduced.specs.Reduced.{reduced, reduced_activity, with_each_item, with_only}

some_members : (ms : Members) → members_in (object ms) ≡ None → ⊥
some_members ms e = cc e

some_items : (js : Elements) → items_in (array js) ≡ None → ⊥
some_items js e = cc e

some_text : (s : List ℕ) → text_in (string s) ≡ None → ⊥
some_text s e = cc e

-- ---- no object

pub not_changed : (change : List ℕ → Json → Json) (j : Json) → members_in j ≡ None → with_each_member change j ≡ j
not_changed change null e = refl
not_changed change (boolean b) e = refl
not_changed change (number s) e = refl
not_changed change (string s) e = refl
not_changed change (array js) e = refl
not_changed change (object ms) e = absurd (some_members ms e)

pub not_only : (change : List ℕ → Json → Json) (names : List (List ℕ)) (j : Json) → members_in j ≡ None → with_each_member change (with_only names j) ≡ j
not_only change names null e = refl
not_only change names (boolean b) e = refl
not_only change names (number s) e = refl
not_only change names (string s) e = refl
not_only change names (array js) e = refl
not_only change names (object ms) e = absurd (some_members ms e)

pub not_completed : (j : Json) (id stored : List ℕ) (authority : Json) → members_in j ≡ None → reduced (completed j id stored authority) ≡ j
unfolding reduced completed
not_completed null id stored authority e = refl
not_completed (boolean b) id stored authority e = refl
not_completed (number s) id stored authority e = refl
not_completed (string s) id stored authority e = refl
not_completed (array js) id stored authority e = refl
not_completed (object ms) id stored authority e = absurd (some_members ms e)

pub not_alone : (j : Json) → members_in j ≡ None → in_array j ≡ j
not_alone null e = refl
not_alone (boolean b) e = refl
not_alone (number s) e = refl
not_alone (string s) e = refl
not_alone (array js) e = refl
not_alone (object ms) e = absurd (some_members ms e)

-- one activity alone
pub alone : (j : Json) (ms : Members) → j ≡ object ms → written (with_each_item reduced_activity (in_array j)) ≡ 91 ∷ (written (reduced_activity j) ++ 93 ∷ [])
alone j ms e =
    let P : Json → Type 0 = λ i. written (with_each_item reduced_activity (in_array i)) ≡ 91 ∷ (written (reduced_activity i) ++ 93 ∷ []) in
    subst P (sym e) refl

-- ---- no array

pub not_itemwise : (change : Json → Json) (j : Json) → items_in j ≡ None → with_each_item change j ≡ j
not_itemwise change null e = refl
not_itemwise change (boolean b) e = refl
not_itemwise change (number s) e = refl
not_itemwise change (string s) e = refl
not_itemwise change (array js) e = absurd (some_items js e)
not_itemwise change (object ms) e = refl

-- ---- no string

pub not_named : (j : Json) → text_in j ≡ None → kind_named j ≡ Kind.Other
not_named null e = refl
not_named (boolean b) e = refl
not_named (number s) e = refl
not_named (string s) e = absurd (some_text s e)
not_named (array js) e = refl
not_named (object ms) e = refl
