-- The loops that write an array and an object: one item or member more of those that are left, and the end.
use Rattle.std.proofs.Common.{◌≡◌, ℕ, ◌+◌, ◌<◌, ◌≤◌, get_or, length, List, [], ◌∷◌, ◌++◌, map, drop, Bool, true, nat_lt, append_assoc, sym, ap, ◌∙◌, subst}
use Rattle.std.specs.List.{AllByRecursion}
use Rattle.std.proofs.lemmas.List.{drop_all}
use Rattle.lrs_json.specs.Json.{Json, Elements, element, member}
use Rattle.lrs_json.specs.Texts.{member_text}
use Rattle.lrs_json.specs.View.{elements_of, members_of, view}
use Rattle.lrs_json.specs.Written.{comma_if, elements_text, members_text, written}
use Rattle.lrs_json.specs.declared.tree.Tree.{Tree}
use Rattle.lrs_json.proofs.Lists.{drop_item}
use Rattle.lrs_json.proofs.Steps.{later_on}
use Rattle.lrs_fields.specs.Values.{Value, members_for, value_json}
use Rattle.xapi_received.specs.XapiFormatAppendingProofs.{member_more}

-- ---- the items of an array

first_element : (later : Bool) (j : Json) (js : Elements) → elements_text later (element j js) ≡ (comma_if later ++ written j) ++ elements_text true js
first_element later j js = simp append_assoc

element_more : (j : Json) (js : Elements) (later : Bool) (before after whole : List ℕ) → after ≡ before ++ (comma_if later ++ written j) → before ++ elements_text later (element j js) ≡ whole
    → after ++ elements_text true js ≡ whole
element_more j js later before after whole more all =
    ap (λ t. t ++ elements_text true js) more
    ∙ (append_assoc before (comma_if later ++ written j) (elements_text true js)
    ∙ (ap (λ t. before ++ t) (sym (first_element later j js)) ∙ all))

pub item_more : (ts : List Tree) (i : ℕ) (t : Tree) (before after whole : List ℕ) → i < length ts → t ≡ get_or ts i t → after ≡ before ++ (comma_if (nat_lt 0 i) ++ written (view t))
    → before ++ elements_text (nat_lt 0 i) (elements_of (map view (drop i ts))) ≡ whole → after ++ elements_text (nat_lt 0 (i + 1)) (elements_of (map view (drop (i + 1) ts))) ≡ whole
item_more ts i t before after whole within at more all =
    ap (λ (b : Bool). after ++ elements_text b (elements_of (map view (drop (i + 1) ts)))) (later_on i)
    ∙ element_more (view t) (elements_of (map view (drop (i + 1) ts))) (nat_lt 0 i) before after whole more
    (ap (λ (us : List Tree). before ++ elements_text (nat_lt 0 i) (elements_of (map view us))) (sym (drop_item ts i t within at)) ∙ all)

pub items_end : (ts : List Tree) (i : ℕ) (before after whole : List ℕ) → length ts ≤ i → after ≡ before ++ 93 ∷ [] → before ++ elements_text (nat_lt 0 i) (elements_of (map view (drop i ts))) ≡ whole
    → after ≡ whole
items_end ts i before after whole end closed all =
    closed ∙ ap (λ (us : List Tree). before ++ elements_text (nat_lt 0 i) (elements_of (map view us))) (sym (drop_all i ts end)) ∙ all

-- ---- the fields of an object, each of which is seen as its name and its value

pub field_more : {A : Type 0} (fs : List A) (seen : A → List ℕ × Value) (i : ℕ) (f : A) (before after whole : List ℕ) → i < length fs → f ≡ get_or fs i f
    → after ≡ before ++ member_text (nat_lt 0 i) (seen f).0 (value_json (seen f).1)
    → before ++ members_text (nat_lt 0 i) (members_of (members_for (map seen (drop i fs)))) ≡ whole → after ++ members_text (nat_lt 0 (i + 1)) (members_of (members_for (map seen (drop (i + 1) fs)))) ≡ whole
field_more {A} fs seen i f before after whole within at more all =
    ap (λ (b : Bool). after ++ members_text b (members_of (members_for (map seen (drop (i + 1) fs))))) (later_on i)
    ∙ member_more (seen f).0 (value_json (seen f).1) (members_of (members_for (map seen (drop (i + 1) fs)))) (nat_lt 0 i) before after whole more
    (ap (λ (us : List A). before ++ members_text (nat_lt 0 i) (members_of (members_for (map seen us)))) (sym (drop_item fs i f within at)) ∙ all)

pub fields_end : {A : Type 0} (fs : List A) (seen : A → List ℕ × Value) (i : ℕ) (before after whole : List ℕ) → length fs ≤ i → after ≡ before ++ 125 ∷ []
    → before ++ members_text (nat_lt 0 i) (members_of (members_for (map seen (drop i fs)))) ≡ whole → after ≡ whole
fields_end {A} fs seen i before after whole end closed all =
    closed ∙ ap (λ (us : List A). before ++ members_text (nat_lt 0 i) (members_of (members_for (map seen us)))) (sym (drop_all i fs end)) ∙ all

-- what holds of each that is left

pub all_from : {A : Type 0} (fs : List A) (P : A → Type 0) (i : ℕ) (f : A) → i < length fs → f ≡ get_or fs i f → P f → AllByRecursion P (drop (i + 1) fs) → AllByRecursion P (drop i fs)
all_from {A} fs P i f within at here rest = subst (λ (us : List A). AllByRecursion P us) (sym (drop_item fs i f within at)) (here, rest)

pub all_end : {A : Type 0} (fs : List A) (P : A → Type 0) (i : ℕ) → length fs ≤ i → AllByRecursion P (drop i fs)
all_end {A} fs P i end = subst (λ (us : List A). AllByRecursion P us) (sym (drop_all i fs end)) tt
