-- What follows for the nodes of a course from the rules that it doesn't break.
use Rattle.std.proofs.Common.{◌≡◌, ℕ, List, [], ◌∷◌, ◌++◌, Bool, true, false, ◌&&◌, inl, inr, Option, Some}
use Rattle.std.proofs.Common.{None, is_some, codes, map, refl, sym, ap, ◌∙◌}
use Rattle.std.specs.Prelude.{is_none, flat_map, option_and_then, unwrap_or, slice_get}
use Rattle.std.specs.Prelude.{if◌then◌else◌}
use Rattle.std.specs.Option.{option_map_or}
use Rattle.std.specs.Ordering.{is_le}
use Rattle.std.specs.Cmp.{first_so, second_so}
use Rattle.std.proofs.lemmas.Bool.{false≢true, or_cases}
use Rattle.lrs_decimal.specs.Values.{order}
use Rattle.lrs_json.specs.Json.{Json, null, boolean, number, string, array, object}
use Rattle.lrs_json.specs.Find.{find}
use Rattle.lrs_json.specs.Parts.{text_in}
use Rattle.lrs_agents.proofs.AgentLemmas.{is_met, none_left, none_right}
use Rattle.lrs_names.specs.Iris.{is_iri}
use Rattle.lrs_names.specs.Members.{is_string_that, has_only, has_member, has_member_that, faults_of_member}
use Rattle.lrs_names.specs.Members.{text_under}
use Rattle.lrs_names.specs.Rules.{unless, least}
use Rattle.cmi5_course.specs.SpelledNodes.{SpelledNode, spelled_node, nodes_in, nodes_under}
use Rattle.cmi5_course.specs.Units.{is_at_most, is_score}
use Rattle.lrs_decimal.specs.Range.{is_decimal}
use Rattle.lrs_names.specs.Members.{spelling_of}
use Rattle.cmi5_course.specs.Rules.{is_course, is_block, is_unit, is_node, is_of_kind, has_title, unit_members}
use Rattle.cmi5_course.specs.Rules.{id_faults, move_on_faults, mastery_faults, method_faults, form_faults}
use Rattle.cmi5_course.specs.Rules.{shared_faults, title_faults, launch_faults, content_faults, node_faults}
use Rattle.cmi5_course.specs.Rules.{have_distinct_ids, is_within_limits, nodes_faults, course_faults, broken_rule}
use Rattle.cmi5_course.specs.Courses.{node_of, nodes_of, first_id}
use Rattle.cmi5_course.specs.declared.course.Node.{Node}

-- ---- ids

titled : (j : Json) → has_title j ≡ true → has_member (codes "id") j ≡ true
titled j e = first_so (has_member (codes "id") j) (has_member (codes "title") j) e

course_titled : (j : Json) → is_course j ≡ true → has_member (codes "id") j ≡ true
unfolding is_course
course_titled j e =
    titled j (second_so (has_only (codes "id" ∷ codes "title" ∷ codes "description" ∷ codes "children" ∷ []) j)
    (has_title j)
    (first_so _ (has_member (codes "children") j) e))

block_titled : (j : Json) → is_block j ≡ true → has_member (codes "id") j ≡ true
unfolding is_block
block_titled j e =
    titled j (second_so (is_of_kind (codes "block") j && has_only
    (codes "kind" ∷ codes "id" ∷ codes "title" ∷ codes "description" ∷ codes "children" ∷ []) j) (has_title j)
    (first_so _ (has_member (codes "children") j) e))

unit_titled : (j : Json) → is_unit j ≡ true → has_member (codes "id") j ≡ true
unfolding is_unit
unit_titled j e =
    titled j (second_so (is_of_kind (codes "unit") j && has_only unit_members j) (has_title j) (first_so _
    (has_member (codes "url") j) e))

node_titled : (j : Json) → is_node j ≡ true → has_member (codes "id") j ≡ true
node_titled j e =
    elim (or_cases (is_block j) (is_unit j) e) [ inl block ↦ block_titled j block | inr unit ↦ unit_titled j unit ]

form_titled : (j : Json) (parent : Option ℕ)
    → least (if is_none parent then unless (is_course j) 1 else unless (is_node j) 2) ≡ None
    → has_member (codes "id") j ≡ true
form_titled j None none = course_titled j (is_met (is_course j) 1 none)
form_titled j (Some p) none = node_titled j (is_met (is_node j) 2 none)

found_iri : (o : Option Json) → is_some o ≡ true → least (option_map_or id_faults o []) ≡ None
    → option_map_or (is_string_that is_iri) o false ≡ true
found_iri None stands none = stands
found_iri (Some j) stands none = is_met (is_string_that is_iri j) 3 none

id_unbroken : (j : Json) → least (shared_faults j) ≡ None → least (faults_of_member (codes "id") id_faults j) ≡ None
unfolding shared_faults
id_unbroken j none =
    let ids : List ℕ = faults_of_member (codes "id") id_faults j in
    let titles : List ℕ = faults_of_member (codes "title") title_faults j in
    let descriptions : List ℕ = faults_of_member (codes "description") title_faults j in
    none_left ids titles (none_left (ids ++ titles) descriptions (none_left (ids ++ titles ++ descriptions) _ none))

-- a node that breaks no rule has an IRI as its id, and what stands there for a launch breaks none
pub node_has_id : (node : SpelledNode) → least (node_faults node) ≡ None
    → has_member_that (codes "id") (is_string_that is_iri) node.value ≡ true
unfolding node_faults
node_has_id node none =
    let form : List ℕ = form_faults node in
    let shared : List ℕ = shared_faults node.value in
    let both : least (form ++ shared) ≡ None = none_left (form ++ shared) (launch_faults node.value)
    (none_left (form ++ shared ++ launch_faults node.value) _ none) in
    found_iri (find (codes "id") node.value) (form_titled node.value node.parent (none_left form shared both))
    (id_unbroken node.value (none_right form shared both))

pub form_unbroken : (node : SpelledNode) → least (node_faults node) ≡ None → least (form_faults node) ≡ None
unfolding node_faults
form_unbroken node none =
    let form : List ℕ = form_faults node in
    let shared : List ℕ = shared_faults node.value in
    none_left form shared (none_left (form ++ shared) (launch_faults node.value) (none_left
    (form ++ shared ++ launch_faults node.value) _ none))

pub launch_unbroken : (node : SpelledNode) → least (node_faults node) ≡ None → least (launch_faults node.value) ≡ None
unfolding node_faults
launch_unbroken node none =
    none_right (form_faults node ++ shared_faults node.value) (launch_faults node.value)
    (none_left (form_faults node ++ shared_faults node.value ++ launch_faults node.value)
    (content_faults node.value) none)

pub text_found : (test : List ℕ → Bool) (o : Option Json) → option_map_or (is_string_that test) o false ≡ true
    → (text : List ℕ) × (option_and_then text_in o ≡ Some text) × (test text ≡ true)
text_found test None e = absurd (false≢true e)
text_found test (Some null) e = absurd (false≢true e)
text_found test (Some (boolean b)) e = absurd (false≢true e)
text_found test (Some (number s)) e = absurd (false≢true e)
text_found test (Some (string s)) e = (s, refl, e)
text_found test (Some (array js)) e = absurd (false≢true e)
text_found test (Some (object ms)) e = absurd (false≢true e)

-- the text of an id that is an IRI
pub id_text : (j : Json) → has_member_that (codes "id") (is_string_that is_iri) j ≡ true
    → (text : List ℕ) × (text_under (codes "id") j ≡ Some text) × (is_iri text ≡ true)
id_text j e = text_found is_iri (find (codes "id") j) e

-- ---- mastery scores

score_in_range : (s : List ℕ) → is_score s ≡ true → is_decimal s ≡ true
unfolding is_score is_at_most
score_in_range s e =
    first_so (is_decimal s) (is_decimal (codes "1")) (first_so (is_decimal s && is_decimal (codes "1")) (is_le
    (order s (codes "1"))) (second_so (is_at_most (codes "0") s) (is_at_most s (codes "1")) e))

pub mastery_unbroken : (j : Json) → least (launch_faults j) ≡ None
    → least (faults_of_member (codes "masteryScore") mastery_faults j) ≡ None
unfolding launch_faults
mastery_unbroken j none =
    let moves : List ℕ = faults_of_member (codes "moveOn") move_on_faults j in
    let scores : List ℕ = faults_of_member (codes "masteryScore") mastery_faults j in
    let methods : List ℕ = faults_of_member (codes "launchMethod") method_faults j in
    none_right moves scores (none_left (moves ++ scores) methods (none_left (moves ++ scores ++ methods) _ none))

pub found_score : (o : Option Json) (s : List ℕ) → least (option_map_or mastery_faults o []) ≡ None
    → option_and_then spelling_of o ≡ Some s → is_decimal s ≡ true
found_score None s none e = cc e
found_score (Some null) s none e = cc e
found_score (Some (boolean b)) s none e = cc e
found_score (Some (number r)) s none e = let same : r ≡ s = cc e in rw (← same)
    (score_in_range r (is_met (is_score r) 8 none))
found_score (Some (string r)) s none e = cc e
found_score (Some (array js)) s none e = cc e
found_score (Some (object ms)) s none e = cc e

-- ---- all nodes

pub nodes_unbroken : (j : Json) (nodes : List SpelledNode) → nodes ≡ nodes_in j → broken_rule j ≡ None
    → least (flat_map node_faults nodes) ≡ None
unfolding broken_rule course_faults nodes_faults
nodes_unbroken j nodes e none =
    let all : List SpelledNode = nodes_in j in
    ap (λ ps. least (flat_map node_faults ps)) e
    ∙ none_left (flat_map node_faults all) (unless (have_distinct_ids all) 6)
    (none_left (flat_map node_faults all ++ unless (have_distinct_ids all) 6) (unless (is_within_limits all) 12) none)

pub more_unbroken : (first : SpelledNode) (rest : List SpelledNode) → least (flat_map node_faults (first ∷ rest)) ≡ None
    → (least (node_faults first) ≡ None) × (least (flat_map node_faults rest) ≡ None)
more_unbroken first rest none = (
  none_left (node_faults first) (flat_map node_faults rest) none,
  none_right
      (node_faults first) (flat_map node_faults rest) none,
)

-- the course itself is the first node
pub first_node : (j : Json) → (rest : List SpelledNode) × (nodes_in j ≡ spelled_node j None 0 ∷ rest)
unfolding nodes_in
first_node null = ([], refl)
first_node (boolean b) = ([], refl)
first_node (number s) = ([], refl)
first_node (string s) = ([], refl)
first_node (array js) = ([], refl)
first_node (object ms) = (nodes_under 1 0 1 ms, refl)

-- so a course has a node, the first one, with the id that the tree spells
pub nodes_stand : (j : Json) (nodes : List Node) → nodes ≡ nodes_of j → None ≡ slice_get nodes 0 → ⊥
unfolding nodes_of
nodes_stand j nodes e none =
    let first = first_node j in
    let known : slice_get nodes 0 ≡ Some (node_of (spelled_node j None 0)) = ap (λ (ns : List Node). slice_get ns 0) (e
    ∙ ap (map node_of) first.1) in
    let bad : None ≡ Some (node_of (spelled_node j None 0)) = none ∙ known in
    cc bad

pub first_id_is : (j : Json) (nodes : List Node) → nodes ≡ nodes_of j → broken_rule j ≡ None
    → text_under (codes "id") j ≡ Some (first_id nodes)
unfolding nodes_of node_of
first_id_is j nodes e none =
    let first = first_node j in
    let course : SpelledNode = spelled_node j None 0 in
    let unbroken : least (flat_map node_faults (nodes_in j)) ≡ None = nodes_unbroken j (nodes_in j) refl none in
    let own = more_unbroken course first.0 (ap (λ ps. least (flat_map node_faults ps)) (sym first.1) ∙ unbroken) in
    let text = id_text j (node_has_id course own.0) in
    let named : first_id nodes ≡ unwrap_or (text_under (codes "id") j) [] = ap first_id (e
    ∙ ap (map node_of) first.1) in
    text.1 ∙ ap Some (sym (named ∙ ap (λ o. unwrap_or o []) text.1))

pub first_id_of : (nodes : List Node) (node : Node) → Some node ≡ slice_get nodes 0 → first_id nodes ≡ node.id
first_id_of [] node e = cc e
first_id_of (n ∷ ns) node e = let same : n ≡ node = cc e in ap (λ (m : Node). m.id) same
