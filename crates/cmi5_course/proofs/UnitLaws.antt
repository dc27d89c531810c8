-- What holds of the units of a course that breaks no rule.
use Rattle.std.proofs.Common.{◌≡◌, ℕ, zero, suc, ◌+◌, List, [], ◌∷◌, ◌++◌, Bool, true, false, ◌&&◌, cond, inl, inr}
use Rattle.std.proofs.Common.{Option, Some, None, is_some, option_map, codes, map, arith, refl, sym, ap, ◌∙◌, subst}
use Rattle.std.specs.Prelude.{IsSome, IfSome, Ok, Err, is_none, flat_map, option_and_then, unwrap_or, slice_get}
use Rattle.std.specs.Prelude.{position, if◌then◌else◌}
use Rattle.std.specs.List.{position_from}
use Rattle.std.specs.Option.{option_map_or}
use Rattle.std.specs.Str.{bytes_eq}
use Rattle.std.specs.Cmp.{first_so, second_so}
use Rattle.std.proofs.lemmas.Bool.{false≢true, or_cases}
use Rattle.std.proofs.lemmas.Iterator.Adapters.{position_from-zero}
use Rattle.std.proofs.lemmas.Slice.Eq.{bytes_eq-Decides}
use Rattle.url.specs.Parser.{parse_url, Parsed}
use Rattle.url.specs.Parts.{Parts}
use denote.Ref.{Bor}
use Rattle.lrs_json.specs.Json.{Json, null, boolean, number, string, array, object}
use Rattle.lrs_json.specs.Find.{find}
use Rattle.lrs_json.specs.View.{view}
use Rattle.lrs_json.specs.declared.tree.Tree.{Tree}
use Rattle.lrs_agents.proofs.AgentLemmas.{is_met, none_right}
use Rattle.lrs_names.specs.Members.{is_string_that, is_word, has_only, has_member, faults_of_member, text_under}
use Rattle.lrs_names.specs.Rules.{unless, least}
use Rattle.cmi5_course.specs.SpelledNodes.{SpelledNode, nodes_in}
use Rattle.cmi5_course.specs.Urls.{is_launchable_if_read, is_unit_url}
use Rattle.cmi5_course.specs.Units.{AssignableUnit, unit_of}
use Rattle.lrs_decimal.specs.Range.{is_decimal}
use Rattle.lrs_names.specs.Members.{spelling_under}
use Rattle.cmi5_course.specs.Rules.{is_course, is_block, is_unit, is_node, is_of_kind, is_unit_node, has_title}
use Rattle.cmi5_course.specs.Rules.{unit_members, move_on_faults, mastery_faults, method_faults, url_faults}
use Rattle.cmi5_course.specs.Rules.{launch_faults, node_faults, broken_rule}
use Rattle.cmi5_course.specs.Courses.{IsSoundUnit, kind_of, is_unit_kind, unit_if, node_of, nodes_of, course_of, is_unit_of}
use Rattle.cmi5_course.specs.Courses.{index_of_unit, unit_at}
use Rattle.cmi5_course.specs.declared.course.NodeKind.{NodeKind}
use Rattle.cmi5_course.specs.declared.course.NodeKind.TheVariants.{Course as CourseKind, Block, Unit as UnitKind}
use Rattle.cmi5_course.specs.declared.course.Node.{Node}
use Rattle.cmi5_course.proofs.Unbroken.{text_found, found_score}
use Rattle.cmi5_course.proofs.Unbroken.{mastery_unbroken, form_unbroken, launch_unbroken, nodes_unbroken, more_unbroken}

-- ---- kinds

one_word : (o : Option Json) → option_map_or (is_word (codes "block")) o false ≡ true
    → option_map_or (is_word (codes "unit")) o false ≡ true → ⊥
one_word None a b = false≢true a
one_word (Some null) a b = false≢true a
one_word (Some (boolean x)) a b = false≢true a
one_word (Some (number s)) a b = false≢true a
one_word (Some (string s)) a b =
    let block : s ≡ codes "block" = (bytes_eq-Decides s (codes "block")).0 a in
    let bad : false ≡ true = ap (λ (z : List ℕ). bytes_eq z (codes "unit")) (sym block) ∙ b in
    false≢true bad
one_word (Some (array js)) a b = false≢true a
one_word (Some (object ms)) a b = false≢true a

-- a node of that kind has the members of a unit
unit_form : (j : Json) → is_of_kind (codes "unit") j ≡ true → is_node j ≡ true → is_unit j ≡ true
unfolding is_block
unit_form j kind node =
    elim (or_cases (is_block j) (is_unit j) node) [
      | inl block ↦
          absurd (one_word (find (codes "kind") j)
          (first_so (is_of_kind (codes "block") j) (has_only
          (codes "kind" ∷ codes "id" ∷ codes "title" ∷ codes "description" ∷ codes "children" ∷ []) j)
          (first_so _ (has_title j) (first_so _ (has_member (codes "children") j) block))) kind)
      | inr unit ↦ unit
    ]

chosen : (a b : Bool) → is_unit_kind (if a then CourseKind else (if b then UnitKind else Block)) ≡ true
    → (a ≡ false) × (b ≡ true)
chosen true b e = absurd (false≢true e)
chosen false true e = (refl, refl)
chosen false false e = absurd (false≢true e)

node_form : (alone : Bool) (j : Json) → alone ≡ false
    → least (if alone then unless (is_course j) 1 else unless (is_node j) 2) ≡ None → is_node j ≡ true
node_form true j e none = absurd (false≢true (sym e))
node_form false j e none = is_met (is_node j) 2 none

unit_is : (kind : NodeKind) (j : Json) (unit : AssignableUnit) → unit_if kind j ≡ Some unit
    → (is_unit_kind kind ≡ true) × (unit ≡ unit_of j)
unit_is CourseKind j unit e = cc e
unit_is Block j unit e = cc e
unit_is UnitKind j unit e = let same : unit_of j ≡ unit = cc e in (refl, sym same)

has_unit : (kind : NodeKind) (j : Json) → is_unit_kind kind ≡ true → unit_if kind j ≡ Some (unit_of j)
has_unit CourseKind j e = absurd (false≢true e)
has_unit Block j e = absurd (false≢true e)
has_unit UnitKind j e = refl

-- ---- addresses and scores

has_url : (j : Json) → is_unit j ≡ true → has_member (codes "url") j ≡ true
unfolding is_unit
has_url j e = second_so (is_of_kind (codes "unit") j && has_only unit_members j && has_title j)
    (has_member (codes "url") j) e

url_unbroken : (j : Json) → least (launch_faults j) ≡ None → least (faults_of_member (codes "url") url_faults j) ≡ None
unfolding launch_faults
url_unbroken j none =
    none_right (faults_of_member (codes "moveOn") move_on_faults j ++ faults_of_member
    (codes "masteryScore") mastery_faults j ++ faults_of_member (codes "launchMethod") method_faults j)
    (faults_of_member (codes "url") url_faults j) none

found_url : (o : Option Json) → is_some o ≡ true → least (option_map_or url_faults o []) ≡ None
    → option_map_or (is_string_that is_unit_url) o false ≡ true
found_url None stands none = stands
found_url (Some j) stands none = is_met (is_string_that is_unit_url j) 10 none

read_url : (read : Parsed Parts) → is_launchable_if_read read ≡ true → (url : Parts) × (read ≡ Ok url)
read_url (Ok url) e = (url, refl)
read_url (Err x) e = absurd (false≢true e)

address_known : (j : Json) → has_member (codes "url") j ≡ true → least (launch_faults j) ≡ None
    → (url : Parts) × (parse_url None (unwrap_or (text_under (codes "url") j) []) ≡ Ok url)
unfolding is_unit_url
address_known j stands none =
    let text = text_found is_unit_url (find (codes "url") j) (found_url (find (codes "url") j) stands
    (url_unbroken j none)) in
    let read = read_url (parse_url None text.0) text.2 in
    (read.0, ap (λ (o : Option (List ℕ)). parse_url None (unwrap_or o [])) text.1 ∙ read.1)

score_known : (o : Option (List ℕ)) (j : Json) → o ≡ spelling_under (codes "masteryScore") j
    → least (launch_faults j) ≡ None → IfSome o (λ s. is_decimal s ≡ true)
score_known None j e none = tt
score_known (Some s) j e none = found_score (find (codes "masteryScore") j) s (mastery_unbroken j none) (sym e)

unit_sound : (j : Json) → is_unit j ≡ true → least (launch_faults j) ≡ None → IsSoundUnit (unit_of j)
unfolding unit_of
unit_sound j is none = record {
  address = address_known j (has_url j is) none;
  decimal = score_known (spelling_under (codes "masteryScore") j) j refl none;
}

-- ---- one node among all

node_unbroken : (nodes : List SpelledNode) (k : ℕ) (node : SpelledNode) → least (flat_map node_faults nodes) ≡ None
    → slice_get nodes k ≡ Some node → least (node_faults node) ≡ None
node_unbroken [] k node none e = cc e
node_unbroken (n ∷ ns) zero node none e = let same : n ≡ node = cc e in subst
    (λ (m : SpelledNode). least (node_faults m) ≡ None) same (more_unbroken n ns none).0
node_unbroken (n ∷ ns) (suc k) node none e = node_unbroken ns k node (more_unbroken n ns none).1 e

placed_at : (nodes : List SpelledNode) (k : ℕ) (made : Node) → slice_get (map node_of nodes) k ≡ Some made
    → (node : SpelledNode) × (slice_get nodes k ≡ Some node) × (made ≡ node_of node)
placed_at [] k made e = cc e
placed_at (n ∷ ns) zero made e = let same : node_of n ≡ made = cc e in (n, refl, sym same)
placed_at (n ∷ ns) (suc k) made e = placed_at ns k made e

unit_there : (o : Option Node) (unit : AssignableUnit) → option_and_then (λ node. node.unit) o ≡ Some unit
    → (node : Node) × (o ≡ Some node) × (node.unit ≡ Some unit)
unit_there None unit e = cc e
unit_there (Some node) unit e = (node, refl, e)

faultless_sound : (node : SpelledNode) (unit : AssignableUnit) → least (node_faults node) ≡ None
    → unit_if (kind_of node) node.value ≡ Some unit → IsSoundUnit unit
faultless_sound node unit none e =
    let is = unit_is (kind_of node) node.value unit e in
    let kind = chosen (is_none node.parent) (is_unit_node node) is.0 in
    let form = node_form (is_none node.parent) node.value kind.0 (form_unbroken node none) in
    subst IsSoundUnit (sym is.1) (unit_sound node.value (unit_form node.value kind.1 form) (launch_unbroken node none))

pub node_sound : (j : Json) (nodes : List Node) (index : ℕ) (unit : AssignableUnit) → nodes ≡ nodes_of j
    → broken_rule j ≡ None → option_and_then (λ node. node.unit) (slice_get nodes index) ≡ Some unit
    → IsSoundUnit unit
unfolding nodes_of node_of
node_sound j nodes index unit read unbroken e =
    let there = unit_there (slice_get nodes index) unit e in
    let at = placed_at (nodes_in j) index there.0 (ap (λ (ns : List Node). slice_get ns index) (sym read) ∙ there.1) in
    let none = node_unbroken (nodes_in j) index at.0 (nodes_unbroken j (nodes_in j) refl unbroken) at.1 in
    faultless_sound at.0 unit none (ap (λ (node : Node). node.unit) (sym at.2) ∙ there.2)

-- The URL Standard reads the address of each unit of a course that breaks no rule, and its mastery score is a number in
-- range.
pub units_sound : (t : Tree) (index : ℕ) (unit : AssignableUnit) → broken_rule (view t) ≡ None
    → unit_at index (course_of t) ≡ Some unit → IsSoundUnit unit
units_sound t index unit unbroken e = node_sound (view t) (nodes_of (view t)) index unit refl unbroken e

pub all_sound : (o : Option (Bor AssignableUnit)) → ((unit : AssignableUnit) → option_map (λ u. u.now) o ≡ Some unit
    → IsSoundUnit unit) → IfSome o (λ u. IsSoundUnit u.now)
all_sound None sound = tt
all_sound (Some u) sound = sound u.now refl

-- ---- the index of a unit

-- what `position_from` finds
record IsFound {X : Type 0} (test : X → Bool) (i : ℕ) (xs : List X) (k : ℕ) : Type 0 where
  pub steps : ℕ
  pub item : X
  pub index : k ≡ i + steps
  pub at : slice_get xs steps ≡ Some item
  pub passes : test item ≡ true

by_test : {X : Type 0} (test : X → Bool) (i : ℕ) (x : X) (xs : List X) (k : ℕ) (b : Bool) → test x ≡ b
    → cond b (Some i) (position_from test (i + 1) xs) ≡ Some k
    → (position_from test (i + 1) xs ≡ Some k → IsFound test (i + 1) xs k) → IsFound test i (x ∷ xs) k
by_test test i x xs k true is e more = let same : i ≡ k = cc e in record {
  steps = 0;
  item = x;
  index = omega
      (arith, same);
  at = refl;
  passes = is;
}
by_test test i x xs k false is e more =
    let rest = more e in
    let far : k ≡ i + suc rest.steps = omega (arith, rest.index) in
    record { steps = suc rest.steps; item = rest.item; index = far; at = rest.at; passes = rest.passes }

found_at : {X : Type 0} (test : X → Bool) (i : ℕ) (xs : List X) (k : ℕ) → position_from test i xs ≡ Some k
    → IsFound test i xs k
found_at test i [] k e = cc e
found_at test i (x ∷ xs) k e = by_test test i x xs k (test x) refl e (found_at test (i + 1) xs k)

pub unit_stands : (j : Json) (nodes : List Node) (id : List ℕ) (index : ℕ) → nodes ≡ nodes_of j
    → position (is_unit_of id) nodes ≡ Some index
    → IsSome (option_and_then (λ node. node.unit) (slice_get nodes index))
unfolding nodes_of node_of
unit_stands j nodes id index read e =
    let found = found_at (is_unit_of id) 0 nodes index (sym (position_from-zero (is_unit_of id) nodes) ∙ e) in
    let same : index ≡ found.steps = omega (arith, found.index) in
    let at = placed_at (nodes_in j) found.steps found.item (ap (λ (ns : List Node). slice_get ns found.steps) (sym read)
    ∙ found.at) in
    let kind : is_unit_kind found.item.kind ≡ true = first_so (is_unit_kind found.item.kind)
    (bytes_eq found.item.id id) found.passes in
    let placed_kind : is_unit_kind (kind_of at.0) ≡ true = ap (λ (node : Node). is_unit_kind node.kind) (sym at.2)
    ∙ kind in
    let unit : found.item.unit ≡ Some (unit_of at.0.value) = ap (λ (node : Node). node.unit) at.2
    ∙ has_unit (kind_of at.0) at.0.value placed_kind in
    ap (λ (k : ℕ). is_some (option_and_then (λ (node : Node). node.unit) (slice_get nodes k))) same
    ∙ ap (λ (o : Option Node). is_some (option_and_then (λ (node : Node). node.unit) o)) found.at ∙ ap is_some unit

-- the unit that is found by its id stands at its index
pub unit_found : (t : Tree) (id : List ℕ) (index : ℕ) → index_of_unit id (course_of t) ≡ Some index
    → IsSome (unit_at index (course_of t))
unit_found t id index e = unit_stands (view t) (nodes_of (view t)) id index refl e
