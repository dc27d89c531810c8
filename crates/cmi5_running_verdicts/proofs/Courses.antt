-- Each node of a course stands behind the one that holds it.
use Rattle.std.proofs.Common.{◌≡◌, ◌∙◌, ◌+◌, ◌<◌, ℕ, zero, suc, Bool, true, false, List, [], ◌∷◌, ◌++◌, length, map, codes, Option, Some, None, refl, sym, ap, subst, arith}
use Rattle.std.specs.Prelude.{if◌then◌else◌, option_and_then, option_map, slice_get}
use Rattle.std.specs.Str.{bytes_eq}
use Rattle.std.proofs.lemmas.Option.{none-some, same_Some, slice_get-map}
use Rattle.cmi5_course.specs.Courses.{node_of, nodes_of}
use Rattle.cmi5_course.specs.SpelledNodes.{SpelledNode, nodes_from, nodes_in, nodes_of_children, nodes_of_items, nodes_under, spelled_node}
use Rattle.cmi5_course.specs.declared.course.Node.{Node}
use Rattle.cmi5_running_verdicts.specs.Holding.{StandBehindHolders}
use Rattle.cmi5_verdict.specs.Nodes.{parent_of}
use Rattle.lrs_json.specs.Json.{Json, null, boolean, number, string, array, object, Elements, no_elements, element, Members, no_members, member}

-- ---- nodes from a number on

abbrev parent_at : List SpelledNode → ℕ → Option ℕ
parent_at nodes index = option_and_then (λ (node : SpelledNode). node.parent) (slice_get nodes index)

-- each is held by one before it, where the first has that number
abbrev AreBehind : ℕ → List SpelledNode → Type 0
AreBehind first nodes = (index parent : ℕ) → parent_at nodes index ≡ Some parent → parent < first + index

-- that one, if there is one, stands before it
abbrev IsBefore : Option ℕ → ℕ → Type 0
IsBefore parent index = (holder : ℕ) → parent ≡ Some holder → holder < index

none_before : (index : ℕ) → IsBefore None index
none_before index = λ holder is. absurd (none-some holder is)

one_before : (parent index : ℕ) → parent < index → IsBefore (Some parent) index
one_before parent index lt = λ holder is. subst (λ k. k < index) (same_Some parent holder is) lt

none_behind : (first : ℕ) → AreBehind first []
none_behind first = λ index parent is. absurd (none-some parent is)

at_first : (parent first : ℕ) → parent < first → parent < first + zero
at_first parent first lt = omega arith

at_next : (parent first index : ℕ) → parent < first + 1 + index → parent < first + suc index
at_next parent first index lt = omega arith

first_behind : (first : ℕ) (node : SpelledNode) (nodes : List SpelledNode) → IsBefore node.parent first → AreBehind (first + 1) nodes → (index parent : ℕ) → parent_at (node ∷ nodes) index ≡ Some parent → parent < first + index
first_behind first node nodes before behind zero parent is = at_first parent first (before parent is)
first_behind first node nodes before behind (suc index) parent is = at_next parent first index (behind index parent is)

at_rest : (parent first index : ℕ) → parent < first + suc index → parent < first + 1 + index
at_rest parent first index lt = omega arith

past_none : (parent first index : ℕ) → parent < first + 0 + index → parent < first + index
past_none parent first index lt = omega arith

past_one : (parent first long index : ℕ) → parent < first + suc long + index → parent < first + 1 + long + index
past_one parent first long index lt = omega arith

both_behind : (first : ℕ) (xs ys : List SpelledNode) → AreBehind first xs → AreBehind (first + length xs) ys → (index parent : ℕ) → parent_at (xs ++ ys) index ≡ Some parent → parent < first + index
both_behind first [] ys here rest index parent is = past_none parent first index (rest index parent is)
both_behind first (x ∷ xs) ys here rest zero parent is = here zero parent is
both_behind first (x ∷ xs) ys here rest (suc index) parent is =
    at_next parent first index
    (both_behind (first + 1) xs ys (λ q p e. at_rest p first q (here (suc q) p e)) (λ q p e. past_one p first (length xs) q (rest q p e)) index parent is)

one_of_both : (first : ℕ) (b : Bool) (here other : List SpelledNode) → AreBehind first here → AreBehind first other → AreBehind first (if b then here else other)
one_of_both first true here other is at = is
one_of_both first false here other is at = at

grown : (parent next more : ℕ) → parent < next → parent < next + more
grown parent next more lt = omega arith

next_one : (index : ℕ) → index < index + 1
next_one index = omega arith

-- ---- the nodes that a value spells

mutual
  from_behind : (index : ℕ) (parent : Option ℕ) (depth : ℕ) (j : Json) → IsBefore parent index → AreBehind index (nodes_from index parent depth j)
  from_behind index parent depth null before = first_behind index (spelled_node null parent depth) [] before (none_behind (index + 1))
  from_behind index parent depth (boolean b) before = first_behind index (spelled_node (boolean b) parent depth) [] before (none_behind (index + 1))
  from_behind index parent depth (number s) before = first_behind index (spelled_node (number s) parent depth) [] before (none_behind (index + 1))
  from_behind index parent depth (string s) before = first_behind index (spelled_node (string s) parent depth) [] before (none_behind (index + 1))
  from_behind index parent depth (array js) before = first_behind index (spelled_node (array js) parent depth) [] before (none_behind (index + 1))
  from_behind index parent depth (object ms) before =
      first_behind index (spelled_node (object ms) parent depth) (nodes_under (index + 1) index (depth + 1) ms) before (under_behind (index + 1) index (depth + 1) ms (next_one index))

  under_behind : (next parent depth : ℕ) (ms : Members) → parent < next → AreBehind next (nodes_under next parent depth ms)
  under_behind next parent depth no_members lt = none_behind next
  under_behind next parent depth (member name j ms) lt =
      one_of_both next (bytes_eq name (codes "children")) (nodes_of_children next parent depth j) (nodes_under next parent depth ms) (children_behind next parent depth j lt)
      (under_behind next parent depth ms lt)

  children_behind : (next parent depth : ℕ) (j : Json) → parent < next → AreBehind next (nodes_of_children next parent depth j)
  children_behind next parent depth null lt = none_behind next
  children_behind next parent depth (boolean b) lt = none_behind next
  children_behind next parent depth (number s) lt = none_behind next
  children_behind next parent depth (string s) lt = none_behind next
  children_behind next parent depth (array js) lt = items_behind next parent depth js lt
  children_behind next parent depth (object ms) lt = none_behind next

  items_behind : (next parent depth : ℕ) (js : Elements) → parent < next → AreBehind next (nodes_of_items next parent depth js)
  items_behind next parent depth no_elements lt = none_behind next
  items_behind next parent depth (element j js) lt =
      let here : List SpelledNode = nodes_from next (Some parent) depth j in
      both_behind next here (nodes_of_items (next + length here) parent depth js) (from_behind next (Some parent) depth j (one_before parent next lt))
      (items_behind (next + length here) parent depth js (grown parent next (length here) lt))

-- ---- the nodes of a course

same_parent : (o : Option SpelledNode) → option_and_then (λ (node : Node). node.parent) (option_map node_of o) ≡ option_and_then (λ (node : SpelledNode). node.parent) o
unfolding node_of
same_parent None = refl
same_parent (Some node) = refl

pub behind_holders : (j : Json) → StandBehindHolders (nodes_of j)
unfolding nodes_of nodes_in
behind_holders j = λ index parent is.
    let same : parent_of (map node_of (nodes_in j)) index ≡ parent_at (nodes_in j) index =
    ap (λ (o : Option Node). option_and_then (λ (node : Node). node.parent) o) (slice_get-map node_of (nodes_in j) index) ∙ same_parent (slice_get (nodes_in j) index) in
    let behind : parent < 0 + index = from_behind 0 None 0 j (none_before 0) index parent (sym same ∙ is) in
    omega (arith, behind)
