-- What is seen of the tree of a value is the value.
use Rattle.std.proofs.Common.{◌≡◌, ℕ, List, map, refl, ap, ◌∙◌, rules}
use Rattle.lrs_json.specs.Json.{Json, null, boolean, number, string, array, object, Elements, no_elements, element, Members, no_members, member}
use Rattle.lrs_json.specs.Trees.{named_of, tree_of, trees_of}
use Rattle.lrs_json.specs.View.{elements_of, member_view, members_of, view}
use Rattle.lrs_json.specs.declared.tree.Tree.{Tree, the_lemmas}
use Rattle.lrs_json.specs.declared.tree.Tree.TheViews.{roll-Member}
use Rattle.lrs_json.proofs.Views.{view-Bool, view-List, view-Null, view-Number, view-Object, view-Words}

seen_member : (k : List ℕ) (t : Tree) → member_view (roll-Member (record { name = k; value = t })) ≡ (k, view t)
seen_member k t = search (rules, the_lemmas)

mutual
  pub seen_tree : (j : Json) → view (tree_of j) ≡ j
  seen_tree null = view-Null
  seen_tree (boolean b) = view-Bool b
  seen_tree (number s) = view-Number s
  seen_tree (string s) = view-Words s
  seen_tree (array js) = view-List (trees_of js) ∙ ap array (seen_elements js)
  seen_tree (object ms) = view-Object (named_of ms) ∙ ap object (seen_members ms)

  seen_elements : (js : Elements) → elements_of (map view (trees_of js)) ≡ js
  seen_elements no_elements = refl
  seen_elements (element j js) = ap (λ k. element k (elements_of (map view (trees_of js)))) (seen_tree j) ∙ ap (λ ks. element j ks) (seen_elements js)

  seen_members : (ms : Members) → members_of (map member_view (named_of ms)) ≡ ms
  seen_members no_members = refl
  seen_members (member k j ms) =
      ap (λ (m : List ℕ × Json). member m.0 m.1 (members_of (map member_view (named_of ms)))) (seen_member k (tree_of j))
      ∙ (ap (λ v. member k v (members_of (map member_view (named_of ms)))) (seen_tree j) ∙ ap (λ more. member k j more) (seen_members ms))
