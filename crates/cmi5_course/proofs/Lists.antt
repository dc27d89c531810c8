-- Lists as the loops go over them.
use Rattle.std.proofs.Common.{◌≡◌, ◌+◌, List, [], ◌∷◌, ◌++◌, Bool, true}
use Rattle.std.proofs.Common.{false, not, map, append_assoc, refl, sym, ap, ◌∙◌}
use Rattle.std.specs.Prelude.{IsTrue, ◌↔◌}
use Rattle.std.proofs.lemmas.Bool.{false≢true}
use Rattle.lrs_json.specs.Json.{array, object}
use Rattle.lrs_json.specs.View.{view, member_view, elements_of, members_of}
use Rattle.lrs_json.specs.declared.tree.Tree.{Tree}
use Rattle.lrs_json.specs.declared.tree.Member.{Member}
use Rattle.cmi5_course.specs.SpelledNodes.{SpelledNode}
use Rattle.cmi5_course.specs.Rules.{has_some_item, has_some_member}
use Rattle.cmi5_course.specs.Courses.{node_of}
use Rattle.cmi5_course.specs.declared.course.Node.{Node}

-- one more node is made
pub one_more_node : (whole before new : List Node) (node : SpelledNode) (rest : List SpelledNode) (made : Node)
    → whole ≡ before ++ map node_of (node ∷ rest) → made ≡ node_of node → new ≡ before ++ made ∷ []
    → whole ≡ new ++ map node_of rest
one_more_node whole before new node rest made so is n =
    so ∙ ap (λ z. before ++ z ∷ map node_of rest) (sym is) ∙ sym (append_assoc before (made ∷ []) (map node_of rest))
    ∙ ap (λ ns. ns ++ map node_of rest) (sym n)

-- ---- what holds something

pub items_stand : (ts : List Tree) (empty : Bool) → IsTrue empty ↔ (ts ≡ [])
    → not empty ≡ has_some_item (array (elements_of (map view ts)))
items_stand [] true e = refl
items_stand [] false e = absurd (false≢true (e.1 refl))
items_stand (t ∷ ts) true e = absurd (let bad : t ∷ ts ≡ [] = e.0 refl in cc)
items_stand (t ∷ ts) false e = refl

pub members_stand : (ms : List Member) (empty : Bool) → IsTrue empty ↔ (ms ≡ [])
    → not empty ≡ has_some_member (object (members_of (map member_view ms)))
members_stand [] true e = refl
members_stand [] false e = absurd (false≢true (e.1 refl))
members_stand (m ∷ ms) true e = absurd (let bad : m ∷ ms ≡ [] = e.0 refl in cc)
members_stand (m ∷ ms) false e = refl
