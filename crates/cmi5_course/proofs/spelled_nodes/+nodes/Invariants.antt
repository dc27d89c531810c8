use Rattle.std.proofs.Common.{◌≡◌, ◌++◌, drop, map, length}
use Rattle.lrs_json.specs.View.{view, member_view, elements_of, members_of}
use Rattle.cmi5_course.specs.SpelledNodes.{seen, nodes_under, nodes_of_items}
use Rattle.cmi5_course.proofs.spelled_nodes.+nodes.Given as goal

abbrev pub invariant-add_items-loop-item : goal.invariant-add_items-loop-item
invariant-add_items-loop-item l =
    map seen l.fn.nodes.items ++ nodes_of_items (length l.fn.nodes.items) l.parent l.depth
    (elements_of (map view l.items))
    ≡ map seen l.nodes.items ++ nodes_of_items (length l.nodes.items) l.parent l.depth
    (elements_of (map view (drop l.item-index l.items)))

abbrev pub invariant-add_nodes_under-loop-member : goal.invariant-add_nodes_under-loop-member
invariant-add_nodes_under-loop-member l =
    (l.nodes.items ≡ l.fn.nodes.items)
    × (nodes_under (length l.fn.nodes.items) l.parent l.depth (members_of (map member_view l.members))
    ≡ nodes_under (length l.fn.nodes.items) l.parent l.depth (members_of (map member_view
    (drop l.member-index l.members))))
