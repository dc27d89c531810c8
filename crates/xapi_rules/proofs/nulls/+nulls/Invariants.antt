use Rattle.std.proofs.Common.{◌≡◌, drop, map}
use Rattle.lrs_json.specs.View.{view, member_view, elements_of, members_of}
use Rattle.xapi_rules.specs.Nulls.{items_have_null, members_have_null}
use Rattle.xapi_rules.proofs.nulls.+nulls.Given as goal

abbrev pub invariant-items_have_null-loop-item : goal.invariant-items_have_null-loop-item
invariant-items_have_null-loop-item l = items_have_null l.role (elements_of (map view l.items)) ≡ items_have_null l.role (elements_of (map view (drop l.item-index l.items)))

abbrev pub invariant-members_have_null-loop-member : goal.invariant-members_have_null-loop-member
invariant-members_have_null-loop-member l = members_have_null l.role (members_of (map member_view l.members)) ≡ members_have_null l.role (members_of (map member_view (drop l.member-index l.members)))
