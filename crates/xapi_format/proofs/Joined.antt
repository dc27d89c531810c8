-- The members of a statement that is completed as a tree.
use Rattle.std.proofs.Common.{◌≡◌, List, [], ◌∷◌, ◌++◌, map, refl, ap, rules}
use Rattle.lrs_json.specs.Json.{member}
use Rattle.lrs_json.specs.View.{member_view, members_of}
use Rattle.lrs_json.specs.declared.tree.Member.{Member}
use Rattle.lrs_json.specs.declared.tree.Tree.{the_lemmas}
use Rattle.xapi_values.specs.Following.{followed_by}

-- the name of a member, as it is seen
pub seen_name : (m : Member) → (member_view m).0 ≡ m.name
seen_name m = search (rules, the_lemmas)

-- members behind members
pub members_both : (xs ys : List Member) → members_of (map member_view (xs ++ ys)) ≡ followed_by (members_of (map member_view xs)) (members_of (map member_view ys))
members_both [] ys = refl
members_both (x ∷ xs) ys = ap (member (member_view x).0 (member_view x).1) (members_both xs ys)
