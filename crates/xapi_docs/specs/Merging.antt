-- What becomes of a JSON object into which another one is merged (xAPI 1.0.3, part three, section 2.2): each member of
-- the new one replaces, whole and where it stands, the old one's of its name, or stands after all others.
use Rattle.std.specs.Prelude.{◌≡◌, ℕ, suc, List, Option, Some, None, option_and_then, option_map, if◌then◌else◌}
use Rattle.std.specs.BTreeMap.{BTreeMap, get}
use Rattle.std.specs.Cmp.Lexicographic.{slice_cmp}
use Rattle.std.specs.Ordering.{nat_cmp}
use Rattle.std.specs.Str.{bytes_eq}
use Rattle.lrs_json.specs.Json.{Json, object, Members, no_members, member}
use Rattle.lrs_json.specs.Parts.{members_in}
use Rattle.lrs_json.specs.Written.{written}
use Rattle.lrs_json.specs.declared.limits.TheConstants.{DEPTH}
use Rattle.lrs_json_spelled.specs.Spelled.{value_in}

-- a value in the place of the first member of that name, or after all
abbrev pub with_member : List ℕ → Json → Members → Members
with_member name value no_members = member name value no_members
with_member name value (member k j ms) = if bytes_eq k name then member k value ms
    else member k j (with_member name value ms)

-- the old members with each of the new ones, in its turn
abbrev pub with_members : Members → Members → Members
with_members old no_members = old
with_members old (member k j ms) = with_members (with_member k j old) ms

-- the index of the first member of a name
abbrev pub index_in : List ℕ → Members → Option ℕ
index_in name no_members = None
index_in name (member k j ms) = if bytes_eq k name then Some 0 else option_map suc (index_in name ms)

-- each name has the index of its member, and no other name has one
abbrev pub HasIndices : BTreeMap (List ℕ) ℕ → Members → Type 0
HasIndices indices ms = (name : List ℕ) → get (slice_cmp nat_cmp) indices name ≡ index_in name ms

-- the members of the object that the bytes spell, None where they spell none
abbrev pub object_in : List ℕ → Option Members
object_in bytes = option_and_then members_in (value_in DEPTH bytes)

abbrev pub merged_members : Option Members → Option Members → Option Members
merged_members old new = option_and_then (λ held. option_map (with_members held) new) old

-- The text of the object that the two make, in the written form of JSON; None where one of them is no object.
abbrev pub merge : List ℕ → List ℕ → Option (List ℕ)
merge old new = option_map (λ ms. written (object ms)) (merged_members (object_in old) (object_in new))
