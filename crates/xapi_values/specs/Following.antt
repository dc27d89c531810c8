-- Members after members.
use Rattle.std.specs.Prelude.{◌≡◌, ℕ, List, map}
use Rattle.lrs_json.specs.Json.{Json, Members, no_members, member}
use Rattle.lrs_json.specs.View.{member_view, members_of}
use Rattle.lrs_json.specs.declared.tree.Member.{Member}

-- these, and after them those
abbrev pub followed_by : Members → Members → Members
followed_by no_members behind = behind
followed_by (member name j ms) behind = member name j (followed_by ms behind)

-- one member more, after those that stood there
abbrev pub HasOneMore : List Member → List ℕ → Json → List Member → Type 0
HasOneMore old name j new =
    (behind : Members) → followed_by (members_of (map member_view new)) behind
    ≡ followed_by (members_of (map member_view old)) (member name j behind)
