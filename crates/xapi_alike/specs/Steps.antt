-- What the walk of two statements says of one member.
use Rattle.std.specs.Prelude.{ℕ, List, Bool, true, false, ◌&&◌, ◌||◌, if◌then◌else◌}
use Rattle.std.specs.Str.{bytes_eq}
use Rattle.lrs_json.specs.Json.{Json, Members, no_members, member}
use Rattle.xapi_alike.specs.Roles.{is_passed_over, role_of_member}
use Rattle.xapi_alike.specs.Normal.{Named, normal}
use Rattle.xapi_alike.specs.Alike.{alike, has_name, any_named}
use Rattle.xapi_alike.specs.declared.role.Role.{Role}

-- the member is passed over, or there is one of its name that is alike
abbrev pub is_alike_within : Role → List ℕ → Json → Named → Bool
is_alike_within role name j ns =
    if is_passed_over role name then true else any_named name (alike (normal (role_of_member role name) j)) ns

-- the member is passed over, or its name stands
abbrev pub is_named_within : Role → List ℕ → Named → Bool
is_named_within role name ns = if is_passed_over role name then true else has_name name ns

-- of members that aren't normal yet: one of that name is alike in the role
abbrev pub any_alike : Role → List ℕ → Json → Members → Bool
any_alike role name j no_members = false
any_alike role name j (member k i ms) = (bytes_eq k name && alike (normal role j) (normal role i))
    || any_alike role name j ms

-- one has that name
abbrev pub has_member_named : List ℕ → Members → Bool
has_member_named name no_members = false
has_member_named name (member k i ms) = bytes_eq k name || has_member_named name ms
