-- Who takes part in a statement, by their identifiers (xAPI 1.0.3, part two, section 2.4.2.3; part three, section
-- 2.1.3).
use Rattle.std.specs.Prelude.{Bool, ◌&&◌, ◌||◌, Option, None, option_and_then, codes, if◌then◌else◌}
use Rattle.lrs_json.specs.Json.{Json}
use Rattle.lrs_json.specs.Find.{find}
use Rattle.lrs_names.specs.Members.{has_member_that}
use Rattle.xapi_rules.specs.LrsAgentsIdentifiers.{identifier_of}
use Rattle.xapi_rules.specs.LrsAgentsIdentifiersIfi.{Ifi}
use Rattle.xapi_rules.specs.XapiValuesKinds.{kind_of, is_party_kind, same_kind}
use Rattle.xapi_rules.specs.XapiValuesKindsKind.{Kind}
use Rattle.xapi_rules.specs.XapiValuesNested.{is_nested}
use Rattle.xapi_format.specs.Party.{is_party}

-- an object that is an Agent or a Group
unfoldable pub is_party_object : Ifi → Json → Bool
is_party_object ifi j = is_party_kind (kind_of j) && is_party ifi j

unfoldable pub has_direct_agent : Ifi → Json → Bool
has_direct_agent ifi j = has_member_that (codes "actor") (is_party ifi) j
    || has_member_that (codes "object") (is_party_object ifi) j

unfoldable pub is_party_of_context : Ifi → Json → Bool
is_party_of_context ifi j = has_member_that (codes "instructor") (is_party ifi) j
    || has_member_that (codes "team") (is_party ifi) j

unfoldable pub has_context_agent : Ifi → Json → Bool
has_context_agent ifi j = has_member_that (codes "context") (is_party_of_context ifi) j

-- a SubStatement in which they take part
unfoldable pub nested_has_agent : Ifi → Json → Bool
nested_has_agent ifi j = is_nested j && (has_direct_agent ifi j || has_context_agent ifi j)

unfoldable pub has_related_agent : Ifi → Json → Bool
has_related_agent ifi j =
    has_member_that (codes "authority") (is_party ifi) j || has_context_agent ifi j
    || has_member_that (codes "object") (nested_has_agent ifi) j

-- That identifier is the actor's, or that of the object if it is an Agent or a Group, or of a member of such a Group.
-- In the related roles: also that of the authority, the instructor, the team, their members, and the same of a
-- SubStatement.
unfoldable pub has_agent : Ifi → Bool → Json → Bool
has_agent ifi related j = has_direct_agent ifi j || (related && has_related_agent ifi j)

abbrev pub agent_in : Json → Option Ifi
agent_in j = if same_kind (kind_of j) Kind.Group then None else identifier_of j

-- the identifier of the actor, if it is an Agent
unfoldable pub actor_of : Json → Option Ifi
actor_of j = option_and_then agent_in (find (codes "actor") j)
