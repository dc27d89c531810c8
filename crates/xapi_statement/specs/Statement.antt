-- What makes a value a statement of the store: its length, and the rules. What is asked of its members is passed on.
use Rattle.std.specs.Prelude.{nat_lt, length, Bool, Option, Some, is_none, option_map, if◌then◌else◌}
use Rattle.lrs_json.specs.Json.{Json}
use Rattle.lrs_json.specs.Written.{written}
use Rattle.xapi_properties.specs.XapiRulesRules.{broken_rule}
use Rattle.xapi_statement.specs.declared.refused.StatementRefused.{StatementRefused}
use Rattle.xapi_statement.specs.declared.refused.StatementRefused.TheVariants.{TooLong, Broken}
use Rattle.xapi_statement.specs.declared.length.TheConstants.{LONGEST_STATEMENT}
pub use Rattle.xapi_properties.specs.Members.{id_in, own_id, registration_in, reference_in, activity_in, boolean_in}
pub use Rattle.xapi_properties.specs.Members.{member_boolean}
pub use Rattle.xapi_properties.specs.Activities.{any_activity_of, holds_activity}
unfoldable pub use Rattle.xapi_properties.specs.Members.{verb_of, registration_of, target_of, activity_of, extension_of}
unfoldable pub use Rattle.xapi_properties.specs.Members.{result_boolean, scaled_of, has_duration}
unfoldable pub use Rattle.xapi_properties.specs.Activities.{is_activity_of, holds_at, context_holds, is_about}
unfoldable pub use Rattle.xapi_properties.specs.Activities.{has_context_activity, has_some_context_activity}
unfoldable pub use Rattle.xapi_properties.specs.Activities.{nested_has_activity, has_activity}

unfoldable pub is_too_long : Json → Bool
is_too_long j = nat_lt LONGEST_STATEMENT (length (written j))

-- why a value is no statement of the store, if it is none
unfoldable pub refusal : Json → Option StatementRefused
refusal j = if is_too_long j then Some TooLong else option_map Broken (broken_rule j)

-- a value that breaks none of the rules on statements, however long it is
unfoldable pub is_statement : Json → Bool
is_statement j = is_none (broken_rule j)
