-- What a value says that it is, by its `objectType` (xAPI 1.0.3, part two, section 2.4.4).
use Rattle.std.specs.Prelude.{Bool, true, false, Option, Some, None, codes, if◌then◌else◌}
use Rattle.lrs_json.specs.Json.{Json}
use Rattle.lrs_json.specs.Find.{find}
use Rattle.lrs_names.specs.Members.{is_word}
use Rattle.xapi_values.specs.declared.kinds.Kind.{Kind}
use Rattle.xapi_values.specs.declared.kinds.Kind.TheVariants.{Unstated, Activity, Agent, Group, StatementRef}
use Rattle.xapi_values.specs.declared.kinds.Kind.TheVariants.{SubStatement, Other}

abbrev pub kind_named : Json → Kind
kind_named j =
    if is_word (codes "Activity") j then Activity
    else (if is_word (codes "Agent") j then Agent else (if is_word (codes "Group") j then Group
    else (if is_word (codes "StatementRef") j then StatementRef
    else (if is_word (codes "SubStatement") j then SubStatement else Other))))

abbrev pub kind_stated : Option Json → Kind
kind_stated None = Unstated
kind_stated (Some j) = kind_named j

unfoldable pub kind_of : Json → Kind
kind_of j = kind_stated (find (codes "objectType") j)

-- An Activity: by its word, or without one where no Agent is asked for.
abbrev pub is_activity_kind : Kind → Bool
is_activity_kind Unstated = true
is_activity_kind Activity = true
is_activity_kind _ = false

-- an Agent or a Group, by its word
abbrev pub is_party_kind : Kind → Bool
is_party_kind Agent = true
is_party_kind Group = true
is_party_kind _ = false

abbrev pub same_kind : Kind → Kind → Bool
same_kind Unstated Unstated = true
same_kind Activity Activity = true
same_kind Agent Agent = true
same_kind Group Group = true
same_kind StatementRef StatementRef = true
same_kind SubStatement SubStatement = true
same_kind Other Other = true
same_kind _ _ = false
