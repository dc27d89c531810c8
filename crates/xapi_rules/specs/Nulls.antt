-- Rule 3: no null stands outside extensions (xAPI 1.0.3, part two, section 2.2). Extensions are the objects at the
-- member `extensions` of a result, of a context and of an Activity's definition. A null in place of them stands in
-- their holder, an array in place of them is none, and a definition beside anything but an Activity frees nothing.
use Rattle.std.specs.Prelude.{ℕ, List, Bool, true, false, ◌||◌, codes, if◌then◌else◌}
use Rattle.std.specs.Str.{bytes_eq}
use Rattle.lrs_json.specs.Json.{Json, null, boolean, number, string, array, object, Elements, no_elements, element}
use Rattle.lrs_json.specs.Json.{Members, no_members, member}
use Rattle.xapi_values.specs.Kinds.{kind_of, is_activity_kind, same_kind}
use Rattle.xapi_values.specs.declared.kinds.Kind.{Kind}
use Rattle.xapi_values.specs.declared.kinds.Kind.TheVariants.{SubStatement}
use Rattle.xapi_rules.specs.declared.nulls.NullRole.{NullRole}
use Rattle.xapi_rules.specs.declared.nulls.NullRole.TheVariants.{Plain, Statement, Object, Described, Holder, Context}
use Rattle.xapi_rules.specs.declared.nulls.NullRole.TheVariants.{ContextActivities, Activities, Extensions}

-- What a member's name makes of it. The `extensions` of a definition, of a result and of a context are free.
unfoldable pub role_of_member : NullRole → List ℕ → NullRole
role_of_member Plain name = Plain
role_of_member Statement name =
    if bytes_eq name (codes "object") then Object
    else (if bytes_eq name (codes "result") then Holder
    else (if bytes_eq name (codes "context") then Context else Plain))
role_of_member Object name = Plain
role_of_member Described name = if bytes_eq name (codes "definition") then Holder else Plain
role_of_member Holder name = if bytes_eq name (codes "extensions") then Extensions else Plain
role_of_member Context name =
    if bytes_eq name (codes "extensions") then Extensions
    else (if bytes_eq name (codes "contextActivities") then ContextActivities else Plain)
role_of_member ContextActivities name =
    if bytes_eq name (codes "parent") || bytes_eq name (codes "grouping") || bytes_eq name (codes "category")
    || bytes_eq name (codes "other") then Activities else Plain
role_of_member Activities name = Plain
role_of_member Extensions name = Plain

-- What a role makes of an item of an array that has it: context activities may stand in one.
abbrev pub role_of_item : NullRole → NullRole
role_of_item Activities = Described
role_of_item _ = Plain

-- an object where an Activity may stand: an Activity alone may have a definition
abbrev pub role_of_activity : Kind → NullRole
role_of_activity kind = if is_activity_kind kind then Described else Plain

-- what a role makes of an object that has it
abbrev pub role_of_object : NullRole → Kind → NullRole
role_of_object Plain kind = Plain
role_of_object Statement kind = Statement
role_of_object Object kind = if same_kind kind SubStatement then Statement else role_of_activity kind
role_of_object Described kind = role_of_activity kind
role_of_object Holder kind = Holder
role_of_object Context kind = Context
role_of_object ContextActivities kind = ContextActivities
role_of_object Activities kind = role_of_activity kind
role_of_object Extensions kind = Extensions

abbrev pub is_free : NullRole → Bool
is_free Extensions = true
is_free _ = false

abbrev mutual
  pub has_null : NullRole → Json → Bool
  has_null role null = true
  has_null role (boolean b) = false
  has_null role (number s) = false
  has_null role (string s) = false
  has_null role (array js) = items_have_null (role_of_item role) js
  has_null role (object ms) =
      if is_free role then false else members_have_null (role_of_object role (kind_of (object ms))) ms

  pub items_have_null : NullRole → Elements → Bool
  items_have_null role no_elements = false
  items_have_null role (element j js) = has_null role j || items_have_null role js

  pub members_have_null : NullRole → Members → Bool
  members_have_null role no_members = false
  members_have_null role (member name j ms) = has_null (role_of_member role name) j || members_have_null role ms
