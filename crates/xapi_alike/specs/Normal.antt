-- The normal form of a statement: what of it counts, with the values that its numbers, ids and times have.
use Rattle.std.specs.Prelude.{ℕ, ℤ, List, Bool, false, Option, Some, None, Result, Ok, Err, if◌then◌else◌}
use Rattle.lrs_json.specs.Json.{Json, null, boolean, number, string, array, object, Elements, no_elements, element}
use Rattle.lrs_json.specs.Json.{Members, no_members, member}
use Rattle.lrs_names.specs.Ids.{id_of}
use Rattle.lrs_time.specs.Duration.{Span}
use Rattle.lrs_time.specs.Reading.{timestamp_at, duration_at}
use Rattle.lrs_time.specs.declared.timestamps.TimeRefused.{TimeRefused}
use Rattle.xapi_values.specs.Kinds.{kind_of}
use Rattle.xapi_values.specs.declared.kinds.Kind.{Kind}
use Rattle.xapi_alike.specs.declared.role.Role.{Role}
use Rattle.xapi_alike.specs.declared.role.Role.TheVariants.{Statement, SubStatement, Object, Agent, GroupMembers}
use Rattle.xapi_alike.specs.declared.role.Role.TheVariants.{Activity, Reference, Context, ContextActivities}
use Rattle.xapi_alike.specs.declared.role.Role.TheVariants.{Activities, Outcome, Id, Timestamp, Duration, Plain}
use Rattle.xapi_alike.specs.Roles.{is_passed_over, kind_at, role_of_object, role_of_member, role_of_item}
use Rattle.xapi_alike.specs.Roles.{is_unordered, is_plural}

-- what a text says in its role
pub data Words : Type 0 where
  letters : List ℕ → Words
  -- sixteen bytes
  uuid : List ℕ → Words
  -- nanoseconds since 1970
  instant : ℤ → Words
  lasting : Span → Words

mutual
  pub data Normal : Type 0 where
    nothing : Normal
    truth : Bool → Normal
    -- a number, by its spelling
    amount : List ℕ → Normal
    words : Words → Normal
    -- an array, and whether it is without order
    items : Bool → Normals → Normal
    -- an object, with its kind if its role asks for one
    thing : Kind → Named → Normal

  pub data Normals : Type 0 where
    none : Normals
    more : Normal → Normals → Normals

  pub data Named : Type 0 where
    unnamed : Named
    named : List ℕ → Normal → Named → Named

abbrev pub id_or : List ℕ → Option (List ℕ) → Words
id_or text None = letters text
id_or text (Some i) = uuid i

abbrev pub instant_or : List ℕ → Result ℤ TimeRefused → Words
instant_or text (Ok i) = instant i
instant_or text (Err e) = letters text

abbrev pub span_or : List ℕ → Option Span → Words
span_or text None = letters text
span_or text (Some s) = lasting s

-- what a text says: an id, an instant or a span of time where one is asked for, else its letters
unfoldable pub said_at : Role → List ℕ → Words
said_at Statement text = letters text
said_at SubStatement text = letters text
said_at Object text = letters text
said_at Agent text = letters text
said_at GroupMembers text = letters text
said_at Activity text = letters text
said_at Reference text = letters text
said_at Context text = letters text
said_at ContextActivities text = letters text
said_at Activities text = letters text
said_at Outcome text = letters text
said_at Id text = id_or text (id_of text)
said_at Timestamp text = instant_or text (timestamp_at text)
said_at Duration text = span_or text (duration_at text)
said_at Plain text = letters text

-- what an object is in a role: where an array may stand, an array of it
abbrev pub alone : Role → Normal → Normal
alone role x = if is_plural role then items false (more x none) else x

abbrev mutual
  pub normal : Role → Json → Normal
  normal role null = nothing
  normal role (boolean b) = truth b
  normal role (number s) = amount s
  normal role (string s) = words (said_at role s)
  normal role (array js) = items (is_unordered role) (normal_items (role_of_item role) js)
  normal role (object ms) =
      let kind = kind_at role (kind_of (object ms)) in
      alone role (thing kind (normal_members (role_of_object role kind) ms))

  pub normal_items : Role → Elements → Normals
  normal_items role no_elements = none
  normal_items role (element j js) = more (normal role j) (normal_items role js)

  -- without the members that are passed over
  pub normal_members : Role → Members → Named
  normal_members role no_members = unnamed
  normal_members role (member name j ms) =
      if is_passed_over role name then normal_members role ms
      else named name (normal (role_of_member role name) j) (normal_members role ms)

-- the same where no array may stand for an object
abbrev pub normal_one : Role → Json → Normal
normal_one role null = nothing
normal_one role (boolean b) = truth b
normal_one role (number s) = amount s
normal_one role (string s) = words (said_at role s)
normal_one role (array js) = items (is_unordered role) (normal_items (role_of_item role) js)
normal_one role (object ms) =
    let kind = kind_at role (kind_of (object ms)) in
    thing kind (normal_members (role_of_object role kind) ms)
