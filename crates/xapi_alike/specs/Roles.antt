-- The roles of a statement, and what is compared there (xAPI 1.0.3, part two, section 2.4).
use Rattle.std.specs.Prelude.{ℕ, List, [], ◌∷◌, Bool, true, false, codes, if◌then◌else◌}
use Rattle.std.specs.Str.{bytes_eq}
use Rattle.lrs_names.specs.Members.{is_one_of}
use Rattle.xapi_values.specs.declared.kinds.Kind.{Kind}
use Rattle.xapi_alike.specs.declared.role.Role.{Role}
use Rattle.xapi_alike.specs.declared.role.Role.TheVariants.{Statement, SubStatement, Object, Agent, GroupMembers}
use Rattle.xapi_alike.specs.declared.role.Role.TheVariants.{Activity, Reference, Context, ContextActivities}
use Rattle.xapi_alike.specs.declared.role.Role.TheVariants.{Activities, Outcome, Id, Timestamp, Duration, Plain}

-- the members that a store may set or change: two statements are the same whatever these are
abbrev pub own_members : List (List ℕ)
own_members = codes "id" ∷ codes "stored" ∷ codes "authority" ∷ codes "version" ∷ []

-- Members that are looked over: those of a statement itself, and an `objectType` that a role has a default for, since
-- the kind of what stands there is compared in its stead.
unfoldable pub is_passed_over : Role → List ℕ → Bool
is_passed_over Statement name = is_one_of own_members name
is_passed_over SubStatement name = false
is_passed_over Object name = false
is_passed_over Agent name = bytes_eq name (codes "objectType")
is_passed_over GroupMembers name = false
is_passed_over Activity name = bytes_eq name (codes "objectType")
is_passed_over Reference name = false
is_passed_over Context name = false
is_passed_over ContextActivities name = false
is_passed_over Activities name = false
is_passed_over Outcome name = false
is_passed_over Id name = false
is_passed_over Timestamp name = false
is_passed_over Duration name = false
is_passed_over Plain name = false

-- the kind that is meant if none is stated: an Agent where someone acts, an Activity as an object or of a context
abbrev pub kind_or : Kind → Kind → Kind
kind_or default Kind.Unstated = default
kind_or default Kind.Activity = Kind.Activity
kind_or default Kind.Agent = Kind.Agent
kind_or default Kind.Group = Kind.Group
kind_or default Kind.StatementRef = Kind.StatementRef
kind_or default Kind.SubStatement = Kind.SubStatement
kind_or default Kind.Other = Kind.Other

-- The kind of an object in a role, by what it states. In other roles than these nothing is meant by an `objectType`,
-- which is a member as any other.
unfoldable pub kind_at : Role → Kind → Kind
kind_at Statement own = Kind.Unstated
kind_at SubStatement own = Kind.Unstated
kind_at Object own = kind_or Kind.Activity own
kind_at Agent own = kind_or Kind.Agent own
kind_at GroupMembers own = Kind.Unstated
kind_at Activity own = kind_or Kind.Activity own
kind_at Reference own = Kind.Unstated
kind_at Context own = Kind.Unstated
kind_at ContextActivities own = Kind.Unstated
kind_at Activities own = kind_or Kind.Activity own
kind_at Outcome own = Kind.Unstated
kind_at Id own = Kind.Unstated
kind_at Timestamp own = Kind.Unstated
kind_at Duration own = Kind.Unstated
kind_at Plain own = Kind.Unstated

-- what the object of a statement is
abbrev pub role_of_kind : Kind → Role
role_of_kind Kind.Unstated = Activity
role_of_kind Kind.Activity = Activity
role_of_kind Kind.Agent = Agent
role_of_kind Kind.Group = Agent
role_of_kind Kind.StatementRef = Reference
role_of_kind Kind.SubStatement = SubStatement
role_of_kind Kind.Other = Plain

-- what an object of that kind is in a role
unfoldable pub role_of_object : Role → Kind → Role
role_of_object Statement kind = Statement
role_of_object SubStatement kind = SubStatement
role_of_object Object kind = role_of_kind kind
role_of_object Agent kind = Agent
role_of_object GroupMembers kind = Plain
role_of_object Activity kind = Activity
role_of_object Reference kind = Reference
role_of_object Context kind = Context
role_of_object ContextActivities kind = ContextActivities
role_of_object Activities kind = Activity
role_of_object Outcome kind = Outcome
role_of_object Id kind = Plain
role_of_object Timestamp kind = Plain
role_of_object Duration kind = Plain
role_of_object Plain kind = Plain

-- what a statement or a SubStatement makes of its member
abbrev pub role_in_statement : List ℕ → Role
role_in_statement name =
    if bytes_eq name (codes "actor") then Agent
    else (if bytes_eq name (codes "object") then Object else (if bytes_eq name (codes "result") then Outcome
    else (if bytes_eq name (codes "context") then Context
    else (if bytes_eq name (codes "timestamp") then Timestamp else Plain))))

abbrev pub role_in_context : List ℕ → Role
role_in_context name =
    if bytes_eq name (codes "registration") then Id
    else (if bytes_eq name (codes "instructor") then Agent else (if bytes_eq name (codes "team") then Agent
    else (if bytes_eq name (codes "contextActivities") then ContextActivities
    else (if bytes_eq name (codes "statement") then Reference else Plain))))

abbrev pub activity_members : List (List ℕ)
activity_members = codes "parent" ∷ codes "grouping" ∷ codes "category" ∷ codes "other" ∷ []

-- what something makes of its member
unfoldable pub role_of_member : Role → List ℕ → Role
role_of_member Statement name = role_in_statement name
role_of_member SubStatement name = role_in_statement name
role_of_member Object name = Plain
role_of_member Agent name = if bytes_eq name (codes "member") then GroupMembers else Plain
role_of_member GroupMembers name = Plain
role_of_member Activity name = Plain
role_of_member Reference name = if bytes_eq name (codes "id") then Id else Plain
role_of_member Context name = role_in_context name
role_of_member ContextActivities name = if is_one_of activity_members name then Activities else Plain
role_of_member Activities name = Plain
role_of_member Outcome name = if bytes_eq name (codes "duration") then Duration else Plain
role_of_member Id name = Plain
role_of_member Timestamp name = Plain
role_of_member Duration name = Plain
role_of_member Plain name = Plain

-- what a role makes of an item of an array that stands there
unfoldable pub role_of_item : Role → Role
role_of_item Statement = Plain
role_of_item SubStatement = Plain
role_of_item Object = Plain
role_of_item Agent = Plain
role_of_item GroupMembers = Agent
role_of_item Activity = Plain
role_of_item Reference = Plain
role_of_item Context = Plain
role_of_item ContextActivities = Plain
role_of_item Activities = Activity
role_of_item Outcome = Plain
role_of_item Id = Plain
role_of_item Timestamp = Plain
role_of_item Duration = Plain
role_of_item Plain = Plain

-- Where an array is without order: the members of a Group.
abbrev pub is_unordered : Role → Bool
is_unordered Statement = false
is_unordered SubStatement = false
is_unordered Object = false
is_unordered Agent = false
is_unordered GroupMembers = true
is_unordered Activity = false
is_unordered Reference = false
is_unordered Context = false
is_unordered ContextActivities = false
is_unordered Activities = false
is_unordered Outcome = false
is_unordered Id = false
is_unordered Timestamp = false
is_unordered Duration = false
is_unordered Plain = false

-- Where one object stands for an array of it: the four members of context activities.
abbrev pub is_plural : Role → Bool
is_plural Statement = false
is_plural SubStatement = false
is_plural Object = false
is_plural Agent = false
is_plural GroupMembers = false
is_plural Activity = false
is_plural Reference = false
is_plural Context = false
is_plural ContextActivities = false
is_plural Activities = true
is_plural Outcome = false
is_plural Id = false
is_plural Timestamp = false
is_plural Duration = false
is_plural Plain = false
