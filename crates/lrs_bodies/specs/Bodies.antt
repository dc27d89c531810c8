-- The bodies of requests: the forms that are asked for, the first rule that a body of each breaks, and what it gives if
-- it breaks none.
use Rattle.std.specs.Prelude.{◌≡◌, ℕ, Bool, ◌&&◌, List, [], ◌∷◌, map, length, Option, Some, None, if◌then◌else◌}
use Rattle.std.specs.Prelude.{option_map}
use Rattle.std.specs.List.{AllByRecursion, list_all}
use Rattle.lrs_http.specs.declared.request.Request.{Request}
use Rattle.lrs_json.specs.Fits.{IsReadable}
use Rattle.lrs_json.specs.Json.{Json, null, boolean, number, string, array, object, Elements, no_elements, element}
use Rattle.lrs_json.specs.View.{view, elements_of}
use Rattle.lrs_json.specs.declared.tree.Tree.{Tree}
use Rattle.lrs_json.specs.declared.limits.TheConstants.{DEPTH}
use Rattle.lrs_json_reader.specs.Refusals.{Spells}
use Rattle.lrs_names.specs.Members.{has_member, has_member_that, has_only, is_string, text_under}
use Rattle.lrs_names.specs.Rules.{least}
use Rattle.lrs_rules.specs.declared.rule.Rule.{Rule}
use Rattle.lrs_rules.specs.declared.rule.Rule.TheVariants as rule
use Rattle.lrs_bodies.specs.DeskBodies.{IsEnrolmentIn, IsLaunchIn, IsWaiverIn, IsSweepIn, enrolment_body_faults}
use Rattle.lrs_bodies.specs.DeskBodies.{launch_body_faults, waiver_body_faults, empty_body_faults, sweep_body_faults}
use Rattle.lrs_bodies.specs.Looks.{Spelled, Tested}
use Rattle.lrs_bodies.specs.Media.{allows_json, media_of}
use Rattle.lrs_bodies.specs.declared.body_value.BodyValue.{BodyValue}
use Rattle.lrs_bodies.specs.declared.body_value.BodyValue.TheVariants as body

-- What the body is to be: any, as it isn't looked at; a statement; statements; any bytes, which are a document; an
-- object of just these members, each a string, and each with the number of the rule that it breaks where it is none; a
-- course, which may be any JSON; an enrolment; a launch; a waiver; an object without members; or a sweep.
pub data BodyForm : Type 0 where
  any_body : BodyForm
  statement_body : BodyForm
  statements_body : BodyForm
  document_body : BodyForm
  strings_body : List (List ℕ × ℕ) → BodyForm
  course_body : BodyForm
  enrolment_body : BodyForm
  launch_body : BodyForm
  waiver_body : BodyForm
  empty_body : BodyForm
  sweep_body : BodyForm

-- ---- the first rule that is broken

-- the body of a statement, or of statements
abbrev pub StatementBody : Request → Option Rule → Type 0
StatementBody request broken =
    Tested (allows_json request.media) (rule.F 3) broken (Spelled request.body broken (λ statement. broken ≡ None))

abbrev pub names_of : List (List ℕ × ℕ) → List (List ℕ)
names_of members = map (λ member. member.0) members

-- an object that has these members, and no others
abbrev pub has_just : List (List ℕ) → Json → Bool
has_just names j = has_only names j && list_all (λ name. has_member name j) names

-- the rule of the first member that is no string
abbrev pub first_unlike : List (List ℕ × ℕ) → Json → Option ℕ
first_unlike [] j = None
first_unlike (member ∷ members) j = if has_member_that member.0 is_string j then first_unlike members j
    else Some member.1

-- an object of just these strings
abbrev pub AreStrings : List (List ℕ × ℕ) → Json → Option Rule → Type 0
AreStrings members j broken =
    Tested (has_just (names_of members) j) (rule.B 1) broken
    (broken ≡ option_map (λ number. rule.B number) (first_unlike members j))

-- the least of the rules B of these numbers
abbrev pub IsLeastOf : List ℕ → Option Rule → Type 0
IsLeastOf numbers broken = broken ≡ option_map (λ number. rule.B number) (least numbers)

-- of the form of the body
abbrev pub BodyBreaks : BodyForm → Request → Option Rule → Type 0
BodyBreaks any_body request broken = broken ≡ None
BodyBreaks statement_body request broken = StatementBody request broken
BodyBreaks statements_body request broken = StatementBody request broken
BodyBreaks document_body request broken = broken ≡ None
BodyBreaks (strings_body members) request broken = Spelled request.body broken (λ j. AreStrings members j broken)
BodyBreaks course_body request broken = Spelled request.body broken (λ course. broken ≡ None)
BodyBreaks enrolment_body request broken = Spelled request.body broken (λ j. IsLeastOf (enrolment_body_faults j) broken)
BodyBreaks launch_body request broken = Spelled request.body broken (λ j. IsLeastOf (launch_body_faults j) broken)
BodyBreaks waiver_body request broken = Spelled request.body broken (λ j. IsLeastOf (waiver_body_faults j) broken)
BodyBreaks empty_body request broken = Spelled request.body broken (λ j. IsLeastOf (empty_body_faults j) broken)
BodyBreaks sweep_body request broken = Spelled request.body broken (λ j. IsLeastOf (sweep_body_faults j) broken)

-- ---- what the body gives

-- the statements of a body: the items of an array, or any other value alone
abbrev pub batch_of : Json → Elements
batch_of null = element null no_elements
batch_of (boolean b) = element (boolean b) no_elements
batch_of (number s) = element (number s) no_elements
batch_of (string s) = element (string s) no_elements
batch_of (array js) = js
batch_of (object ms) = element (object ms) no_elements

abbrev pub texts_under : List (List ℕ × ℕ) → Json → List (Option (List ℕ))
texts_under members j = map (λ member. text_under member.0 j) members

-- these are the texts of those members, in their order
abbrev pub AreTextsOf : List (List ℕ × ℕ) → Json → List (List ℕ) → Type 0
AreTextsOf members j texts = texts_under members j ≡ map Some texts

-- the value of the strings of those members
abbrev pub AreStringsOf : List (List ℕ × ℕ) → Json → BodyValue → Type 0
AreStringsOf members j value = (texts : List (List ℕ)) × AreTextsOf members j texts × (value ≡ body.Strings texts)

abbrev pub IsBodyValue : BodyForm → Request → BodyValue → Type 0
IsBodyValue any_body request value = value ≡ body.Nothing
IsBodyValue statement_body request value = (tree : Tree) × Spells DEPTH request.body (view tree)
    × (value ≡ body.Statement tree)
IsBodyValue statements_body request value =
    (trees : List Tree) × (j : Json) × Spells DEPTH request.body j × (elements_of (map view trees) ≡ batch_of j)
    × (value ≡ body.Statements trees)
IsBodyValue document_body request value = value ≡ body.Document (media_of request.media) request.body
IsBodyValue (strings_body members) request value =
    (texts : List (List ℕ)) × (j : Json) × Spells DEPTH request.body j × AreTextsOf members j texts
    × (value ≡ body.Strings texts)
IsBodyValue course_body request value = (tree : Tree) × Spells DEPTH request.body (view tree)
    × (value ≡ body.Course tree)
IsBodyValue enrolment_body request value = (j : Json) × Spells DEPTH request.body j × IsEnrolmentIn j value
IsBodyValue launch_body request value = (j : Json) × Spells DEPTH request.body j × IsLaunchIn j value
IsBodyValue waiver_body request value = (j : Json) × Spells DEPTH request.body j × IsWaiverIn j value
IsBodyValue empty_body request value = value ≡ body.Empty
IsBodyValue sweep_body request value = (j : Json) × Spells DEPTH request.body j × IsSweepIn j value

-- trees such as reading gives
abbrev pub AreReadable : List Tree → Type 0
AreReadable trees = AllByRecursion (λ tree. IsReadable DEPTH (view tree)) trees

-- such a value as a body of this form gives; its trees are such as reading gives
abbrev pub OfBody : BodyForm → BodyValue → Type 0
OfBody any_body body.Nothing = Unit {0}
OfBody statement_body (body.Statement tree) = IsReadable DEPTH (view tree)
OfBody statements_body (body.Statements trees) = AreReadable trees
OfBody document_body (body.Document media bytes) = Unit {0}
OfBody (strings_body members) (body.Strings texts) = length texts ≡ length members
OfBody course_body (body.Course tree) = IsReadable DEPTH (view tree)
OfBody enrolment_body (body.Enrolment course actor edition) = Unit {0}
OfBody launch_body (body.Launch unit mode return_url) = Unit {0}
OfBody waiver_body (body.Waiver unit reason) = Unit {0}
OfBody empty_body body.Empty = Unit {0}
OfBody sweep_body (body.Sweep idle) = Unit {0}
OfBody form value = ⊥

-- what the body gives, and such as its form gives
pub record IsInBody (form : BodyForm) (request : Request) (value : BodyValue) : Type 0 where
  pub is : IsBodyValue form request value
  pub kind : OfBody form value
