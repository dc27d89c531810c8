-- Bodies of the desk: who is enrolled in which course, which unit is launched or waived, and which sessions are
-- abandoned.
use Rattle.std.specs.Prelude.{◌≡◌, ℕ, List, [], ◌∷◌, ◌++◌, Bool, ◌&&◌, Option, Some, None, MatchOption, codes, is_none}
use Rattle.std.specs.Prelude.{is_some, if◌then◌else◌, length, nat_le, nat_lt, option_and_then}
use Rattle.std.specs.Char.{is_ascii_digit}
use Rattle.std.specs.List.{list_all}
use Rattle.std.specs.Str.Parse.{digits_value}
use Rattle.cmi5_course.specs.Reasons.{reason_of}
use Rattle.cmi5_course.specs.Words.{mode_of}
use Rattle.cmi5_course.specs.declared.launch.Mode.{Mode}
use Rattle.cmi5_course.specs.declared.launch.Mode.TheVariants.{Normal}
use Rattle.cmi5_course.specs.declared.reason.Reason.{Reason}
use Rattle.lrs_agents.specs.Agents.{agent_faults}
use Rattle.lrs_agents.specs.Readings.{IsAgentOf}
use Rattle.lrs_agents.specs.declared.agents.Agent.{Agent}
use Rattle.lrs_json.specs.Find.{find}
use Rattle.lrs_json.specs.Json.{Json}
use Rattle.lrs_names.specs.Iris.{is_iri}
use Rattle.lrs_names.specs.Members.{has_member, has_member_that, has_only, if_member, is_string_that, spelling_of}
use Rattle.lrs_names.specs.Members.{text_under}
use Rattle.lrs_names.specs.Rules.{least, unless}
use Rattle.lrs_bodies.specs.declared.body_value.BodyValue.{BodyValue}
use Rattle.lrs_bodies.specs.declared.body_value.BodyValue.TheVariants as body
use Rattle.lrs_rules.specs.declared.limits.TheConstants.{LONGEST_IDLE, MOST_EDITION}

-- a member that stands, and is a string that is an IRI
abbrev pub has_iri : List ℕ → Json → Bool
has_iri name j = has_member_that name (is_string_that is_iri) j

-- the number that digits spell, without a sign, a point or an exponent, if it is in this range
abbrev pub number_between : ℕ → ℕ → List ℕ → Option ℕ
number_between lowest highest spelling =
    if list_all is_ascii_digit spelling && nat_lt 0 (length spelling) && nat_le lowest (digits_value 10 spelling)
    && nat_le (digits_value 10 spelling) highest
    then Some (digits_value 10 spelling) else None

-- of a value that is a number
abbrev pub number_in : ℕ → ℕ → Json → Option ℕ
number_in lowest highest j = option_and_then (number_between lowest highest) (spelling_of j)

-- ---- an enrolment: `{"course":IRI,"actor":AGENT,"edition":NUMBER}`, of which the last may be missing

-- an object of no other members, which has the first two
abbrev pub is_enrolment : Json → Bool
is_enrolment j =
    has_only (codes "course" ∷ codes "actor" ∷ codes "edition" ∷ []) j && has_member (codes "course") j
    && has_member (codes "actor") j

-- an Agent, known by an account (cmi5 Quartz, section 8.1.3)
abbrev pub tells_learner : Json → Bool
tells_learner j = is_none (least (agent_faults j)) && has_member (codes "account") j

-- a number of 1 to 9 digits, of which the first isn't 0
abbrev pub edition_in : Json → Option ℕ
edition_in j = number_in 1 MOST_EDITION j

abbrev pub names_edition : Json → Bool
names_edition j = is_some (edition_in j)

abbrev pub edition_under : Json → Option ℕ
edition_under j = option_and_then edition_in (find (codes "edition") j)

-- the numbers of the rules B that it breaks
abbrev pub enrolment_body_faults : Json → List ℕ
enrolment_body_faults j =
    unless (is_enrolment j) 1 ++ unless (has_member_that (codes "actor") tells_learner j) 3
    ++ unless (has_iri (codes "course") j) 8 ++ unless (if_member (codes "edition") names_edition j) 10

-- What an enrolment that breaks no rule says. An edition that it names is a number by that rule.
pub record IsEnrolment (j : Json) (course : List ℕ) (actor : Agent) (edition : Option ℕ) : Type 0 where
  pub course_is : text_under (codes "course") j ≡ Some course
  pub actor_is : MatchOption (find (codes "actor") j) ⊥ (λ a. IsAgentOf a actor)
  pub edition_is : edition_under j ≡ edition

abbrev pub IsEnrolmentIn : Json → BodyValue → Type 0
IsEnrolmentIn j value =
    (course : List ℕ) × (actor : Agent) × (edition : Option ℕ) × IsEnrolment j course actor edition
    × (value ≡ body.Enrolment course actor edition)

-- ---- a launch: `{"unit":IRI,"mode":MODE,"returnURL":IRI}`, of which the last two may be missing

abbrev pub is_launch : Json → Bool
is_launch j =
    has_only (codes "unit" ∷ codes "mode" ∷ codes "returnURL" ∷ []) j && has_member (codes "unit") j

abbrev pub is_mode : List ℕ → Bool
is_mode word = is_some (mode_of word)

-- the numbers of the rules B that it breaks
abbrev pub launch_body_faults : Json → List ℕ
launch_body_faults j =
    unless (is_launch j) 1 ++ unless (if_member (codes "mode") (is_string_that is_mode) j) 4
    ++ unless (if_member (codes "returnURL") (is_string_that is_iri) j) 7 ++ unless (has_iri (codes "unit") j) 8

-- the mode of a word; without a word, Normal
abbrev pub mode_or_normal : Option (List ℕ) → Option Mode
mode_or_normal None = Some Normal
mode_or_normal (Some word) = mode_of word

-- What a launch that breaks no rule says. Each member that it has is then a string of its kind.
pub record IsLaunch (j : Json) (unit : List ℕ) (mode : Mode) (return_url : Option (List ℕ)) : Type 0 where
  pub unit_is : text_under (codes "unit") j ≡ Some unit
  pub mode_is : mode_or_normal (text_under (codes "mode") j) ≡ Some mode
  pub return_url_is : text_under (codes "returnURL") j ≡ return_url

abbrev pub IsLaunchIn : Json → BodyValue → Type 0
IsLaunchIn j value =
    (unit : List ℕ) × (mode : Mode) × (return_url : Option (List ℕ)) × IsLaunch j unit mode return_url
    × (value ≡ body.Launch unit mode return_url)

-- ---- a waiver: `{"unit":IRI,"reason":TEXT}`

-- an object of just these members
abbrev pub is_waiver : Json → Bool
is_waiver j =
    has_only (codes "unit" ∷ codes "reason" ∷ []) j && has_member (codes "unit") j && has_member (codes "reason") j

-- the reason of that text, letter by letter
abbrev pub reason_under : Json → Option Reason
reason_under j = option_and_then reason_of (text_under (codes "reason") j)

-- the numbers of the rules B that it breaks
abbrev pub waiver_body_faults : Json → List ℕ
waiver_body_faults j =
    unless (is_waiver j) 1 ++ unless (is_some (reason_under j)) 5 ++ unless (has_iri (codes "unit") j) 8

-- what a waiver that breaks no rule says
pub record IsWaiver (j : Json) (unit : List ℕ) (reason : Reason) : Type 0 where
  pub unit_is : text_under (codes "unit") j ≡ Some unit
  pub reason_is : reason_under j ≡ Some reason

abbrev pub IsWaiverIn : Json → BodyValue → Type 0
IsWaiverIn j value =
    (unit : List ℕ) × (reason : Reason) × IsWaiver j unit reason × (value ≡ body.Waiver unit reason)

-- ---- a session that is abandoned: `{}`

abbrev pub empty_body_faults : Json → List ℕ
empty_body_faults j = unless (has_only [] j) 1

-- ---- a sweep: `{"idle":SECONDS}`

-- an object of just this member
abbrev pub is_sweep : Json → Bool
is_sweep j = has_only (codes "idle" ∷ []) j && has_member (codes "idle") j

-- how long, in whole seconds
abbrev pub idle_under : Json → Option ℕ
idle_under j = option_and_then (number_in 0 LONGEST_IDLE) (find (codes "idle") j)

-- the numbers of the rules B that it breaks
abbrev pub sweep_body_faults : Json → List ℕ
sweep_body_faults j = unless (is_sweep j) 1 ++ unless (is_some (idle_under j)) 6

abbrev pub IsSweepIn : Json → BodyValue → Type 0
IsSweepIn j value = (idle : ℕ) × (idle_under j ≡ Some idle) × (value ≡ body.Sweep idle)
