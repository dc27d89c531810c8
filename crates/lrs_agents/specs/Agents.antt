-- Agents and groups, and the rules 6 to 13 on them (xAPI 1.0.3, part two, section 2.4.2).
use Rattle.std.specs.Prelude.{ℕ, nat_le, List, [], ◌∷◌, ◌++◌, length, drop, Bool, not, ◌&&◌, ◌||◌, ◌==◌, nat_eq, Option}
use Rattle.std.specs.Prelude.{Some, None, codes, count_by, if◌then◌else◌}
use Rattle.std.specs.Char.{is_ascii_hexdigit}
use Rattle.std.specs.List.{list_all, starts_with, before_last, after_last}
use Rattle.std.specs.Str.{chars}
use Rattle.lrs_json.specs.Json.{Json, null, boolean, number, string, array, object, Elements, no_elements, element}
use Rattle.lrs_json.specs.Find.{find}
use Rattle.lrs_names.specs.Iris.{has_some, is_control_or_space, is_iri, iri_faults}
use Rattle.lrs_names.specs.Members.{is_string_that, is_string, is_word, has_member, has_member_that, if_member}
use Rattle.lrs_names.specs.Members.{faults_of_member, has_only}
use Rattle.lrs_names.specs.Rules.{unless}

-- ---- identifiers (section 2.4.2.3)

abbrev pub is_at_sign : ℕ → Bool
is_at_sign b = b == 64

-- x@y: the last at sign parts them, neither is empty, and there is no control or space
abbrev pub is_address : List ℕ → Bool
is_address text =
    has_some (before_last is_at_sign text) && has_some (after_last is_at_sign text)
    && list_all (λ c. not (is_control_or_space c)) (chars text)

-- `mailto:` and an address
unfoldable pub is_mailbox : List ℕ → Bool
is_mailbox text = starts_with nat_eq text (codes "mailto:") && is_address (drop 7 text)

-- forty hexadecimal digits, in either case
unfoldable pub is_sha1 : List ℕ → Bool
is_sha1 text = (length text == 40) && list_all is_ascii_hexdigit text

abbrev pub mailbox_faults : Json → List ℕ
mailbox_faults j = unless (is_string_that is_mailbox j) 7

abbrev pub sha1_faults : Json → List ℕ
sha1_faults j = unless (is_string_that is_sha1 j) 8

-- An `openid` that is no IRI breaks rule 9, and rule 6 as every such value does: rule 9 is never the least.
abbrev pub openid_faults : Json → List ℕ
openid_faults j = iri_faults j ++ unless (is_string_that is_iri j) 9

-- only `homePage` and `name`, both of them; what the home page holds is for rule 6
abbrev pub is_account : Json → Bool
is_account j =
    has_only (codes "homePage" ∷ codes "name" ∷ []) j && has_member (codes "homePage") j
    && has_member_that (codes "name") is_string j

abbrev pub account_faults : Json → List ℕ
account_faults j = unless (is_account j) 10 ++ faults_of_member (codes "homePage") iri_faults j

-- the members that identify
abbrev pub identifiers : List (List ℕ)
identifiers = codes "mbox" ∷ codes "mbox_sha1sum" ∷ codes "openid" ∷ codes "account" ∷ []

-- how many of them stand
abbrev pub identifier_count : Json → ℕ
identifier_count j = count_by (λ name. has_member name j) identifiers

-- the rules that they break
abbrev pub identifier_faults : Json → List ℕ
identifier_faults j =
    faults_of_member (codes "mbox") mailbox_faults j ++ faults_of_member (codes "mbox_sha1sum") sha1_faults j
    ++ faults_of_member (codes "openid") openid_faults j ++ faults_of_member (codes "account") account_faults j

-- ---- agents (section 2.4.2.1)

-- what rule 11 says, but for what the identifiers hold
abbrev pub is_agent : Json → Bool
is_agent j =
    has_only (codes "objectType" ∷ codes "name" ∷ identifiers) j
    && if_member (codes "objectType") (is_word (codes "Agent")) j
    && if_member (codes "name") is_string j && (identifier_count j == 1)

-- The rules that a value breaks where an agent is asked for. No object is one.
unfoldable pub agent_faults : Json → List ℕ
agent_faults j = unless (is_agent j) 11 ++ identifier_faults j

-- ---- groups (section 2.4.2.2)

abbrev pub faults_of_agents : Elements → List ℕ
faults_of_agents no_elements = []
faults_of_agents (element j js) = agent_faults j ++ faults_of_agents js

-- rule 13: an array, of agents
abbrev pub faults_of_members : Json → List ℕ
faults_of_members null = 13 ∷ []
faults_of_members (boolean b) = 13 ∷ []
faults_of_members (number s) = 13 ∷ []
faults_of_members (string s) = 13 ∷ []
faults_of_members (array js) = faults_of_agents js
faults_of_members (object ms) = 13 ∷ []

-- what rule 12 says, but for what identifiers and `member` hold
abbrev pub is_group : Json → Bool
is_group j =
    has_only (codes "objectType" ∷ codes "name" ∷ codes "member" ∷ identifiers) j
    && has_member_that (codes "objectType") (is_word (codes "Group")) j
    && if_member (codes "name") is_string j && nat_le (identifier_count j) 1
    && ((identifier_count j == 1) || has_member (codes "member") j)

-- The rules that a value breaks where a group is asked for. No object is one.
unfoldable pub group_faults : Json → List ℕ
group_faults j = unless (is_group j) 12 ++ identifier_faults j ++ faults_of_member (codes "member") faults_of_members j

-- ---- either of them

-- The rules that a value breaks where an agent or a group is asked for: its `objectType` says which it is, an agent
-- if it is missing. A value of another kind breaks the rule given here, and is looked at no further.
abbrev pub faults_of_kind : ℕ → Option Json → Json → List ℕ
faults_of_kind rule None j = agent_faults j
faults_of_kind rule (Some kind) j =
    if is_word (codes "Agent") kind then agent_faults j
    else (if is_word (codes "Group") kind then group_faults j else rule ∷ [])

unfoldable pub agent_or_group_faults : ℕ → Json → List ℕ
agent_or_group_faults rule j = faults_of_kind rule (find (codes "objectType") j) j
