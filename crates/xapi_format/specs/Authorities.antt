-- Under whose authority a statement stands, as the Agent that its completed form names (xAPI 1.0.3, part two, section
-- 2.4.9).
use Rattle.std.specs.Prelude.{◌≡◌, ◌≤◌, ℕ, List, [], ◌∷◌, ◌++◌, drop, length, true, false, codes}
use Rattle.std.specs.Fmt.{decimal}
use Rattle.lrs_json.specs.Json.{Json, object, string}
use Rattle.lrs_json.specs.Texts.{member_text}
use Rattle.lrs_json.specs.View.{members_of}
use Rattle.lrs_json.specs.Written.{members_text}
use Rattle.xapi_values.specs.LrsNamesIds.{id_text}
use Rattle.xapi_format.specs.declared.authority.Authority.{Authority}
use Rattle.xapi_format.specs.declared.authority.Authority.TheVariants.{Admin, Provider, Session, Desk}

-- the callers' accounts have this home page
abbrev pub home_page : List ℕ
home_page = codes "https://lrs.invalid/callers"

abbrev pub authority_name : Authority → List ℕ
authority_name Admin = codes "admin"
authority_name (Provider number name) = name
authority_name (Session id) = codes "session"
authority_name Desk = codes "desk"

-- the name of the account: providers are told apart by their numbers, sessions by their ids
abbrev pub account_name : Authority → List ℕ
account_name Admin = codes "admin"
account_name (Provider number name) = codes "provider:" ++ decimal number
account_name (Session id) = codes "session:" ++ id_text id
account_name Desk = codes "desk"

-- {"homePage":"https://lrs.invalid/callers","name":A}
abbrev pub account_json : List ℕ → Json
account_json account =
    object (members_of ((codes "homePage", string home_page) ∷ (codes "name", string account) ∷ []))

-- {"objectType":"Agent","name":N,"account":{..}}
abbrev pub authority_agent : List ℕ → List ℕ → Json
authority_agent name account =
    object (members_of ((codes "objectType", string (codes "Agent")) ∷ (codes "name", string name)
    ∷ (codes "account", account_json account) ∷ []))

abbrev pub authority_json : Authority → Json
authority_json authority = authority_agent (authority_name authority) (account_name authority)

-- the Agent by its account alone: {"objectType":"Agent","account":{..}}
abbrev pub account_agent : List ℕ → Json
account_agent account =
    object (members_of ((codes "objectType", string (codes "Agent")) ∷ (codes "account", account_json account) ∷ []))

-- ---- as text, after other members of a statement

-- the member `authority` up to the account
abbrev pub agent_front : Authority → List ℕ
agent_front authority =
    codes ",\"authority\":{" ++ (member_text false (codes "objectType") (string (codes "Agent"))
    ++ member_text true (codes "name") (string (authority_name authority)))

-- the account, and the closing brace of the Agent
abbrev pub account_end : Authority → List ℕ
account_end authority = members_text true (members_of ((codes "account", account_json (account_name authority)) ∷ []))

-- the text is the member `authority`, and its account begins at that offset
pub record IsMemberText (authority : Authority) (text : List ℕ) (account : ℕ) : Type 0 where
  pub member : text ≡ member_text true (codes "authority") (authority_json authority)
  pub within : account ≤ length text
  pub ends : drop account text ≡ account_end authority
