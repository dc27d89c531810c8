-- The Agent of a learner as a value, as launches tell it (xAPI 1.0.3, part two, section 2.4.2.1).
use Rattle.std.specs.Prelude.{ℕ, List, [], ◌∷◌, ◌++◌, Option, Some, None, codes}
use Rattle.lrs_json.specs.Json.{Json, object, string}
use Rattle.lrs_json.specs.View.{members_of}
use Rattle.lrs_agents.specs.Identifiers.{account_json}
use Rattle.lrs_agents.specs.declared.agents.Agent.{Agent}
use Rattle.lrs_agents.specs.declared.identifiers.Ifi.{Ifi}
use Rattle.lrs_agents.specs.declared.identifiers.Ifi.TheVariants.{Mbox, MboxSha1, OpenId, Account}

-- the member of that name that holds the text, where there is one
abbrev pub text_given : List ℕ → Option (List ℕ) → List (List ℕ × Json)
text_given name None = []
text_given name (Some text) = (name, string text) ∷ []

-- the member that identifies
abbrev pub identifier_member : Ifi → List ℕ × Json
identifier_member (Mbox text) = (codes "mbox", string text)
identifier_member (MboxSha1 text) = (codes "mbox_sha1sum", string text)
identifier_member (OpenId text) = (codes "openid", string text)
identifier_member (Account home name) = (codes "account", account_json home name)

-- of that identifier and, where it has one, that name
abbrev pub agent_of : Ifi → Option (List ℕ) → Json
agent_of ifi name =
    object (members_of
    ((codes "objectType", string (codes "Agent")) ∷ (text_given (codes "name") name ++ identifier_member ifi ∷ [])))

-- {"objectType":"Agent","name":N,"account":{"homePage":H,"name":A}}, without `name` where it has none, and with another
-- identifier in place of the account where it has such a one
abbrev pub agent_json : Agent → Json
agent_json agent = agent_of agent.ifi agent.name
