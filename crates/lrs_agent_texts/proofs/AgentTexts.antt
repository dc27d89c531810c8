-- The Agent as a value is read as that agent, and breaks no rule where its identifier is one.
use Rattle.std.proofs.Common.{◌≡◌, ℕ, List, true, Option, Some, None, refl}
use Rattle.lrs_agents.specs.Agents.{agent_faults}
use Rattle.lrs_agents.specs.Identifiers.{identifier_of, is_identifier}
use Rattle.lrs_agents.specs.Readings.{IsAgentOf}
use Rattle.lrs_agent_texts.specs.Texts.{agent_json, agent_of}
use Rattle.lrs_agents.specs.declared.agents.Agent.{Agent}
use Rattle.lrs_agents.specs.declared.identifiers.Ifi.{Ifi}
use Rattle.lrs_agents.specs.declared.identifiers.Ifi.TheVariants.{Mbox, MboxSha1, OpenId, Account}
use Rattle.lrs_names.specs.Members.{text_under}
use Rattle.lrs_names.specs.Rules.{least}
use Rattle.std.specs.Prelude.{codes}

identified : (ifi : Ifi) (name : Option (List ℕ)) → identifier_of (agent_of ifi name) ≡ Some ifi
unfolding identifier_of
identified (Mbox text) None = refl
identified (Mbox text) (Some name) = refl
identified (MboxSha1 text) None = refl
identified (MboxSha1 text) (Some name) = refl
identified (OpenId text) None = refl
identified (OpenId text) (Some name) = refl
identified (Account home own) None = refl
identified (Account home own) (Some name) = refl

named : (ifi : Ifi) (name : Option (List ℕ)) → text_under (codes "name") (agent_of ifi name) ≡ name
named (Mbox text) None = refl
named (Mbox text) (Some name) = refl
named (MboxSha1 text) None = refl
named (MboxSha1 text) (Some name) = refl
named (OpenId text) None = refl
named (OpenId text) (Some name) = refl
named (Account home own) None = refl
named (Account home own) (Some name) = refl

unbroken : (ifi : Ifi) (name : Option (List ℕ)) → is_identifier ifi ≡ true → least (agent_faults (agent_of ifi name)) ≡ None
unfolding agent_faults
unbroken (Mbox text) None is = rw is refl
unbroken (Mbox text) (Some name) is = rw is refl
unbroken (MboxSha1 text) None is = rw is refl
unbroken (MboxSha1 text) (Some name) is = rw is refl
unbroken (OpenId text) None is = rw is refl
unbroken (OpenId text) (Some name) is = rw is refl
unbroken (Account home own) None is = rw is refl
unbroken (Account home own) (Some name) is = rw is refl

pub agent_json-IsAgentOf : (agent : Agent) → IsAgentOf (agent_json agent) agent
agent_json-IsAgentOf agent = record { ifi = identified agent.ifi agent.name; name = named agent.ifi agent.name }

pub agent_json-unbroken : (agent : Agent) → is_identifier agent.ifi ≡ true → least (agent_faults (agent_json agent)) ≡ None
agent_json-unbroken agent is = unbroken agent.ifi agent.name is
