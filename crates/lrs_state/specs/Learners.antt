-- Who can be enrolled.
use Rattle.std.specs.Prelude.{Bool, true, false, ◌&&◌}
use Rattle.lrs_agents.specs.Identifiers.{is_identifier}
use Rattle.lrs_agents.specs.declared.agents.Agent.{Agent}
use Rattle.lrs_agents.specs.declared.identifiers.Ifi.{Ifi}
use Rattle.lrs_agents.specs.declared.identifiers.Ifi.TheVariants.{Account}

abbrev pub has_account : Ifi → Bool
has_account (Account home name) = true
has_account other = false

-- it has an account, whose home page is an IRI
abbrev pub is_learner : Agent → Bool
is_learner agent = has_account agent.ifi && is_identifier agent.ifi
