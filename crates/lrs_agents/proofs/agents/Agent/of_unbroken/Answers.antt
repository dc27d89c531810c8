-- An agent that breaks no rule has an identifier.
use Rattle.std.proofs.Common.{sym, ◌∙◌}
use Rattle.lrs_agents.proofs.AgentLemmas.{has_identifier}
use Rattle.lrs_agents.proofs.agents.Agent.of_unbroken.Goals as goal

pub unreachable-requires : goal.unreachable-requires
unreachable-requires c = has_identifier _ c.requires (sym c.in_ok-ifi.ensures ∙ c.in-None.is)
