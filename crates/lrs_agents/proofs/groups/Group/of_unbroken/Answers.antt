-- The members of a group that breaks no rule break none.
use Rattle.lrs_agents.proofs.AgentLemmas.{members_unbroken}
use Rattle.lrs_agents.proofs.groups.Group.of_unbroken.Goals as goal

pub members_in-requires : goal.members_in-requires
members_in-requires c = members_unbroken _ c.requires
