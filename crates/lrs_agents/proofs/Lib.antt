pub mod AtSigns
pub mod AgentLemmas
pub mod SameAgents
