pub mod AgentTexts
