pub use Rattle.lrs_agents.specs.Agents as LrsAgentsAgents
pub use Rattle.xapi_values.specs.LrsNamesIds as LrsNamesIds
pub use Rattle.xapi_values.specs.LrsNamesMembers as LrsNamesMembers
pub use Rattle.xapi_values.specs.Memberwise as XapiValuesMemberwise
pub use Rattle.xapi_values.specs.Nested as XapiValuesNested
pub mod Party
pub mod Authorities
pub mod Completed
