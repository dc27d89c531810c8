pub use Rattle.lrs_agents.specs.Identifiers as LrsAgentsIdentifiers
pub use Rattle.lrs_agents.specs.declared.identifiers.Ifi as LrsAgentsIdentifiersIfi
pub use Rattle.lrs_agents.specs.declared.identifiers.Ifi.TheVariants as LrsAgentsIdentifiersIfiTheVariants
pub use Rattle.xapi_values.specs.Kinds as XapiValuesKinds
pub use Rattle.xapi_values.specs.Nested as XapiValuesNested
pub use Rattle.xapi_values.specs.declared.kinds.Kind as XapiValuesKindsKind
pub mod Objects
pub mod Contexts
pub mod Nulls
pub mod Rules
