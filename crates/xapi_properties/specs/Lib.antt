pub use Rattle.xapi_rules.specs.Contexts as XapiRulesContexts
pub use Rattle.xapi_rules.specs.LrsAgentsIdentifiersIfi as LrsAgentsIdentifiersIfi
pub use Rattle.xapi_rules.specs.Nulls as XapiRulesNulls
pub use Rattle.xapi_rules.specs.Objects as XapiRulesObjects
pub use Rattle.xapi_rules.specs.Rules as XapiRulesRules
pub use Rattle.xapi_rules.specs.declared.nulls.NullRole.TheVariants as XapiRulesNullsNullRoleTheVariants
pub mod Members
pub mod Activities
pub mod Parties
