pub use Rattle.xapi_statement.specs.Parties as XapiStatementParties
pub use Rattle.xapi_statement.specs.Shown as XapiStatementShown
pub use Rattle.xapi_statement.specs.Statement as XapiStatementStatement
pub use Rattle.xapi_statement.specs.Held as XapiStatementHeld
pub use Rattle.xapi_statement.specs.Stored as XapiStatementStored
pub use Rattle.xapi_statement.specs.Statements as XapiStatementStatements
pub use Rattle.xapi_statement.specs.XapiFormatAuthorities as XapiFormatAuthorities
pub use Rattle.xapi_statement.specs.XapiFormatAuthoritiesProofs as XapiFormatAuthoritiesProofs
pub use Rattle.xapi_statement.specs.XapiFormatAuthorityAuthority as XapiFormatAuthorityAuthority
pub use Rattle.xapi_statement.specs.XapiFormatAuthorityAuthorityTheVariants as XapiFormatAuthorityAuthorityTheVariants
pub use Rattle.xapi_statement.specs.XapiFormatParty as XapiFormatParty
pub use Rattle.xapi_statement.specs.XapiRulesRules as XapiRulesRules
pub mod Filters
pub mod Links
