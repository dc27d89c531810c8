pub use Rattle.xapi_query.specs.Filters as XapiQueryFilters
pub use Rattle.xapi_query.specs.Links as XapiQueryLinks
pub use Rattle.xapi_query.specs.XapiFormatAuthorityAuthority as XapiFormatAuthorityAuthority
pub use Rattle.xapi_query.specs.XapiRulesRules as XapiRulesRules
pub use Rattle.xapi_query.specs.XapiStatementHeld as XapiStatementHeld
pub use Rattle.xapi_query.specs.XapiStatementShown as XapiStatementShown
pub use Rattle.xapi_query.specs.XapiStatementStatement as XapiStatementStatement
pub use Rattle.xapi_query.specs.XapiStatementStatements as XapiStatementStatements
pub use Rattle.xapi_query.specs.XapiStatementStored as XapiStatementStored
pub use Rattle.xapi_query.specs.declared.query.Given as XapiQueryQueryGiven
pub use Rattle.xapi_query.specs.declared.query.Query as XapiQueryQueryQuery
pub use Rattle.xapi_query.specs.declared.query.TheConstants as XapiQueryQueryTheConstants
pub use Rattle.xapi_query.specs.declared.sight.Sight as XapiQuerySightSight
pub use Rattle.xapi_query.specs.declared.sight.Sight.TheVariants as XapiQuerySightSightTheVariants
pub use Rattle.xapi_query.specs.declared.wanted.Wanted as XapiQueryWantedWanted
pub use Rattle.xapi_query.specs.declared.wanted.Wanted.TheVariants as XapiQueryWantedWantedTheVariants
pub mod Keys
pub mod Adding
