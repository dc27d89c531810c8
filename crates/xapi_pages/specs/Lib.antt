pub use Rattle.xapi_search.specs.XapiIndexBatches as XapiIndexBatches
pub use Rattle.xapi_search.specs.XapiQueryFilters as XapiQueryFilters
pub use Rattle.xapi_search.specs.XapiQueryQueryQuery as XapiQueryQueryQuery
pub use Rattle.xapi_search.specs.XapiQuerySightSight as XapiQuerySightSight
pub use Rattle.xapi_search.specs.XapiQuerySightSightTheVariants as XapiQuerySightSightTheVariants
pub use Rattle.xapi_search.specs.XapiQueryWantedWanted as XapiQueryWantedWanted
pub use Rattle.xapi_search.specs.XapiQueryWantedWantedTheVariants as XapiQueryWantedWantedTheVariants
pub use Rattle.xapi_search.specs.XapiStatementShown as XapiStatementShown
pub use Rattle.xapi_search.specs.XapiStatementStatement as XapiStatementStatement
pub use Rattle.xapi_search.specs.XapiStatementStatements as XapiStatementStatements
pub use Rattle.xapi_search.specs.XapiStatementStored as XapiStatementStored
pub mod Listings
pub mod Chains
pub mod Searching
