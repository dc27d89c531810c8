pub use Rattle.xapi_postings.proofs.Ascending as XapiPostingsAscendingProofs
pub use Rattle.xapi_postings.specs.Ascending as XapiPostingsAscending
pub use Rattle.xapi_postings.specs.Nearest as XapiPostingsNearest
pub use Rattle.xapi_postings.specs.XapiQueryFilters as XapiQueryFilters
pub use Rattle.xapi_postings.specs.XapiQueryLinks as XapiQueryLinks
pub use Rattle.xapi_postings.specs.XapiQueryQueryGiven as XapiQueryQueryGiven
pub use Rattle.xapi_postings.specs.XapiQueryQueryQuery as XapiQueryQueryQuery
pub use Rattle.xapi_postings.specs.XapiQueryQueryTheConstants as XapiQueryQueryTheConstants
pub use Rattle.xapi_postings.specs.XapiQuerySightSight as XapiQuerySightSight
pub use Rattle.xapi_postings.specs.XapiQuerySightSightTheVariants as XapiQuerySightSightTheVariants
pub use Rattle.xapi_postings.specs.XapiQueryWantedWanted as XapiQueryWantedWanted
pub use Rattle.xapi_postings.specs.XapiQueryWantedWantedTheVariants as XapiQueryWantedWantedTheVariants
pub use Rattle.xapi_postings.specs.XapiStatementKeysKeyKey as XapiStatementKeysKeyKey
pub use Rattle.xapi_postings.specs.XapiStatementKeysKeyKeyTheVariants as XapiStatementKeysKeyKeyTheVariants
pub use Rattle.xapi_postings.specs.XapiStatementKeysKeys as XapiStatementKeysKeys
pub use Rattle.xapi_postings.specs.XapiStatementShown as XapiStatementShown
pub use Rattle.xapi_postings.specs.XapiStatementStatement as XapiStatementStatement
pub use Rattle.xapi_postings.specs.XapiStatementStatements as XapiStatementStatements
pub use Rattle.xapi_postings.specs.XapiStatementStored as XapiStatementStored
pub mod Batches
pub mod Index
pub mod Ahead
pub mod Times
