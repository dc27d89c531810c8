pub use Rattle.xapi_index.proofs.Firsts as XapiIndexFirstsProofs
pub use Rattle.xapi_index.specs.Batches as XapiIndexBatches
pub use Rattle.xapi_index.specs.Index as XapiIndexIndex
pub use Rattle.xapi_index.specs.XapiPostingsAscending as XapiPostingsAscending
pub use Rattle.xapi_index.specs.XapiPostingsAscendingProofs as XapiPostingsAscendingProofs
pub use Rattle.xapi_index.specs.XapiQueryFilters as XapiQueryFilters
pub use Rattle.xapi_index.specs.XapiQueryLinks as XapiQueryLinks
pub use Rattle.xapi_index.specs.XapiQueryQueryQuery as XapiQueryQueryQuery
pub use Rattle.xapi_index.specs.XapiQueryQueryTheConstants as XapiQueryQueryTheConstants
pub use Rattle.xapi_index.specs.XapiQuerySightSight as XapiQuerySightSight
pub use Rattle.xapi_index.specs.XapiQuerySightSightTheVariants as XapiQuerySightSightTheVariants
pub use Rattle.xapi_index.specs.XapiQueryWantedWanted as XapiQueryWantedWanted
pub use Rattle.xapi_index.specs.XapiQueryWantedWantedTheVariants as XapiQueryWantedWantedTheVariants
pub use Rattle.xapi_index.specs.XapiStatementKeysKeyKey as XapiStatementKeysKeyKey
pub use Rattle.xapi_index.specs.XapiStatementKeysKeyKeyTheVariants as XapiStatementKeysKeyKeyTheVariants
pub use Rattle.xapi_index.specs.XapiStatementKeysKeys as XapiStatementKeysKeys
pub use Rattle.xapi_index.specs.XapiStatementShown as XapiStatementShown
pub use Rattle.xapi_index.specs.XapiStatementStatement as XapiStatementStatement
pub use Rattle.xapi_index.specs.XapiStatementStatements as XapiStatementStatements
pub use Rattle.xapi_index.specs.XapiStatementStored as XapiStatementStored
pub mod Sought
pub mod Narrowing
pub mod Candidates
pub mod Nearer
pub mod Walks
