pub use Rattle.cmi5_session.proofs.Behind as Cmi5SessionBehindProofs
pub use Rattle.cmi5_session.proofs.Counts as Cmi5SessionCountsProofs
pub use Rattle.cmi5_session.specs.Cmi5LaunchActivities as Cmi5LaunchActivities
pub use Rattle.cmi5_session.specs.Cmi5LaunchAddresses as Cmi5LaunchAddresses
pub use Rattle.cmi5_session.specs.Cmi5LaunchData as Cmi5LaunchData
pub use Rattle.cmi5_session.specs.Cmi5LaunchMade as Cmi5LaunchMade
pub use Rattle.cmi5_session.specs.Cmi5LaunchNames as Cmi5LaunchNames
pub use Rattle.cmi5_session.specs.Counting as Cmi5SessionCounting
pub use Rattle.cmi5_session.specs.Marked as Cmi5SessionMarked
pub use Rattle.cmi5_session.specs.Moments as Cmi5SessionMoments
pub use Rattle.cmi5_session.specs.Own as Cmi5SessionOwn
pub use Rattle.cmi5_session.specs.Rules as Cmi5SessionRules
pub use Rattle.cmi5_session.specs.Views as Cmi5SessionViews
pub use Rattle.cmi5_session.specs.XapiStatementStatement as XapiStatementStatement
pub use Rattle.cmi5_session.specs.XapiStatementStatements as XapiStatementStatements
pub use Rattle.cmi5_session.specs.XapiStatementStored as XapiStatementStored
pub use Rattle.xapi_index.proofs.Adding as XapiIndexAddingProofs
pub use Rattle.xapi_index.proofs.Firsts as XapiIndexFirstsProofs
pub use Rattle.xapi_index.proofs.Found as XapiIndexFoundProofs
pub use Rattle.xapi_index.proofs.Rising as XapiIndexRisingProofs
pub use Rattle.xapi_index.proofs.Supplies as XapiIndexSuppliesProofs
pub use Rattle.xapi_index.specs.Ahead as XapiIndexAhead
pub use Rattle.xapi_index.specs.Batches as XapiIndexBatches
pub use Rattle.xapi_index.specs.Index as XapiIndexIndex
pub use Rattle.xapi_index.specs.XapiPostingsAscending as XapiPostingsAscending
pub use Rattle.xapi_index.specs.XapiStatementKeysKeyKeyTheVariants as XapiStatementKeysKeyKeyTheVariants
pub use Rattle.xapi_index.specs.XapiStatementKeysKeys as XapiStatementKeysKeys
pub mod FoundIndices
pub mod Statements
pub mod Units
pub mod Nodes
pub mod Said
pub mod Marks
