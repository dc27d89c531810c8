pub use Rattle.cmi5_launch.proofs.LongerIris as Cmi5LaunchLongerIrisProofs
pub use Rattle.cmi5_launch.specs.Activities as Cmi5LaunchActivities
pub use Rattle.cmi5_launch.specs.Addresses as Cmi5LaunchAddresses
pub use Rattle.cmi5_launch.specs.Data as Cmi5LaunchData
pub use Rattle.cmi5_launch.specs.Made as Cmi5LaunchMade
pub use Rattle.cmi5_launch.specs.Names as Cmi5LaunchNames
pub use Rattle.cmi5_launch.specs.XapiStatementStatement as XapiStatementStatement
pub use Rattle.cmi5_launch.specs.XapiStatementStatements as XapiStatementStatements
pub use Rattle.cmi5_launch.specs.XapiStatementStored as XapiStatementStored
pub mod Counting
pub mod Marked
pub mod Moments
pub mod Own
pub mod Phases
pub mod Rules
pub mod Views
