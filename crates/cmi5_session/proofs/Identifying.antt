-- The identifiers of those who take part, passed on.
pub use Rattle.cmi5_launch.specs.XapiStatementIdentifyingProofs.{same_test}
