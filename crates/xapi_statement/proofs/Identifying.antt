-- The identifiers of those who take part, passed on.
pub use Rattle.xapi_properties.proofs.Identifying.{same_test}
