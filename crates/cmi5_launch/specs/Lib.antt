pub use Rattle.xapi_statement.proofs.Identifying as XapiStatementIdentifyingProofs
pub use Rattle.xapi_statement.specs.Parties as XapiStatementParties
pub use Rattle.xapi_statement.specs.Statement as XapiStatementStatement
pub use Rattle.xapi_statement.specs.Statements as XapiStatementStatements
pub use Rattle.xapi_statement.specs.Stored as XapiStatementStored
pub mod Names
pub mod Activities
pub mod Addresses
pub mod Data
pub mod Made
