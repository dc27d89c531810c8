pub use Rattle.lrs_json_reader.proofs.Alike as LrsJsonReaderAlikeProofs
pub mod Scanning
pub mod Spelled
pub mod Codes
pub mod Single
