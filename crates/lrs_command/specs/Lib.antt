pub mod Commands
pub mod Areas
