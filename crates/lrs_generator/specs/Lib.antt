pub mod Generated
pub mod Progress
