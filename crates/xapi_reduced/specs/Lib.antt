pub mod Reduced
pub mod Direct
