pub mod Filled
pub mod Quiet
pub mod Told
