pub mod Holding
pub mod Identifying
pub mod Refusals
pub mod Sizes
