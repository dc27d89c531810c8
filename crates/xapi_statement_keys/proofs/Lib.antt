pub mod SameKeys
pub mod Growing
pub mod Named
pub mod Whole
