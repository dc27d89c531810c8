pub mod Choices
pub mod Ids
pub mod IdSupply
pub mod Fresh
