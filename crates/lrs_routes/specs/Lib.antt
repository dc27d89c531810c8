pub mod Paths
pub mod Table
pub mod Fields
pub mod Parts
pub mod Operations
pub mod Forms
pub mod Looks
pub mod Asked
