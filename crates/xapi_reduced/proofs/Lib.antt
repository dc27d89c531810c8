pub mod Fusing
pub mod Itemwise
pub mod Unchanged
