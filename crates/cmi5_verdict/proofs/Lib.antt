pub mod Named
pub mod Spoken
pub mod Posted
pub mod Holders
pub mod Marked
pub mod Depths
pub mod Whole
