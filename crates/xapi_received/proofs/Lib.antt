pub mod Drafting
pub mod Keeping
pub mod Left
pub mod Marked
pub mod Memberwise
pub mod Spans
pub mod Spelling
