pub mod FieldLemmas
pub mod FrontLemmas
pub mod ListLemmas
pub mod NextLemmas
pub mod ReachLemmas
pub mod SendLemmas
mod Taking
