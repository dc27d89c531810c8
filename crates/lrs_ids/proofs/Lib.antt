pub mod FreshLemmas
pub mod Turns
pub mod MadeIds
pub mod FreeWords
