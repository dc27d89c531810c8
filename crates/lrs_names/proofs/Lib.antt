pub mod IdTexts
pub mod WordBytes
pub mod RuleLemmas
