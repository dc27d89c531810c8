pub mod DigitLemmas
pub mod DurationLemmas
pub mod MomentLemmas
pub mod OneText
pub mod MomentTexts
pub mod Ascii
pub mod SecondsLemmas
pub mod TimestampLemmas
