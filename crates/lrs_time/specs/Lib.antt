pub mod Digits
pub mod Duration
pub mod Reading
pub mod Timestamp
pub mod Moments
