pub use Rattle.lrs_names.specs.Ids as LrsNamesIds
pub use Rattle.lrs_names.specs.Members as LrsNamesMembers
pub use Rattle.lrs_time.specs.Digits as LrsTimeDigits
pub use Rattle.lrs_time.specs.Moments as LrsTimeMoments
pub use Rattle.lrs_time.specs.Timestamp as LrsTimeTimestamp
pub mod Shapes
pub mod Numbers
pub mod Kinds
pub mod Nested
pub mod Memberwise
pub mod Following
