pub use Rattle.lrs_fold.specs.LrsHistoryAnswers as LrsHistoryAnswers
pub use Rattle.lrs_fold.specs.LrsHistoryEffects as LrsHistoryEffects
pub use Rattle.lrs_fold.specs.LrsHistoryHistory as LrsHistoryHistory
pub use Rattle.lrs_fold.specs.LrsHistoryOccasions as LrsHistoryOccasions
pub use Rattle.lrs_fold.specs.LrsHistoryRefusals as LrsHistoryRefusals
pub use Rattle.lrs_fold.specs.LrsHistoryRoomProofs as LrsHistoryRoomProofs
pub use Rattle.lrs_fold.specs.LrsHistoryStrangersProofs as LrsHistoryStrangersProofs
pub use Rattle.lrs_fold.specs.LrsHistoryWhose as LrsHistoryWhose
pub use Rattle.lrs_fold.specs.Own as LrsFoldOwn
pub mod Line
pub mod Acts
pub mod Numbers
pub mod Desk
pub mod Origin
pub mod Steps
pub mod Fold
pub mod Replays
pub mod Migrating
