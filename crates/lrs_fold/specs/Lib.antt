pub use Rattle.lrs_reads.specs.LrsHistoryAnswers as LrsHistoryAnswers
pub use Rattle.lrs_reads.specs.LrsHistoryEffects as LrsHistoryEffects
pub use Rattle.lrs_reads.specs.LrsHistoryHistory as LrsHistoryHistory
pub use Rattle.lrs_reads.specs.LrsHistoryOccasions as LrsHistoryOccasions
pub use Rattle.lrs_reads.specs.LrsHistoryOutcomesProofs as LrsHistoryOutcomesProofs
pub use Rattle.lrs_reads.specs.LrsHistoryRefusals as LrsHistoryRefusals
pub use Rattle.lrs_reads.specs.LrsHistoryRoomProofs as LrsHistoryRoomProofs
pub use Rattle.lrs_reads.specs.LrsHistoryStrangersProofs as LrsHistoryStrangersProofs
pub use Rattle.lrs_reads.specs.LrsHistoryWhose as LrsHistoryWhose
pub use Rattle.lrs_reads.specs.LrsRefusalsJudged as LrsRefusalsJudged
pub use Rattle.lrs_reads.specs.XapiPagesListings as XapiPagesListings
pub mod Next
pub mod Outcomes
pub mod Own
pub mod Posted
pub mod Texts
pub mod Written
