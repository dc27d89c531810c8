pub use Rattle.lrs_made.specs.Cmi5SessionOwn as Cmi5SessionOwn
pub use Rattle.lrs_made.specs.Cmi5SessionRules as Cmi5SessionRules
pub use Rattle.lrs_made.specs.Lent as LrsMadeLent
pub use Rattle.lrs_made.specs.LrsHistoryAnswers as LrsHistoryAnswers
pub use Rattle.lrs_made.specs.LrsHistoryDeskEffects as LrsHistoryDeskEffects
pub use Rattle.lrs_made.specs.LrsHistoryEffects as LrsHistoryEffects
pub use Rattle.lrs_made.specs.LrsHistoryEnrolments as LrsHistoryEnrolments
pub use Rattle.lrs_made.specs.LrsHistoryHistory as LrsHistoryHistory
pub use Rattle.lrs_made.specs.LrsHistoryLaunches as LrsHistoryLaunches
pub use Rattle.lrs_made.specs.LrsHistoryMade as LrsHistoryMade
pub use Rattle.lrs_made.specs.LrsHistoryOccasions as LrsHistoryOccasions
pub use Rattle.lrs_made.specs.LrsHistoryOutcomesProofs as LrsHistoryOutcomesProofs
pub use Rattle.lrs_made.specs.LrsHistoryRefusals as LrsHistoryRefusals
pub use Rattle.lrs_made.specs.LrsHistoryRoomProofs as LrsHistoryRoomProofs
pub use Rattle.lrs_made.specs.LrsHistoryStrangersProofs as LrsHistoryStrangersProofs
pub use Rattle.lrs_made.specs.LrsHistoryWhose as LrsHistoryWhose
pub use Rattle.lrs_made.specs.LrsPartsParts as LrsPartsParts
pub use Rattle.lrs_made.specs.XapiPagesListings as XapiPagesListings
pub use Rattle.lrs_made.specs.declared.enrolments.LentEnrolled as LrsMadeEnrolmentsLentEnrolled
pub mod Judged
pub mod Naming
pub mod Known
pub mod Meeting
pub mod Submissions
