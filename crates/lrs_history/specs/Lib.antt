pub use Rattle.cmi5_verdict.specs.Cmi5LaunchActivities as Cmi5LaunchActivities
pub use Rattle.cmi5_verdict.specs.Cmi5LaunchAddresses as Cmi5LaunchAddresses
pub use Rattle.cmi5_verdict.specs.Cmi5LaunchMade as Cmi5LaunchMade
pub use Rattle.cmi5_verdict.specs.Cmi5LaunchNames as Cmi5LaunchNames
pub use Rattle.cmi5_verdict.specs.Cmi5SessionBehindProofs as Cmi5SessionBehindProofs
pub use Rattle.cmi5_verdict.specs.Cmi5SessionMoments as Cmi5SessionMoments
pub use Rattle.cmi5_verdict.specs.Cmi5SessionOwn as Cmi5SessionOwn
pub use Rattle.cmi5_verdict.specs.Cmi5SessionRules as Cmi5SessionRules
pub use Rattle.cmi5_verdict.specs.Cmi5SessionViews as Cmi5SessionViews
pub use Rattle.cmi5_verdict.specs.Nodes as Cmi5VerdictNodes
pub use Rattle.cmi5_verdict.specs.Units as Cmi5VerdictUnits
pub use Rattle.lrs_state.specs.Courses as LrsStateCourses
pub use Rattle.lrs_state.specs.Editions as LrsStateEditions
pub use Rattle.lrs_state.specs.Founding as LrsStateFounding
pub use Rattle.lrs_state.specs.Launches as LrsStateLaunches
pub use Rattle.lrs_state.specs.Learners as LrsStateLearners
pub use Rattle.lrs_state.specs.Registrations as LrsStateRegistrations
pub use Rattle.lrs_state.specs.State as LrsStateState
pub use Rattle.lrs_state.specs.declared.founding.Founding as LrsStateFoundingFounding
pub use Rattle.lrs_state.specs.declared.registrations.HeldRegistration as LrsStateRegistrationsHeldRegistration
pub use Rattle.lrs_time.specs.Moments as LrsTimeMoments
pub use Rattle.xapi_pages.specs.Listings as XapiPagesListings
pub mod Whose
pub mod Sessions
pub mod Launches
pub mod Enrolments
pub mod Made
pub mod Endings
pub mod Occasions
pub mod DeskEffects
pub mod Effects
pub mod Refusals
pub mod Answers
pub mod History
