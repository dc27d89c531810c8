pub use Rattle.cmi5_session.specs.Cmi5LaunchNames as Cmi5LaunchNames
pub use Rattle.cmi5_session.specs.Marked as Cmi5SessionMarked
pub use Rattle.cmi5_session.specs.Moments as Cmi5SessionMoments
pub use Rattle.cmi5_session.specs.Own as Cmi5SessionOwn
pub use Rattle.cmi5_session.specs.Rules as Cmi5SessionRules
pub use Rattle.cmi5_session.specs.Views as Cmi5SessionViews
pub mod Maps
pub mod Kept
pub mod Room
