pub use Rattle.lrs_sessions.specs.LrsPartsParts as LrsPartsParts
pub use Rattle.lrs_sessions.specs.LrsStateAcceptanceAcceptance as LrsStateAcceptanceAcceptance
pub use Rattle.lrs_sessions.specs.LrsStateAcceptanceAcceptanceTheVariants as LrsStateAcceptanceAcceptanceTheVariants
pub use Rattle.lrs_sessions.specs.LrsStateCourses as LrsStateCourses
pub use Rattle.lrs_sessions.specs.LrsStateEffectEffect as LrsStateEffectEffect
pub use Rattle.lrs_sessions.specs.LrsStateFounding as LrsStateFounding
pub use Rattle.lrs_sessions.specs.LrsStateLaunches as LrsStateLaunches
pub use Rattle.lrs_sessions.specs.LrsStateState as LrsStateState
pub mod Occasions
