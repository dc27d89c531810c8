pub use Rattle.cmi5_running_verdicts.specs.XapiIndexBatches as XapiIndexBatches
pub use Rattle.lrs_state.specs.Founding as Founding
pub use Rattle.lrs_state.specs.Registrations as LrsStateRegistrations
pub use Rattle.lrs_state.specs.Sessions as LrsStateSessions
pub use Rattle.lrs_state.specs.State as State
pub use Rattle.lrs_state.specs.declared.acceptance.Acceptance as LrsStateAcceptanceAcceptance
pub use Rattle.lrs_state.specs.declared.acceptance.Acceptance.TheVariants as LrsStateAcceptanceAcceptanceTheVariants
pub use Rattle.lrs_state.specs.declared.effect.Effect as LrsStateEffectEffect
pub use Rattle.lrs_state.specs.declared.launches.HeldKey as LrsStateLaunchesHeldKey
pub mod Trees
pub mod Progress
pub mod Parts
