use Rattle.std.proofs.Common.{subst, sym}
use Rattle.cmi5_running_sessions.specs.Kept.{SeenSessions}
use Rattle.cmi5_running_sessions.specs.Room.{TakesSlotsBack}
use Rattle.lrs_parts.proofs.progress.Progress.release.Goals as goal

pub returns-clause-back : goal.returns-clause-back
returns-clause-back c =
    subst (λ (s : SeenSessions). TakesSlotsBack c.args.statements.now c.args.self.now.sessions s) (sym c.settle.ensures.sessions) c.release.ensures
