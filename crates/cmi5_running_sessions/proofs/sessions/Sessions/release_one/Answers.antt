use Rattle.std.proofs.Common.{◌∷◌, [], subst}
use Rattle.cmi5_running_sessions.specs.Kept.{SeenSessions}
use Rattle.cmi5_running_sessions.specs.Room.{TakesSlotsBack}
use Rattle.cmi5_running_sessions.proofs.Making.{one_taken}
use Rattle.cmi5_running_sessions.proofs.Standing.{seen_of}
use Rattle.cmi5_running_sessions.proofs.sessions.Sessions.release_one.Goals as goal

pub returns : goal.returns
returns c =
    let s = c.args.statement.now in
    let new = seen_of c.release.new.self c.release-2.new.self in
    subst (λ (old : SeenSessions). TakesSlotsBack (s ∷ []) old new) c.self.view_is (one_taken s (seen_of c.self.inside.own c.self.inside.reached) new c.release.ensures c.release-2.ensures.changed c.release-2.ensures.fewer c.release-2.ensures.filled)
