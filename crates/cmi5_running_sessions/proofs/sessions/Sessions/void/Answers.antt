use Rattle.std.proofs.Common.{◌∷◌, ◌++◌, false, subst, sym}
use Rattle.cmi5_running_sessions.specs.Kept.{SeenSessions, SaidStandsFor}
use Rattle.cmi5_running_sessions.specs.Room.{KeepsSlots}
use Rattle.cmi5_running_sessions.proofs.Standing.{slots_now_voided, seen_of, stands_now_voided}
use Rattle.cmi5_running_sessions.proofs.sessions.Sessions.void.Goals as goal
use Rattle.cmi5_session.specs.Marked.{mark}

pub returns-clause-stands : goal.returns-clause-stands
returns-clause-stands c = λ before behind stands.
    let s = c.args.statement.now in
    stands_now_voided s c.self.inside.own c.self.inside.reached c.void.new.self c.void.ensures before behind
    (subst (λ (old : SeenSessions). SaidStandsFor old (before ++ mark s false ∷ behind)) (sym c.self.view_is) stands)

pub returns-clause-slots : goal.returns-clause-slots
returns-clause-slots c =
    subst (λ (old : SeenSessions). KeepsSlots old (seen_of c.self.inside.own c.void.new.self)) c.self.view_is
    (slots_now_voided c.args.statement.now c.self.inside.own c.self.inside.reached c.void.new.self c.void.ensures)
