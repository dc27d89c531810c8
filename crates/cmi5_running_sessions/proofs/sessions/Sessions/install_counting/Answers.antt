use Rattle.std.proofs.Common.{subst, sym}
use Rattle.cmi5_running_sessions.specs.Kept.{SeenSessions, SaidStandsFor}
use Rattle.cmi5_running_sessions.specs.Room.{HasSlotsFor, KeepsSlots}
use Rattle.cmi5_running_sessions.proofs.Standing.{slots_counting, seen_of, stands_counting}
use Rattle.cmi5_running_sessions.proofs.sessions.Sessions.install_counting.Goals as goal

pub install-requires : goal.install-requires
install-requires c = (subst (λ (old : SeenSessions). HasSlotsFor old c.args.statement.now) (sym c.self.view_is) c.requires).own

pub returns-clause-stands : goal.returns-clause-stands
returns-clause-stands c = λ those small stands.
    let slots = subst (λ (old : SeenSessions). HasSlotsFor old c.args.statement.now) (sym c.self.view_is) c.requires in
    stands_counting c.args.statement.now c.self.inside.own c.install.new.self c.self.inside.reached c.install-2.new.self slots c.install.ensures c.install-2.ensures those small (subst (λ (old : SeenSessions). SaidStandsFor old those) (sym c.self.view_is) stands)

pub returns-clause-slots : goal.returns-clause-slots
returns-clause-slots c =
    let slots = subst (λ (old : SeenSessions). HasSlotsFor old c.args.statement.now) (sym c.self.view_is) c.requires in
    subst (λ (old : SeenSessions). KeepsSlots old (seen_of c.install.new.self c.install-2.new.self)) c.self.view_is (slots_counting c.args.statement.now c.self.inside.own c.install.new.self c.self.inside.reached c.install-2.new.self slots c.install.ensures c.install-2.ensures)

pub install-requires-2 : goal.install-requires-2
install-requires-2 c = (subst (λ (old : SeenSessions). HasSlotsFor old c.args.statement.now) (sym c.self.view_is) c.requires).unit
