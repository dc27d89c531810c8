use Rattle.std.proofs.Common.{subst, sym}
use Rattle.cmi5_running_sessions.specs.Kept.{SeenSessions, SaidStandsFor}
use Rattle.cmi5_running_sessions.specs.Room.{HasSlotsFor, KeepsSlots}
use Rattle.cmi5_running_sessions.proofs.Standing.{slots_voided, seen_of, stands_voided}
use Rattle.cmi5_running_sessions.proofs.sessions.Sessions.install_voided.Goals as goal

pub install-requires : goal.install-requires
install-requires c = (subst (λ (old : SeenSessions). HasSlotsFor old c.args.statement.now) (sym c.self.view_is) c.requires).own

pub returns-clause-stands : goal.returns-clause-stands
returns-clause-stands c = λ those stands.
    let slots = subst (λ (old : SeenSessions). HasSlotsFor old c.args.statement.now) (sym c.self.view_is) c.requires in
    stands_voided c.args.statement.now c.self.inside.own c.install.new.self c.self.inside.reached slots c.install.ensures those (subst (λ (old : SeenSessions). SaidStandsFor old those) (sym c.self.view_is) stands)

pub returns-clause-slots : goal.returns-clause-slots
returns-clause-slots c =
    let slots = subst (λ (old : SeenSessions). HasSlotsFor old c.args.statement.now) (sym c.self.view_is) c.requires in
    subst (λ (old : SeenSessions). KeepsSlots old (seen_of c.install.new.self c.self.inside.reached)) c.self.view_is (slots_voided c.args.statement.now c.self.inside.own c.install.new.self c.self.inside.reached slots c.install.ensures)
