use Rattle.std.proofs.Common.{◌∷◌, ◌++◌, [], Bool, subst, sym}
use Rattle.cmi5_running_sessions.specs.Kept.{SaidStandsFor}
use Rattle.cmi5_running_sessions.proofs.sessions.Sessions.install.Goals as goal
use Rattle.cmi5_session.specs.Marked.{mark}

pub returns-then-voided-clause-stands : goal.returns-then-voided-clause-stands
returns-then-voided-clause-stands c = λ those small stands.
    subst (λ (b : Bool). SaidStandsFor c.install_voided.new.self (those ++ mark c.args.statement.now b ∷ [])) (sym c.if-voided.true) (c.install_voided.ensures.stands those stands)

pub returns-else-voided-clause-stands : goal.returns-else-voided-clause-stands
returns-else-voided-clause-stands c = λ those small stands.
    subst (λ (b : Bool). SaidStandsFor c.install_counting.new.self (those ++ mark c.args.statement.now b ∷ [])) (sym c.if-voided.false) (c.install_counting.ensures.stands those small stands)
