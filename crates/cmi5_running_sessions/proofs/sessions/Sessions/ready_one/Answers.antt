use Rattle.std.proofs.Common.{inl, ◌≡◌, ◌∷◌, [], ℕ, List, true, is_some, refl, subst}
use Rattle.std.proofs.lemmas.Result.{on_ok_weaker}
use Rattle.cmi5_running_sessions.specs.Maps.{unit_at}
use Rattle.cmi5_running_sessions.specs.Kept.{SeenSessions}
use Rattle.cmi5_running_sessions.specs.Room.{KeepsSlots, MakesSlots, needs_unit}
use Rattle.cmi5_running_sessions.proofs.Making.{made_kept, one_made, units_same}
use Rattle.cmi5_running_sessions.proofs.Standing.{seen_of}
use Rattle.cmi5_running_sessions.proofs.sessions.Sessions.ready_one.Goals as goal

pub returns-in_err-ready-clause-made : goal.returns-in_err-ready-clause-made
returns-in_err-ready-clause-made c =
    let s = c.args.statement.now in
    let new = seen_of c.ready.new.self c.self.inside.reached in
    subst (λ (old : SeenSessions). MakesSlots (s ∷ []) old new) c.self.view_is
    (one_made s (seen_of c.self.inside.own c.self.inside.reached) new c.ready.ensures.made (units_same s c.self.inside.reached c.self.inside.reached refl) (λ r has. inl has))

pub returns-in_err-ready-clause-kept : goal.returns-in_err-ready-clause-kept
returns-in_err-ready-clause-kept c =
    let s = c.args.statement.now in
    let new = seen_of c.ready.new.self c.self.inside.reached in
    subst (λ (old : SeenSessions). KeepsSlots old new) c.self.view_is
    (made_kept s (seen_of c.self.inside.own c.self.inside.reached) new c.ready.ensures.made (units_same s c.self.inside.reached c.self.inside.reached refl))

pub returns-clause-made : goal.returns-clause-made
returns-clause-made c =
    let s = c.args.statement.now in
    let new = seen_of c.ready.new.self c.ready-2.new.self in
    subst (λ (old : SeenSessions). MakesSlots (s ∷ []) old new) c.self.view_is
    (one_made s (seen_of c.self.inside.own c.self.inside.reached) new c.ready.ensures.made c.ready-2.ensures.made c.ready-2.ensures.filled)

pub returns-clause-kept : goal.returns-clause-kept
returns-clause-kept c =
    let s = c.args.statement.now in
    let new = seen_of c.ready.new.self c.ready-2.new.self in
    subst (λ (old : SeenSessions). KeepsSlots old new) c.self.view_is
    (made_kept s (seen_of c.self.inside.own c.self.inside.reached) new c.ready.ensures.made c.ready-2.ensures.made)

pub returns-clause-there : goal.returns-clause-there
returns-clause-there c =
    on_ok_weaker c.ready-2.result
    (λ (units : (r a : List ℕ) → needs_unit r a c.args.statement.now ≡ true → is_some (unit_at r a c.ready-2.new.self) ≡ true). record { own = c.in_ok-ready.ensures.there; unit = units })
    c.ready-2.ensures.there
