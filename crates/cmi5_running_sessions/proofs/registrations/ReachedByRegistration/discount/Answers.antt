use Rattle.std.proofs.Common.{◌≡◌, ◌∙◌, [], Some, is_some, true, refl, sym, ap, subst, option_map}
use Rattle.std.specs.Map.{lookup}
use Rattle.std.specs.Option.{option_copied_mut}
use Rattle.std.proofs.lemmas.Bool.{false≢true}
use Rattle.lrs_json.specs.View.{view}
use Rattle.cmi5_running_sessions.specs.Maps.{TextMap, UnitsByRegistration, reached_without}
use Rattle.cmi5_running_sessions.specs.Kept.{is_same, units_of}
use Rattle.cmi5_running_sessions.specs.declared.units.Reached.{Reached}
use Rattle.cmi5_running_sessions.proofs.Altering.{listed, unit_changed}
use Rattle.cmi5_running_sessions.proofs.registrations.ReachedByRegistration.discount.Goals as goal
use Rattle.cmi5_running_sessions.proofs.registrations.ReachedByRegistration.discount.Goals.{in-Some, in-None}

pub discount-requires : goal.discount-requires
discount-requires c =
    let key = c.args.registration.now in
    let found : units_of key c.args.self.now ≡ c.in-Some.units.now =
    sym (ap (λ (es : UnitsByRegistration). units_of key es) c.self.view_is) ∙ ap listed (sym c.get_mut.ensures.value ∙ ap option_copied_mut c.in-Some.is) in
    subst (λ (us : TextMap Reached). is_some (lookup (is_same c.args.activity.now) us) ≡ true) found c.requires

pub returns : goal.returns
returns c =
    let key = c.args.registration.now in
    elim c.match-get_mut.branch [
      | in-Some w ↦
          let old = w.in-Some.units.now in
          let new = w.discount.new.self in
          let found : lookup (is_same key) c.self.inside.map.entries ≡ Some old = sym c.get_mut.ensures.value ∙ ap option_copied_mut w.in-Some.is in
          rw w.self-inside-is
          (unit_changed key c.args.activity.now old new (Some new) c.self.inside.map.entries c.args.self.now (c.get_mut.follows.lender new).entries c.self.view_is (ap listed (sym found)) refl
          ((c.get_mut.follows.holds new).3 (ap is_some found)).0 (option_map (reached_without (view c.args.statement.now))) w.discount.ensures)
      | in-None w ↦
          let none : units_of key c.args.self.now ≡ [] =
          sym (ap (λ (es : UnitsByRegistration). units_of key es) c.self.view_is) ∙ ap listed (sym c.get_mut.ensures.value ∙ ap option_copied_mut w.in-None.is) in
          absurd (false≢true (sym (ap (λ (us : TextMap Reached). is_some (lookup (is_same c.args.activity.now) us)) none) ∙ c.requires))
    ]
