use Rattle.std.proofs.Common.{◌≡◌, ◌∙◌, [], Some, None, is_some, true, length, nat_lt, ltb-true, refl, sym, ap, subst}
use Rattle.std.specs.Map.{lookup}
use Rattle.std.specs.Option.{option_copied_mut}
use Rattle.std.proofs.lemmas.Bool.{false≢true}
use Rattle.cmi5_running_sessions.specs.Maps.{TextMap, UnitsByRegistration}
use Rattle.cmi5_running_sessions.specs.Kept.{is_same, units_of}
use Rattle.cmi5_running_sessions.specs.declared.units.Reached.{Reached}
use Rattle.cmi5_running_sessions.proofs.Altering.{first_there, kept_before, listed, stays_filled, unit_changed}
use Rattle.cmi5_running_sessions.proofs.registrations.ReachedByRegistration.take_from.Goals as goal
use Rattle.cmi5_running_sessions.proofs.registrations.ReachedByRegistration.take_from.Goals.{in-Some, in-None}

pub remove-requires : goal.remove-requires
remove-requires c =
    let key = c.args.registration.now in
    let found : units_of key c.args.self.now ≡ c.in-Some.units.now =
    sym (ap (λ (es : UnitsByRegistration). units_of key es) c.self.view_is) ∙ ap listed (sym c.get_mut.ensures.value ∙ ap option_copied_mut c.in-Some.is) in
    ltb-true 1 (length c.in-Some.units.now) (subst (λ (us : TextMap Reached). nat_lt 1 (length us) ≡ true) found c.requires)

pub returns-clause-changed : goal.returns-clause-changed
returns-clause-changed c =
    let key = c.args.registration.now in
    elim c.match-get_mut.branch [
      | in-Some w ↦
          let old = w.in-Some.units.now in
          let new = w.remove.new.self in
          let found : lookup (is_same key) c.self.inside.map.entries ≡ Some old = sym c.get_mut.ensures.value ∙ ap option_copied_mut w.in-Some.is in
          rw w.self-inside-is
          (unit_changed key c.args.activity.now old new (Some new) c.self.inside.map.entries c.args.self.now (c.get_mut.follows.lender new).entries c.self.view_is (ap listed (sym found)) refl
          ((c.get_mut.follows.holds new).3 (ap is_some found)).0 (λ slot. None) w.remove.ensures.changed)
      | in-None w ↦
          let none : units_of key c.args.self.now ≡ [] =
          sym (ap (λ (es : UnitsByRegistration). units_of key es) c.self.view_is) ∙ ap listed (sym c.get_mut.ensures.value ∙ ap option_copied_mut w.in-None.is) in
          absurd (false≢true (sym (ap (λ (us : TextMap Reached). nat_lt 1 (length us)) none) ∙ c.requires))
    ]

pub returns-clause-fewer : goal.returns-clause-fewer
returns-clause-fewer c =
    let key = c.args.registration.now in
    elim c.match-get_mut.branch [
      | in-Some w ↦
          let old = w.in-Some.units.now in
          let new = w.remove.new.self in
          let found : lookup (is_same key) c.self.inside.map.entries ≡ Some old = sym c.get_mut.ensures.value ∙ ap option_copied_mut w.in-Some.is in
          rw w.self-inside-is
          (kept_before key c.args.activity.now old new (Some new) c.self.inside.map.entries c.args.self.now (c.get_mut.follows.lender new).entries c.self.view_is (ap listed (sym found)) refl
          ((c.get_mut.follows.holds new).3 (ap is_some found)).0 (ap is_some found))
      | in-None w ↦
          let none : units_of key c.args.self.now ≡ [] =
          sym (ap (λ (es : UnitsByRegistration). units_of key es) c.self.view_is) ∙ ap listed (sym c.get_mut.ensures.value ∙ ap option_copied_mut w.in-None.is) in
          absurd (false≢true (sym (ap (λ (us : TextMap Reached). nat_lt 1 (length us)) none) ∙ c.requires))
    ]

pub returns-clause-filled : goal.returns-clause-filled
returns-clause-filled c =
    let key = c.args.registration.now in
    elim c.match-get_mut.branch [
      | in-Some w ↦
          let old = w.in-Some.units.now in
          let new = w.remove.new.self in
          let found : lookup (is_same key) c.self.inside.map.entries ≡ Some old = sym c.get_mut.ensures.value ∙ ap option_copied_mut w.in-Some.is in
          rw w.self-inside-is
          (stays_filled key c.args.activity.now old new (Some new) c.self.inside.map.entries c.args.self.now (c.get_mut.follows.lender new).entries c.self.view_is (ap listed (sym found)) refl
          ((c.get_mut.follows.holds new).3 (ap is_some found)).0 (λ kept. first_there new w.remove.ensures.some))
      | in-None w ↦
          let none : units_of key c.args.self.now ≡ [] =
          sym (ap (λ (es : UnitsByRegistration). units_of key es) c.self.view_is) ∙ ap listed (sym c.get_mut.ensures.value ∙ ap option_copied_mut w.in-None.is) in
          absurd (false≢true (sym (ap (λ (us : TextMap Reached). nat_lt 1 (length us)) none) ∙ c.requires))
    ]
