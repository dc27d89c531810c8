use Rattle.std.proofs.Common.{◌≡◌, ◌∙◌, ℕ, List, Some, true, inl, is_some, refl, sym, ap, subst}
use Rattle.std.specs.BTreeMap.{BTreeMap}
use Rattle.std.specs.Map.{lookup}
use Rattle.std.specs.Option.{option_copied_mut}
use Rattle.std.proofs.lemmas.Result.{on_ok_weaker}
use Rattle.cmi5_running_sessions.specs.Maps.{AddsFilled, TextMap, MakesUnits, UnitsByRegistration, is_same_unit}
use Rattle.cmi5_running_sessions.specs.Kept.{is_same, units_of}
use Rattle.cmi5_running_sessions.specs.declared.units.Reached.{Reached}
use Rattle.cmi5_running_sessions.proofs.Altering.{here, kept_before, listed, same_key, unit_made}
use Rattle.cmi5_running_sessions.proofs.registrations.ReachedByRegistration.make.Goals as goal

pub returns-in-Some-clause-made : goal.returns-in-Some-clause-made
returns-in-Some-clause-made c =
    let key = c.args.registration in
    let old = c.in-Some.units.now in
    let new = c.make.new.self in
    let found : lookup (is_same key) c.self.inside.map.entries ≡ Some old = sym c.get_mut.ensures.value ∙ ap option_copied_mut c.in-Some.is in
    unit_made key c.args.activity.now old new (Some new) c.self.inside.map.entries c.args.self.now (c.get_mut.follows.lender new).entries c.self.view_is (ap listed (sym found)) refl
    ((c.get_mut.follows.holds new).3 (ap is_some found)).0 c.make.ensures.made

pub returns-in-Some-clause-there : goal.returns-in-Some-clause-there
returns-in-Some-clause-there c =
    let key = c.args.registration in
    let old = c.in-Some.units.now in
    let new = c.make.new.self in
    let found : lookup (is_same key) c.self.inside.map.entries ≡ Some old = sym c.get_mut.ensures.value ∙ ap option_copied_mut c.in-Some.is in
    let written = here key c.args.activity.now old new (Some new) c.self.inside.map.entries c.args.self.now (c.get_mut.follows.lender new).entries c.self.view_is (ap listed (sym found)) refl
    ((c.get_mut.follows.holds new).3 (ap is_some found)).0 key c.args.activity.now (same_key key key refl) in
    on_ok_weaker c.make.result (λ (there : is_some (lookup (is_same c.args.activity.now) new) ≡ true). ap is_some written ∙ there) c.make.ensures.there

pub returns-in-Some-clause-filled : goal.returns-in-Some-clause-filled
returns-in-Some-clause-filled c =
    let key = c.args.registration in
    let old = c.in-Some.units.now in
    let new = c.make.new.self in
    let found : lookup (is_same key) c.self.inside.map.entries ≡ Some old = sym c.get_mut.ensures.value ∙ ap option_copied_mut c.in-Some.is in
    let before = kept_before key c.args.activity.now old new (Some new) c.self.inside.map.entries c.args.self.now (c.get_mut.follows.lender new).entries c.self.view_is (ap listed (sym found)) refl
    ((c.get_mut.follows.holds new).3 (ap is_some found)).0 (ap is_some found) in
    λ r has. inl (before r has)

pub make_first-requires : goal.make_first-requires
make_first-requires c =
    ap (λ (m : BTreeMap (List ℕ) (TextMap Reached)). units_of c.args.registration m.entries) c.get_mut.follows.holds-at-none
    ∙ ap listed (sym c.get_mut.ensures.value ∙ ap option_copied_mut c.in-None.is)

pub returns-in-None-clause-made : goal.returns-in-None-clause-made
returns-in-None-clause-made c =
    let same = ap (λ (m : BTreeMap (List ℕ) (TextMap Reached)). m.entries) c.get_mut.follows.holds-at-none ∙ c.self.view_is in
    subst (λ (es : UnitsByRegistration). MakesUnits (is_same_unit c.args.registration c.args.activity.now) es c.make_first.new.map.entries) same c.make_first.ensures.made

pub returns-in-None-clause-filled : goal.returns-in-None-clause-filled
returns-in-None-clause-filled c =
    let same = ap (λ (m : BTreeMap (List ℕ) (TextMap Reached)). m.entries) c.get_mut.follows.holds-at-none ∙ c.self.view_is in
    subst (λ (es : UnitsByRegistration). AddsFilled es c.make_first.new.map.entries) same c.make_first.ensures.filled

pub returns-in-None-clause-there : goal.returns-in-None-clause-there
returns-in-None-clause-there c = c.make_first.ensures.there
