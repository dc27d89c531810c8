use Rattle.std.proofs.Common.{Err, inl, refl, subst, sym}
use Rattle.lrs_json.specs.View.{view}
use Rattle.lrs_bodies.specs.Looks.{FindsForm, IsTreeOf, OnlySpelled}
use Rattle.lrs_bodies.specs.declared.form_refused.FormRefused.{FormRefused}
use Rattle.lrs_bodies.proofs.Readings.{tree_missed}
use Rattle.lrs_bodies.proofs.json.tree.Goals as goal

pub returns-in-Ok : goal.returns-in-Ok
returns-in-Ok c =
    let e = c.in-Ok.ensures in
    (inl (view c.in-Ok.tree, e.found, refl), record { spelled = e.found; readable = e.readable })

pub returns-in-Err : goal.returns-in-Err
returns-in-Err c =
    let e = c.in-Err.ensures in
    let missed = tree_missed c.args.bytes.now (Err c.in-Err.refused) e.too_deep e.bad e.repeated e.number_range c.in-Err.refused refl in
    subst (λ (f : FormRefused). FindsForm (OnlySpelled c.args.bytes.now) (IsTreeOf c.args.bytes.now) (Err f)) (sym c.from.ensures) missed
