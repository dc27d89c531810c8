use Rattle.std.proofs.Common.{◌≡◌, ◌≤◌, ◌-◌, ◌^◌, ◌∙◌, true, false, ap, subst, arith, Some, slice_get}
use Rattle.xapi_pages.specs.Listings.{is_behind, positions_of}
use Rattle.xapi_pages.proofs.Fronts.{behind_down, behind_up}
use Rattle.xapi_pages.proofs.listing.first_behind.Goals as goal

pub returns-then-ascending : goal.returns-then-ascending
returns-then-ascending c = λ i k at.
    let fits = c.ranges.asof.fits in
    let le : c.args.asof ≤ 2 ^ 64 - 1 = omega (arith, fits) in
    ap (λ b. is_behind b c.args.after k) c.if-ascending.true
    ∙ (ap (λ o. is_behind true o k) c.in-Some.is
    ∙ behind_up c.args.asof c.in-Some.after c.saturating_add.result (2 ^ 64 - 1) i k le c.saturating_add.ensures (subst (λ b. slice_get (positions_of b c.args.asof) i ≡ Some k) c.if-ascending.true at))

pub returns-else-ascending : goal.returns-else-ascending
returns-else-ascending c = λ i k at.
    ap (λ b. is_behind b c.args.after k) c.if-ascending.false
    ∙ (ap (λ o. is_behind false o k) c.in-Some.is
    ∙ behind_down c.args.asof c.in-Some.after c.saturating_sub.result i k c.saturating_sub.ensures (subst (λ b. slice_get (positions_of b c.args.asof) i ≡ Some k) c.if-ascending.false at))
