use Rattle.std.proofs.Common.{None, Some, arith, refl, subst, sym}
use Rattle.xapi_pages.specs.Searching.{SkipsNone}
use Rattle.xapi_pages.proofs.Nexts.{down_ends, down_index, down_skips, up_ahead, up_skips, up_within}
use Rattle.xapi_pages.proofs.listing.next_index.Goals as goal

pub returns-then-ascending-clause-ahead : goal.returns-then-ascending-clause-ahead
returns-then-ascending-clause-ahead c = up_ahead c.args.candidates.now c.args.from c.first_from.result c.first_from.ensures

pub returns-then-ascending-clause-within : goal.returns-then-ascending-clause-within
returns-then-ascending-clause-within c = up_within c.args.candidates.now c.args.asof c.args.from c.first_from.result c.requires.end c.first_from.ensures

pub returns-then-ascending-clause-skips : goal.returns-then-ascending-clause-skips
returns-then-ascending-clause-skips c =
    subst (λ b. SkipsNone c.args.candidates.now b c.args.asof c.args.from c.first_from.result) (sym c.if-ascending.true)
    (up_skips c.args.candidates.now c.args.asof c.args.from c.first_from.result c.first_from.ensures)

pub position_at-requires : goal.position_at-requires
position_at-requires c = omega (arith, (c.in-Some.ensures.found c.in-Some.position refl).0, c.saturating_sub.ensures)

pub returns-in-Some-clause-ahead : goal.returns-in-Some-clause-ahead
returns-in-Some-clause-ahead c =
    (down_index c.args.asof c.args.from c.saturating_sub.result c.in-Some.position c.position_at.result c.saturating_sub.ensures (c.in-Some.ensures.found c.in-Some.position refl).0 c.position_at.ensures.at).0

pub returns-in-Some-clause-skips : goal.returns-in-Some-clause-skips
returns-in-Some-clause-skips c =
    subst (λ b. SkipsNone c.args.candidates.now b c.args.asof c.args.from (Some c.position_at.result)) (sym c.if-ascending.false)
    (down_skips c.args.candidates.now c.args.asof c.args.from c.saturating_sub.result c.in-Some.position c.position_at.result c.saturating_sub.ensures c.in-Some.ensures c.position_at.ensures.at)

pub returns-in-None-clause-skips : goal.returns-in-None-clause-skips
returns-in-None-clause-skips c =
    subst (λ b. SkipsNone c.args.candidates.now b c.args.asof c.args.from None) (sym c.if-ascending.false)
    (down_ends c.args.candidates.now c.args.asof c.args.from c.saturating_sub.result c.saturating_sub.ensures c.in-None.ensures)
