use Rattle.std.proofs.Common.{arith, refl}
use Rattle.std.proofs.lemmas.Bool.{ltb-true}
use Rattle.xapi_search.proofs.Leaps.{leap_ends, leap_on}
use Rattle.xapi_search.proofs.Narrowed.{ascends_at}
use Rattle.xapi_search.proofs.direct.leap_each.Goals as goal

pub loop-list-init : goal.loop-list-init
loop-list-init c = record { ahead = omega arith; skips = λ k le less. absurd (omega (arith, le, less)) }

pub first_from-requires : goal.first_from-requires
first_from-requires c = ascends_at c.args.lists.now c.loop-list.list-index c.loop-list-test.true c.requires

pub loop-list-preserved : goal.loop-list-preserved
loop-list-preserved c =
    let at = c.loop-list in
    let next = c.in-Some.next in
    record {
      ahead = omega (arith, at.invariant.ahead, (c.in-Some.ensures.found next refl).0);
      skips = leap_on c.args.lists.now at.list-index c.args.from at.position next c.loop-list-test.true c.in-Some.ensures at.invariant.skips;
    }

pub returns-in-None-clause-skips : goal.returns-in-None-clause-skips
returns-in-None-clause-skips c = λ k le before.
    let at = c.loop-list in
    leap_ends c.args.lists.now at.list-index c.args.from at.position c.loop-list-test.true c.in-None.ensures at.invariant.skips k le

pub returns-clause-ahead : goal.returns-clause-ahead
returns-clause-ahead c = c.loop-list.invariant.ahead

pub returns-clause-skips : goal.returns-clause-skips
returns-clause-skips c = λ k le before. c.loop-list.invariant.skips k le (ltb-true k c.loop-list.position before)
