use Rattle.std.proofs.Common.{refl, sym, subst}
use Rattle.xapi_search.specs.Narrowing.{EachAscends}
use Rattle.xapi_search.proofs.Leaps.{both_skip, further, none_skip}
use Rattle.xapi_search.proofs.Narrowed.{Lists}
use Rattle.xapi_search.proofs.direct.leap.Goals as goal

pub leap_each-requires : goal.leap_each-requires
leap_each-requires c = subst (λ (lists : Lists). EachAscends lists) (sym c.as_slice.ensures.value) c.requires.filters

pub returns-in-Some-clause-ahead : goal.returns-in-Some-clause-ahead
returns-in-Some-clause-ahead c =
    further c.leap_each.result c.args.from c.in-Some.seen (c.in-Some.ensures.found c.in-Some.seen refl).0 c.leap_each.ensures.ahead

pub returns-in-Some-clause-skips : goal.returns-in-Some-clause-skips
returns-in-Some-clause-skips c =
    both_skip c.args.sought.now c.as_slice.result.now c.args.from c.in-Some.seen c.leap_each.result c.as_slice.ensures.value c.in-Some.ensures c.leap_each.ensures.skips

pub returns-in-None-clause-skips : goal.returns-in-None-clause-skips
returns-in-None-clause-skips c = λ k le before. none_skip c.args.sought.now c.args.from c.in-None.ensures k le
