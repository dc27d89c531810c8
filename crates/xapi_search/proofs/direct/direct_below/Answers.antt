use Rattle.std.proofs.Common.{arith, refl}
use Rattle.std.proofs.lemmas.Bool.{lt-ltb}
use Rattle.xapi_search.proofs.Leaps.{direct_next, direct_none, direct_up_to}
use Rattle.xapi_search.proofs.direct.direct_below.Goals as goal

pub leaps-init : goal.leaps-init
leaps-init c = record {
  direct = direct_none c.args.sought.now c.new-found.result.items c.new-found.ensures.items;
  within = omega arith;
}

pub returns-then-next-n : goal.returns-then-next-n
returns-then-next-n c =
    let at = c.leaps in
    let past = c.if-next-n.true in
    direct_up_to c.args.sought.now at.from c.args.n at.found.items at.invariant.within
    (λ k le less. c.in-Some.ensures.skips k le (lt-ltb k c.in-Some.next (omega (arith, past, less)))) at.invariant.direct

pub overflow_add-from : goal.overflow_add-from
overflow_add-from c =
    let fits = c.ranges.n.fits in
    omega (arith, fits, c.if-next-n.false)

pub leaps-smaller : goal.leaps-smaller
leaps-smaller c = omega (arith, c.in-Some.ensures.ahead, c.if-next-n.false)

pub leaps-preserved : goal.leaps-preserved
leaps-preserved c =
    let at = c.leaps in
    let next = c.in-Some.next in
    record {
      direct = direct_next c.args.sought.now at.from next at.found.items c.note.new.found.items c.in-Some.ensures.ahead
          (λ k le less. c.in-Some.ensures.skips k le (lt-ltb k next less)) c.in_ok-note.ensures at.invariant.direct;
      within = omega (arith, c.if-next-n.false);
    }

pub returns : goal.returns
returns c =
    let at = c.leaps in
    direct_up_to c.args.sought.now at.from c.args.n at.found.items at.invariant.within (λ k le less. c.in_default.ensures.skips k le refl) at.invariant.direct
