use Rattle.std.proofs.Common.{◌≡◌, ◌∙◌, arith, true, take, sym, subst}
use Rattle.xapi_pages.specs.Chains.{AreTrue, chain_passes, is_among, is_direct_at}
use Rattle.xapi_search.specs.XapiStatementStatements.{referred_at}
use Rattle.xapi_pages.proofs.References.{passing_first}
use Rattle.xapi_pages.proofs.Ways.{IsOnWay, alike_more, doubt, fewer, step_counted, way_begun, way_ends, way_known, way_on}
use Rattle.xapi_pages.proofs.chains.walk.Goals as goal

pub steps-init : goal.steps-init
steps-init c =
    let held = take c.args.asof c.args.index.now.held in
    record {
      way = way_begun (is_direct_at c.args.sought.now) (referred_at held) c.args.asof (chain_passes c.args.sought.now held) c.args.marks.now c.args.path.now.items c.args.start
          c.requires.path c.requires.within c.requires.marks;
      counted = c.requires.counted;
    }

pub returns-in-Some-clause-passes : goal.returns-in-Some-clause-passes
returns-in-Some-clause-passes c = λ within.
    let at = c.steps in
    let held = take c.args.asof c.args.index.now.held in
    sym (way_known (is_direct_at c.args.sought.now) (referred_at held) c.args.asof (chain_passes c.args.sought.now held) at.marks at.path.items c.args.start at.position
    (passing_first c.args.sought.now c.args.index.now.held c.args.asof c.requires.asof) at.invariant.way c.in-Some.passes (sym c.known_at.ensures ∙ c.in-Some.is))
    ∙ sym at.invariant.way.begun

pub returns-in-Some-clause-alike : goal.returns-in-Some-clause-alike
returns-in-Some-clause-alike c = λ within k among.
    let at = c.steps in
    let held = take c.args.asof c.args.index.now.held in
    at.invariant.way.alike k among
    ∙ way_known (is_direct_at c.args.sought.now) (referred_at held) c.args.asof (chain_passes c.args.sought.now held) at.marks at.path.items c.args.start at.position
    (passing_first c.args.sought.now c.args.index.now.held c.args.asof c.requires.asof) at.invariant.way c.in-Some.passes (sym c.known_at.ensures ∙ c.in-Some.is)

pub returns-in-Some-clause-marks : goal.returns-in-Some-clause-marks
returns-in-Some-clause-marks c = λ within. c.steps.invariant.way.marked

pub returns-in-Some-clause-counted : goal.returns-in-Some-clause-counted
returns-in-Some-clause-counted c = c.steps.invariant.counted

pub returns-then-taken-most-clause-passes : goal.returns-then-taken-most-clause-passes
returns-then-taken-most-clause-passes c = λ within. absurd (omega (arith, within, c.if-taken-most.true))

pub returns-then-taken-most-clause-alike : goal.returns-then-taken-most-clause-alike
returns-then-taken-most-clause-alike c = λ within k among. absurd (omega (arith, within, c.if-taken-most.true))

pub returns-then-taken-most-clause-marks : goal.returns-then-taken-most-clause-marks
returns-then-taken-most-clause-marks c = λ within. absurd (omega (arith, within, c.if-taken-most.true))

pub returns-then-taken-most-clause-counted : goal.returns-then-taken-most-clause-counted
returns-then-taken-most-clause-counted c =
    let at = c.steps in
    step_counted c.args.asof at.marks c.set.new.self at.position at.walked c.saturating_add-taken.result (is_direct_at c.args.sought.now at.position)
    (sym c.known_at.ensures ∙ c.in_default.is) at.invariant.way.there c.in_ok-set.ensures (omega (arith, c.saturating_add-taken.ensures)) at.invariant.counted

pub steps-smaller : goal.steps-smaller
steps-smaller c =
    let at = c.steps in
    fewer c.args.asof at.marks c.set.new.self at.position (is_direct_at c.args.sought.now at.position) (sym c.known_at.ensures ∙ c.in_default.is) at.invariant.way.there c.in_ok-set.ensures

pub steps-preserved : goal.steps-preserved
steps-preserved c =
    let at = c.steps in
    let held = take c.args.asof c.args.index.now.held in
    record {
      way = subst (λ ws. IsOnWay (is_direct_at c.args.sought.now) (referred_at held) c.args.asof (chain_passes c.args.sought.now held) c.set.new.self ws c.args.start c.in-Some-referred_at.next)
          (sym c.in_ok-push.ensures.items)
          (way_on (is_direct_at c.args.sought.now) (referred_at held) c.args.asof (chain_passes c.args.sought.now held) at.marks at.path.items c.args.start at.position
          (passing_first c.args.sought.now c.args.index.now.held c.args.asof c.requires.asof) at.invariant.way c.in-Some-referred_at.next c.set.new.self
          (sym c.known_at.ensures ∙ c.in_default.is) c.in_ok-set.ensures (sym c.referred_at.ensures ∙ c.in-Some-referred_at.is));
      counted = step_counted c.args.asof at.marks c.set.new.self at.position at.walked c.saturating_add-taken.result (is_direct_at c.args.sought.now at.position)
          (sym c.known_at.ensures ∙ c.in_default.is) at.invariant.way.there c.in_ok-set.ensures (omega (arith, c.saturating_add-taken.ensures)) at.invariant.counted;
    }

pub returns-in-None-clause-passes : goal.returns-in-None-clause-passes
returns-in-None-clause-passes c = λ within.
    let at = c.steps in
    let held = take c.args.asof c.args.index.now.held in
    sym (at.invariant.way.begun
    ∙ way_ends (is_direct_at c.args.sought.now) (referred_at held) c.args.asof (chain_passes c.args.sought.now held) at.marks at.path.items c.args.start at.position
    (passing_first c.args.sought.now c.args.index.now.held c.args.asof c.requires.asof) at.invariant.way (sym c.known_at.ensures ∙ c.in_default.is) (sym c.referred_at.ensures ∙ c.in-None.is))

pub returns-in-None-clause-alike : goal.returns-in-None-clause-alike
returns-in-None-clause-alike c = λ within k among.
    let at = c.steps in
    let held = take c.args.asof c.args.index.now.held in
    alike_more (is_direct_at c.args.sought.now) (referred_at held) c.args.asof (chain_passes c.args.sought.now held) at.marks at.path.items c.args.start at.position
    (passing_first c.args.sought.now c.args.index.now.held c.args.asof c.requires.asof) at.invariant.way k (subst (λ ws. is_among ws k ≡ true) c.in_ok-push.ensures.items among)
    ∙ way_ends (is_direct_at c.args.sought.now) (referred_at held) c.args.asof (chain_passes c.args.sought.now held) at.marks at.path.items c.args.start at.position
    (passing_first c.args.sought.now c.args.index.now.held c.args.asof c.requires.asof) at.invariant.way (sym c.known_at.ensures ∙ c.in_default.is) (sym c.referred_at.ensures ∙ c.in-None.is)

pub returns-in-None-clause-marks : goal.returns-in-None-clause-marks
returns-in-None-clause-marks c = λ within.
    let at = c.steps in
    let held = take c.args.asof c.args.index.now.held in
    subst (λ ws. AreTrue (chain_passes c.args.sought.now held) c.set.new.self ws) (sym c.in_ok-push.ensures.items)
    (doubt (chain_passes c.args.sought.now held) at.marks c.set.new.self at.path.items at.position c.in_ok-set.ensures at.invariant.way.marked)

pub returns-in-None-clause-counted : goal.returns-in-None-clause-counted
returns-in-None-clause-counted c =
    let at = c.steps in
    step_counted c.args.asof at.marks c.set.new.self at.position at.walked c.saturating_add-taken.result (is_direct_at c.args.sought.now at.position)
    (sym c.known_at.ensures ∙ c.in_default.is) at.invariant.way.there c.in_ok-set.ensures (omega (arith, c.saturating_add-taken.ensures)) at.invariant.counted
