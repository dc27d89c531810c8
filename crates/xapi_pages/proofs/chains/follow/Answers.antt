use Rattle.std.proofs.Common.{◌∙◌, ap, arith, if◌then◌else◌, sym, take}
use Rattle.xapi_pages.specs.Chains.{chain_passes, is_among, mark_at}
use Rattle.xapi_pages.specs.declared.chains.Mark.TheVariants.{Passes}
use Rattle.xapi_pages.proofs.Ways.{passed_fewer, settled, settled_failing}
use Rattle.xapi_pages.proofs.chains.follow.Goals as goal

pub returns-then-not-passes-clause-passes : goal.returns-then-not-passes-clause-passes
returns-then-not-passes-clause-passes c = λ within. sym c.if-not-passes.true ∙ c.in_ok-passes.ensures.passes within

pub returns-then-not-passes-clause-marks : goal.returns-then-not-passes-clause-marks
returns-then-not-passes-clause-marks c = λ within.
    settled_failing (chain_passes c.args.sought.now (take c.args.asof c.args.index.now.held)) c.walk.new.marks c.walk.new.path.items
    (c.in_ok-passes.ensures.marks within) (λ k among. c.in_ok-passes.ensures.alike within k among ∙ c.if-not-passes.true)

pub returns-clause-passes : goal.returns-clause-passes
returns-clause-passes c = λ within. sym c.if-not-passes.false ∙ c.in_ok-passes.ensures.passes within

pub returns-clause-marks : goal.returns-clause-marks
returns-clause-marks c = λ within.
    settled (chain_passes c.args.sought.now (take c.args.asof c.args.index.now.held)) c.walk.new.marks c.mark_passing.new.marks c.walk.new.path.items
    (c.in_ok-passes.ensures.marks within) (λ k among. c.in_ok-passes.ensures.alike within k among ∙ c.if-not-passes.false)
    (λ k. c.in_ok-mark_passing.ensures k ∙ ap (λ ws. if is_among ws k then Passes else mark_at c.walk.new.marks k) c.as_slice.ensures.value)

pub returns-clause-counted : goal.returns-clause-counted
returns-clause-counted c =
    let fewer = passed_fewer c.walk.new.marks c.mark_passing.new.marks c.walk.new.path.items c.args.asof
    (λ k. c.in_ok-mark_passing.ensures k ∙ ap (λ ws. if is_among ws k then Passes else mark_at c.walk.new.marks k) c.as_slice.ensures.value) in
    omega (arith, fewer, c.in_ok-passes.ensures.counted)
