use Rattle.std.proofs.Common.{◌∙◌, length, Some, None, refl, sym, ap, arith}
use Rattle.cmi5_verdict.proofs.Holders.{depth_ended, depth_next, outward_first, outward_over}
use Rattle.cmi5_verdict.proofs.nodes.depth_of.Goals as goal

pub loop-step-init : goal.loop-step-init
loop-step-init c =
    let first = ap length (outward_first c.args.nodes.now (length c.args.nodes.now) (Some c.args.index)) in
    omega (arith, first)

pub loop-step-preserved : goal.loop-step-preserved
loop-step-preserved c =
    depth_next c.args.nodes.now (length c.args.nodes.now) c.loop-step.step c.loop-step.here (Some c.in-Some.parent) (omega arith) (sym c.parent_of.ensures ∙ c.in-Some.is) _ c.loop-step.invariant

pub returns-in-None : goal.returns-in-None
returns-in-None c =
    depth_ended c.args.nodes.now (length c.args.nodes.now) c.loop-step.step c.loop-step.here None (omega arith) (sym c.parent_of.ensures ∙ c.in-None.is) _ refl c.loop-step.invariant

pub returns : goal.returns
returns c =
    let none = ap length (outward_over c.args.nodes.now (length c.args.nodes.now) c.loop-step.step (Some c.loop-step.here) (omega arith)) in
    omega (arith, none, c.loop-step.invariant)
