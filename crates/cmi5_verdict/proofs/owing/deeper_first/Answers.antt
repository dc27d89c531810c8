use Rattle.std.proofs.Common.{◌∙◌, length, sym, arith}
use Rattle.cmi5_verdict.proofs.Depths.{from_deepest, from_end, from_first, from_on}
use Rattle.cmi5_verdict.proofs.owing.deeper_first.Goals as goal

pub loop-less-init : goal.loop-less-init
loop-less-init c = from_first c.args.nodes.now c.args.indices.now c.in_ok-ordered.ordered.items c.deepest-deepest.result c.in_ok-ordered.ensures.items

pub loop-less-preserved : goal.loop-less-preserved
loop-less-preserved c =
    let at = c.loop-less in
    from_on c.args.nodes.now c.args.indices.now at.ordered.items c.push_at.new.ordered.items _ c.deepest-deepest.result at.less (omega arith) c.in_ok-push_at.ensures at.invariant

pub returns : goal.returns
returns c =
    let at = c.loop-less in
    from_end c.args.nodes.now c.args.indices.now at.ordered.items c.deepest-deepest.result at.less (omega arith) at.invariant
    ∙ sym (from_deepest c.args.nodes.now c.args.indices.now c.deepest-deepest.result (length c.args.nodes.now) c.deepest-deepest.ensures.within c.deepest-deepest.ensures.deepest)
