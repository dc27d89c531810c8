use Rattle.std.proofs.Common.{◌≤◌, ◌∙◌, length, get_or, Some, sym, ap, subst, arith}
use Rattle.std.specs.Prelude.{nat_le}
use Rattle.std.specs.List.{list_all}
use Rattle.std.proofs.lemmas.List.{take_all}
use Rattle.cmi5_verdict.specs.Nodes.{depth_of}
use Rattle.cmi5_verdict.proofs.Depths.{outward_short, within_more}
use Rattle.cmi5_verdict.proofs.owing.deepest.Goals as goal

pub loop-index-preserved : goal.loop-index-preserved
loop-index-preserved c =
    let at = c.loop-index in
    let nodes = c.args.nodes.now in
    let index = get_or c.args.indices.now at.index-index 0 in
    record {
      within = c.larger-deepest.ensures.least (length nodes) at.invariant.within (subst (λ d. d ≤ length nodes) (sym c.depth_of.ensures) (outward_short nodes (length nodes) (Some index)));
      deepest = within_more nodes c.args.indices.now at.index-index at.deepest c.larger-deepest.result (omega arith) c.larger-deepest.ensures.first
          (subst (λ d. d ≤ c.larger-deepest.result) c.depth_of.ensures c.larger-deepest.ensures.second) at.invariant.deepest;
    }

pub returns-clause-deepest : goal.returns-clause-deepest
returns-clause-deepest c =
    let at = c.loop-index in
    sym (ap (λ ps. list_all (λ p. nat_le (depth_of c.args.nodes.now p) at.deepest) ps) (take_all at.index-index c.args.indices.now (omega arith))) ∙ at.invariant.deepest
