use Rattle.std.proofs.Common.{◌∙◌, ◌+◌, ◌++◌, ◌==◌, ◌∷◌, [], drop, get_or, ap, arith}
use Rattle.std.specs.Prelude.{if◌then◌else◌}
use Rattle.std.proofs.lemmas.List.{drop_all, drop_more}
use Rattle.cmi5_verdict.specs.Nodes.{depth_of}
use Rattle.cmi5_verdict.proofs.Marked.{kept_end, kept_next}
use Rattle.cmi5_verdict.proofs.owing.push_at.Goals as goal

pub loop-index-preserved : goal.loop-index-preserved
loop-index-preserved c =
    let at = c.loop-index in
    let indices = c.args.indices.now in
    kept_next (λ p. depth_of c.args.nodes.now p == c.args.depth) at.ordered.items c.push_if.new.list.items (drop at.index-index indices) (drop (at.index-index + 1) indices) _ (get_or indices at.index-index 0)
    (drop_more indices at.index-index 0 (omega arith))
    (c.in_ok-push_if.ensures ∙ ap (λ d. at.ordered.items ++ (if d == c.args.depth then get_or indices at.index-index 0 ∷ [] else [])) c.depth_of.ensures) at.invariant

pub returns : goal.returns
returns c =
    let at = c.loop-index in
    kept_end (λ p. depth_of c.args.nodes.now p == c.args.depth) at.ordered.items (drop at.index-index c.args.indices.now) _ (drop_all at.index-index c.args.indices.now (omega arith)) at.invariant
