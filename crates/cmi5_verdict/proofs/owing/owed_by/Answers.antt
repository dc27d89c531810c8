use Rattle.std.proofs.Common.{◌∙◌, ◌+◌, ◌-◌, ◌++◌, ◌∷◌, [], length, ap, arith}
use Rattle.std.specs.List.{range_with_len}
use Rattle.std.specs.Prelude.{if◌then◌else◌}
use Rattle.cmi5_verdict.specs.Marks.{is_owed_by}
use Rattle.cmi5_verdict.proofs.Marked.{kept_end, kept_first, kept_next, range_on, range_over}
use Rattle.cmi5_verdict.proofs.owing.owed_by.Goals as goal

pub loop-index-init : goal.loop-index-init
loop-index-init c = kept_first (is_owed_by c.args.nodes.now c.args.satisfied.now c.args.said.now) c.new-found.result.items (length c.args.nodes.now) c.new-found.ensures.items

pub loop-index-preserved : goal.loop-index-preserved
loop-index-preserved c =
    let at = c.loop-index in
    let test = is_owed_by c.args.nodes.now c.args.satisfied.now c.args.said.now in
    kept_next test at.found.items c.push_if.new.list.items (range_with_len at.index (length c.args.nodes.now - at.index)) (range_with_len (at.index + 1) (length c.args.nodes.now - (at.index + 1))) _ at.index
    (range_on (length c.args.nodes.now) at.index (omega arith)) (c.in_ok-push_if.ensures ∙ ap (λ b. at.found.items ++ (if b then at.index ∷ [] else [])) c.is_owed_by.ensures) at.invariant

pub returns : goal.returns
returns c =
    let at = c.loop-index in
    kept_end (is_owed_by c.args.nodes.now c.args.satisfied.now c.args.said.now) at.found.items (range_with_len at.index (length c.args.nodes.now - at.index)) _
    (range_over (length c.args.nodes.now) at.index (omega arith)) at.invariant
