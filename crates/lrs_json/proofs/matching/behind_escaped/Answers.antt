use Rattle.std.proofs.Common.{sym, ap, ◌∙◌}
use Rattle.std.specs.List.{flat_map}
use Rattle.lrs_json.specs.Behind.{left_behind}
use Rattle.lrs_json.specs.Written.{escaped}
use Rattle.lrs_json.proofs.Behind.{behind_nothing, empty_at}
use Rattle.lrs_json.proofs.matching.behind_escaped.Goals as goal

pub returns : goal.returns
returns c =
    let left = c.loop-unmatched.left.now in
    sym (ap (λ z. left_behind (flat_map escaped z) left) (empty_at c.loop-unmatched.unmatched.now _ c.is_empty.ensures c.loop-unmatched-test.false) ∙ behind_nothing left) ∙ c.loop-unmatched.invariant
