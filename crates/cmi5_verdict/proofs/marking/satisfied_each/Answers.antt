use Rattle.std.proofs.Common.{◌∙◌, length}
use Rattle.std.proofs.lemmas.List.{with_items_is}
use Rattle.cmi5_verdict.specs.Marks.{is_satisfied_by}
use Rattle.cmi5_verdict.proofs.Whole.{made_from_all}
use Rattle.cmi5_verdict.proofs.marking.satisfied_each.Goals as goal

pub returns : goal.returns
returns c =
    with_items_is c.in_ok-satisfied.satisfied c.clear_each.new.satisfied (c.clear_each.ensures.long ∙ c.as_mut_slice.ensures.len)
    ∙ made_from_all (length c.args.nodes.now) c.as_mut_slice.result.now c.clear_each.new.satisfied (is_satisfied_by c.args.nodes.now c.args.said.now) (c.as_mut_slice.ensures.value ∙ c.in_ok-satisfied.ensures)
    c.clear_each.ensures.long c.clear_each.ensures.cleared
