use Rattle.std.proofs.Common.{◌∙◌, ◌<◌, ◌&&◌, length, refl, sym, ap, subst, arith}
use Rattle.std.specs.List.{list_all}
use Rattle.cmi5_verdict.specs.Marks.{is_marked, is_met_or_elsewhere}
use Rattle.cmi5_verdict.proofs.Marked.{passed_end, passed_next, range_first}
use Rattle.cmi5_verdict.proofs.marking.clear_each.Goals as goal

pub loop-index-init : goal.loop-index-init
loop-index-init c = record {
  long = refl;
  passed = λ holder lt. ap (λ ps. is_marked c.args.satisfied.now holder && list_all (is_met_or_elsewhere c.args.nodes.now c.args.said.now holder) ps) (range_first (length c.args.nodes.now));
}

pub loop-index-preserved : goal.loop-index-preserved
loop-index-preserved c =
    let at = c.loop-index in
    record {
      long = c.clear_over.ensures.long ∙ at.invariant.long;
      passed = λ holder lt.
          passed_next (is_met_or_elsewhere c.args.nodes.now c.args.said.now holder) (length c.args.nodes.now) at.index (is_marked at.satisfied holder) (is_marked c.clear_over.new.satisfied holder) _ (omega arith)
          (c.clear_over.ensures.cleared holder (subst (λ n. holder < n) (sym at.invariant.long) lt)) (at.invariant.passed holder lt);
    }

pub returns-clause-cleared : goal.returns-clause-cleared
returns-clause-cleared c = λ holder lt.
    passed_end (is_met_or_elsewhere c.args.nodes.now c.args.said.now holder) (length c.args.nodes.now) c.loop-index.index (is_marked c.loop-index.satisfied holder) _ (omega arith) (c.loop-index.invariant.passed holder lt)
