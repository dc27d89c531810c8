use Rattle.std.proofs.Common.{◌≡◌, ◌∙◌, ◌<◌, ◌&&◌, length, not, false, Some, None, refl, sym, ap, subst, arith}
use Rattle.std.proofs.lemmas.List.{length-set}
use Rattle.cmi5_verdict.specs.Marks.{is_marked}
use Rattle.cmi5_verdict.proofs.Holders.{is_among, left_ended, left_next, left_over, outward_first, outward_over}
use Rattle.cmi5_verdict.proofs.Marked.{left}
use Rattle.cmi5_verdict.proofs.marking.clear_holders.Goals as goal

pub loop-init : goal.loop-init
loop-init c = record {
  long = refl;
  left = λ holder lt. ap (λ ps. is_marked c.args.satisfied.now holder && not (is_among holder ps)) (outward_first c.args.nodes.now (length c.args.nodes.now) (Some c.args.index));
}

pub loop-preserved : goal.loop-preserved
loop-preserved c =
    let at = c.loop in
    let long : length c.clear.new.marks ≡ length at.satisfied = ap length c.clear.ensures ∙ length-set at.satisfied at.here false in
    record {
      long = long ∙ at.invariant.long;
      left = λ holder lt.
          left_next c.args.nodes.now (length c.args.nodes.now) at.counter at.here (Some c.in-Some.parent) (omega arith) (sym c.parent_of.ensures ∙ c.in-Some.is)
          holder (is_marked at.satisfied holder) (is_marked c.clear.new.marks holder) _
          (ap (λ ms. is_marked ms holder) c.clear.ensures ∙ left at.satisfied at.here holder (subst (λ n. holder < n) (sym at.invariant.long) lt)) (at.invariant.left holder lt);
    }

pub returns-in-None-clause-long : goal.returns-in-None-clause-long
returns-in-None-clause-long c = ap length c.clear.ensures ∙ (length-set c.loop.satisfied c.loop.here false ∙ c.loop.invariant.long)

pub returns-in-None-clause-cleared : goal.returns-in-None-clause-cleared
returns-in-None-clause-cleared c = λ holder lt.
    left_ended c.args.nodes.now (length c.args.nodes.now) c.loop.counter c.loop.here None (omega arith) (sym c.parent_of.ensures ∙ c.in-None.is)
    holder (is_marked c.loop.satisfied holder) (is_marked c.clear.new.marks holder) _ refl
    (ap (λ ms. is_marked ms holder) c.clear.ensures ∙ left c.loop.satisfied c.loop.here holder (subst (λ n. holder < n) (sym c.loop.invariant.long) lt)) (c.loop.invariant.left holder lt)

pub returns-clause-cleared : goal.returns-clause-cleared
returns-clause-cleared c = λ holder lt.
    left_over holder _ (is_marked c.loop.satisfied holder) _ (outward_over c.args.nodes.now (length c.args.nodes.now) c.loop.counter (Some c.loop.here) (omega arith)) (c.loop.invariant.left holder lt)
