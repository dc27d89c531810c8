use Rattle.std.proofs.Common.{◌∙◌, ◌<◌, ◌^◌, length, refl, sym, subst, arith}
use Rattle.cmi5_running_verdicts.specs.Changes.{fails_untold, tally_of}
use Rattle.cmi5_running_verdicts.proofs.Fresh.{part_end, part_first, part_next}
use Rattle.cmi5_running_verdicts.proofs.counting.raise_each.Goals as goal

pub loop-index-init : goal.loop-index-init
loop-index-init c = record {
  long = refl;
  raised = λ holder lt none. part_first (fails_untold c.args.nodes.now holder) (length c.args.nodes.now) (tally_of c.args.tallies.now holder) none;
}

pub loop-index-preserved : goal.loop-index-preserved
loop-index-preserved c =
    let at = c.loop-index in
    let few : length c.args.nodes.now < 2 ^ 64 = omega arith in
    record {
      long = c.raise_over.ensures.long ∙ at.invariant.long;
      raised = λ holder lt none.
          part_next (fails_untold c.args.nodes.now holder) (length c.args.nodes.now) at.index (tally_of at.tallies holder) (tally_of c.raise_over.new.tallies holder) (omega arith) few
          (c.raise_over.ensures.raised holder (subst (λ n. holder < n) (sym at.invariant.long) lt)) (at.invariant.raised holder lt none);
    }

pub returns-clause-raised : goal.returns-clause-raised
returns-clause-raised c = λ holder lt none.
    let at = c.loop-index in
    part_end (fails_untold c.args.nodes.now holder) (length c.args.nodes.now) at.index (tally_of at.tallies holder) (omega arith) (at.invariant.raised holder lt none)
