use Rattle.std.proofs.Common.{◌≡◌, ◌∙◌, ◌<◌, length, Some, None, refl, sym, ap, subst, arith}
use Rattle.std.proofs.lemmas.List.{length-set}
use Rattle.cmi5_running_verdicts.specs.Changes.{moved, moved_if, tally_of}
use Rattle.cmi5_running_verdicts.proofs.Walks.{moved_at, moved_ended, moved_next, moved_over}
use Rattle.cmi5_verdict.proofs.Holders.{is_among, outward_first, outward_over}
use Rattle.cmi5_running_verdicts.proofs.holding.follow.Goals as goal

pub loop-init : goal.loop-init
loop-init c = record {
  long = refl;
  moved = λ holder lt. ap (λ ps. moved_if (is_among holder ps) c.args.is_met (tally_of c.args.tallies.now holder)) (outward_first c.args.nodes.now (length c.args.nodes.now) (Some c.args.index));
}

pub loop-preserved : goal.loop-preserved
loop-preserved c =
    let at = c.loop in
    let long : length c.move_at.new.tallies ≡ length at.tallies = ap length c.move_at.ensures ∙ length-set at.tallies at.here (moved c.args.is_met (tally_of at.tallies at.here)) in
    record {
      long = long ∙ at.invariant.long;
      moved = λ holder lt.
          moved_next c.args.nodes.now c.requires (length c.args.nodes.now) at.counter at.here (Some c.in-Some.parent) (omega arith) (sym c.parent_of.ensures ∙ c.in-Some.is)
          holder c.args.is_met (tally_of at.tallies holder) (tally_of c.move_at.new.tallies holder) _
          (ap (λ ts. tally_of ts holder) c.move_at.ensures ∙ moved_at at.tallies at.here holder c.args.is_met (subst (λ n. holder < n) (sym at.invariant.long) lt)) (at.invariant.moved holder lt);
    }

pub returns-in-None-clause-long : goal.returns-in-None-clause-long
returns-in-None-clause-long c = ap length c.move_at.ensures ∙ (length-set c.loop.tallies c.loop.here (moved c.args.is_met (tally_of c.loop.tallies c.loop.here)) ∙ c.loop.invariant.long)

pub returns-in-None-clause-moved : goal.returns-in-None-clause-moved
returns-in-None-clause-moved c = λ holder lt.
    moved_ended c.args.nodes.now c.requires (length c.args.nodes.now) c.loop.counter c.loop.here None (omega arith) (sym c.parent_of.ensures ∙ c.in-None.is)
    holder c.args.is_met (tally_of c.loop.tallies holder) (tally_of c.move_at.new.tallies holder) _ refl
    (ap (λ ts. tally_of ts holder) c.move_at.ensures ∙ moved_at c.loop.tallies c.loop.here holder c.args.is_met (subst (λ n. holder < n) (sym c.loop.invariant.long) lt)) (c.loop.invariant.moved holder lt)

pub returns-clause-moved : goal.returns-clause-moved
returns-clause-moved c = λ holder lt.
    moved_over holder c.args.is_met _ (tally_of c.loop.tallies holder) _ (outward_over c.args.nodes.now (length c.args.nodes.now) c.loop.counter (Some c.loop.here) (omega arith)) (c.loop.invariant.moved holder lt)
