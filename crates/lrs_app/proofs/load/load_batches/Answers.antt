use Rattle.std.proofs.Common.{◌<◌, ◌-◌, ◌^◌, ◌∙◌, arith, refl, subst, sym}
use Rattle.lrs_generator.specs.Generated.{batch_count}
use Rattle.lrs_app.specs.LoadSteps.{LoadsSoFar}
use Rattle.lrs_app.proofs.Loading.{from_first, in_front, next_ends, next_takes, one_less, one_more, so_far_all, so_far_ends, so_far_next, so_far_none}
use Rattle.lrs_app.proofs.load.load_batches.Goals as goal

pub loop-left-init : goal.loop-left-init
loop-left-init g c =
    let of = c.generator_of-generator in
    record {
      seed = of.ensures.seed.0;
      count = of.ensures.count.0;
      whole = from_first of.result.taken c.batches_of-left.result (batch_count c.args.count) of.ensures.first c.batches_of-left.ensures;
      so_far = so_far_none g.D.Disk c.args.seed c.args.count c.args.desk.now c.args.draws.now (g.B.Lobby.readings c.args.lobby.now) of.result.taken c.batches_of-left.result
          c.requires.settled of.ensures.first c.batches_of-left.ensures;
      spared = refl;
    }

pub load_next-requires-clause-settled : goal.load_next-requires-clause-settled
load_next-requires-clause-settled g c κs within = c.loop-left.invariant.so_far.settled

pub load_next-requires-clause-left : goal.load_next-requires-clause-left
load_next-requires-clause-left g c κs within =
    let at = c.loop-left in
    let so = at.invariant in
    subst (λ n. at.generator.taken < batch_count n) (sym so.count)
    (in_front at.generator.taken at.left (batch_count c.args.count) so.whole (omega (arith, c.loop-left-test.true)))

pub load_next-requires-clause-seed : goal.load_next-requires-clause-seed
load_next-requires-clause-seed g c κs within = subst (λ s. s < 2 ^ 64) (sym c.loop-left.invariant.seed) c.generator_of-generator.ensures.seed.1

pub load_next-requires-clause-count : goal.load_next-requires-clause-count
load_next-requires-clause-count g c κs within = subst (λ n. n < 2 ^ 32) (sym c.loop-left.invariant.count) c.generator_of-generator.ensures.count.1

pub loop-left-preserved : goal.loop-left-preserved
loop-left-preserved g c =
    let at = c.loop-left in
    let so = at.invariant in
    let moved = c.in-Ok.ensures.moved in
    let next = c.load_next.new in
    let before = g.B.Lobby.readings c.args.lobby.now in
    let between = g.B.Lobby.readings at.lobby in
    let now = g.B.Lobby.readings next.lobby in
    record {
      seed = moved.0 ∙ so.seed;
      count = moved.1 ∙ so.count;
      whole = one_more at.generator.taken next.generator.taken at.left (batch_count c.args.count) so.whole (omega (arith, c.loop-left-test.true)) moved.2;
      so_far = subst (λ i. LoadsSoFar g.D.Disk c.args.seed c.args.count c.args.desk.now next.desk c.args.draws.now next.draws before now i (at.left - 1)) (sym moved.2)
          (so_far_next g.D.Disk c.args.seed c.args.count c.args.desk.now c.args.draws.now before at.desk at.draws between at.generator.taken at.left so.so_far next.desk next.draws now (at.left - 1)
          (one_less at.left (omega (arith, c.loop-left-test.true)))
          (next_takes g.D.Disk at.generator.seed c.args.seed at.generator.count c.args.count at.generator.taken at.desk next.desk at.draws between now so.seed so.count next.draws c.in-Ok.ensures.next));
      spared = c.load_next.ensures.doors ∙ so.spared;
    }

pub returns-in-Err-clause-loaded : goal.returns-in-Err-clause-loaded
returns-in-Err-clause-loaded g c =
    let at = c.loop-left in
    let so = at.invariant in
    let next = c.load_next.new in
    let before = g.B.Lobby.readings c.args.lobby.now in
    let between = g.B.Lobby.readings at.lobby in
    let now = g.B.Lobby.readings next.lobby in
    so_far_ends g.D.Disk c.args.seed c.args.count c.args.desk.now c.args.draws.now before at.desk at.draws between at.generator.taken at.left so.so_far next.desk now c.in-Err.ending (at.left - 1)
    (one_less at.left (omega (arith, c.loop-left-test.true)))
    (next_ends g.D.Disk at.generator.seed c.args.seed at.generator.count c.args.count at.generator.taken at.desk next.desk at.draws between now so.seed so.count c.in-Err.ending c.in-Err.ensures.next)

pub returns-in-Err-clause-doors : goal.returns-in-Err-clause-doors
returns-in-Err-clause-doors g c = c.load_next.ensures.doors ∙ c.loop-left.invariant.spared

pub returns-clause-loaded : goal.returns-clause-loaded
returns-clause-loaded g c =
    let at = c.loop-left in
    let so = at.invariant in
    so_far_all g.D.Disk c.args.seed c.args.count c.args.desk.now c.args.draws.now (g.B.Lobby.readings c.args.lobby.now) at.desk at.draws (g.B.Lobby.readings at.lobby) at.generator.taken at.left so.so_far
    c.listed.result (omega (arith, c.loop-left-test.false)) c.listed.ensures

pub returns-clause-doors : goal.returns-clause-doors
returns-clause-doors g c = c.loop-left.invariant.spared
