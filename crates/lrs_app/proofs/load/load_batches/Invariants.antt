use Rattle.std.proofs.Common.{◌≡◌, ◌+◌}
use Rattle.lrs_generator.specs.Generated.{batch_count}
use Rattle.lrs_app.specs.LoadSteps.{LoadsSoFar}
use Rattle.lrs_app.specs.Service.{doors}
use Rattle.lrs_app.proofs.load.load_batches.Given as goal

abbrev pub invariant-loop-left : goal.invariant-loop-left
invariant-loop-left g l = record {
  seed : l.generator.seed ≡ l.fn.seed;
  count : l.generator.count ≡ l.fn.count;
  whole : l.generator.taken + l.left ≡ batch_count l.fn.count;
  so_far : LoadsSoFar g.D.Disk l.fn.seed l.fn.count l.fn.desk l.desk l.fn.draws l.draws (g.B.Lobby.readings l.fn.lobby) (g.B.Lobby.readings l.lobby)
      l.generator.taken l.left;
  spared : doors g.B.Lobby l.lobby ≡ doors g.B.Lobby l.fn.lobby;
}

abbrev pub decreases-loop-left : goal.decreases-loop-left
decreases-loop-left g l = l.left
