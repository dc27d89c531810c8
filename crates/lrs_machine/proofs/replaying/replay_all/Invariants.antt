use Rattle.std.proofs.Common.{◌≡◌, length, Some}
use Rattle.std.specs.Option.{ForSome}
use Rattle.lrs_disk.specs.Disk.{LeavesOnly}
use Rattle.lrs_machine.specs.Fold.{state_of}
use Rattle.lrs_machine.specs.Replays.{HasReadEntries, IsReplayed}
use Rattle.lrs_machine.proofs.replaying.replay_all.Given as goal

abbrev pub invariant-loop-k : goal.invariant-loop-k
invariant-loop-k g l = record {
  still : g.D.Disk.told l.replay.disk ≡ g.D.Disk.told l.fn.replay.disk;
  limit : l.replay.limit ≡ l.fn.replay.limit;
  count : g.D.Disk.fault_count l.replay.disk ≡ g.D.Disk.fault_count l.fn.replay.disk;
  long : length l.opening.items ≡ l.k;
  replayed : IsReplayed l.replay (state_of l.fold) l.opening.items;
  read : ForSome (g.D.Disk.told l.replay.disk) (λ bytes. HasReadEntries bytes l.replay l.opening.items);
  leaves : LeavesOnly g.D.Disk.time g.D.Disk.image_since l.fn.replay.disk l.replay.disk (λ bytes. g.D.Disk.told l.fn.replay.disk ≡ Some bytes);
}
