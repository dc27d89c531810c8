use Rattle.std.proofs.Common.{◌≡◌, length}
use Rattle.lrs_machine.specs.Fold.{state_of}
use Rattle.lrs_machine.specs.Migrating.{Advances, IsMoving}
use Rattle.lrs_machine.proofs.migrating.move_all.Given as goal

abbrev pub invariant-loop-k : goal.invariant-loop-k
invariant-loop-k g l = record {
  count : g.D.Disk.fault_count l.replay.disk ≡ g.D.Disk.fault_count l.fn.replay.disk;
  count_new : g.D.Disk.fault_count l.builder.disk ≡ g.D.Disk.fault_count l.fn.builder.disk;
  long : length l.opening.items ≡ l.k;
  moving : IsMoving g.D.Disk.told l.replay l.builder (state_of l.fold) l.opening.items;
  advances : Advances g.D.Disk.told g.D.Disk.time g.D.Disk.image_since l.fn.replay l.fn.builder l.replay l.builder;
}
