use Rattle.std.proofs.Common.{subst}
use Rattle.lrs_machine.specs.Desk.{IsOnDisk}
use Rattle.lrs_machine.specs.Fold.{state_of}
use Rattle.lrs_machine.specs.Origin.{IsOfOrigin}
use Rattle.lrs_machine.proofs.Tied.{on_disk}
use Rattle.lrs_machine.proofs.desk.Desk.records.Goals as goal

pub returns-clause-durable : goal.returns-clause-durable
returns-clause-durable g c =
    let i = c.self.inside in
    subst (IsOnDisk g.D.Disk.told g.D.Disk.image g.D.Disk.time g.D.Disk.image_since) c.self.view_is
    (on_disk g.D.Disk.told g.D.Disk.image g.D.Disk.time g.D.Disk.image_since g.met.D.Disk.only_now g.met.D.Disk.tells i.journal (state_of i.fold) i.fold.parts i.opened_at i.opened _ i.opening.items i.acts.items
    c.self.invariant.0 c.self.invariant.1.0 c.self.invariant.1.1)

pub returns-clause-origin : goal.returns-clause-origin
returns-clause-origin g c = subst (IsOfOrigin g.D.Disk.told g.D.Disk.time g.D.Disk.image_since) c.self.view_is c.self.invariant.3
