use Rattle.std.proofs.Common.{ap, sym, subst}
use Rattle.lrs_journal.specs.Journal.{Journal, IsJournal, Stores}
use Rattle.lrs_journal.proofs.Kept.{sound_journal, stored}
use Rattle.lrs_journal.proofs.journal.Journal.into_disk.Goals as goal

pub returns-clause-stored : goal.returns-clause-stored
returns-clause-stored g c none x is =
    let i = c.self.inside in
    let sound = subst (IsJournal g.D.Disk.told g.D.Disk.image) c.self.view_is (sound_journal g.D.Disk.told g.D.Disk.image g.met.D.Disk.reads_image i.disk i.limit i.gate i.number i.doubt c.self.invariant) in
    subst (λ d. Stores g.D.Disk.told d c.args.self.limit x) (sym (ap (λ (h : Journal _). h.disk) c.self.view_is)) (stored g.D.Disk.told g.D.Disk.image c.args.self sound none x is)

pub returns-clause-images : goal.returns-clause-images
returns-clause-images g c x is bytes left =
    let i = c.self.inside in
    let sound = subst (IsJournal g.D.Disk.told g.D.Disk.image) c.self.view_is (sound_journal g.D.Disk.told g.D.Disk.image g.met.D.Disk.reads_image i.disk i.limit i.gate i.number i.doubt c.self.invariant) in
    (sound.holds x is).each bytes (subst (λ d. g.D.Disk.image d bytes) (ap (λ (h : Journal _). h.disk) c.self.view_is) left)
