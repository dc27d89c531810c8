use Rattle.std.proofs.Common.{subst}
use Rattle.lrs_journal.specs.Journal.{IsJournal}
use Rattle.lrs_journal.proofs.Kept.{sound_journal}
use Rattle.lrs_journal.proofs.journal.Journal.length.Goals as goal

pub returns-clause-sound : goal.returns-clause-sound
returns-clause-sound g c =
    let i = c.self.inside in
    subst (IsJournal g.D.Disk.told g.D.Disk.image) c.self.view_is (sound_journal g.D.Disk.told g.D.Disk.image g.met.D.Disk.reads_image i.disk i.limit i.gate i.number i.doubt c.self.invariant)
