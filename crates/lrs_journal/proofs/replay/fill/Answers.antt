use Rattle.lrs_journal.proofs.Untouched.{untouched_read}
use Rattle.lrs_journal.proofs.replay.fill.Goals as goal

pub returns-in_err-number-clause-untouched : goal.returns-in_err-number-clause-untouched
returns-in_err-number-clause-untouched g c =
    untouched_read g.D.Disk.told g.D.Disk.image g.D.Disk.time g.D.Disk.image_since g.met.D.Disk.counts_now g.met.D.Disk.only_now c.args.disk.now c.read_at.new.self
    c.read_at.ensures.still c.read_at.ensures.time c.read_at.ensures.crash

pub returns-clause-untouched : goal.returns-clause-untouched
returns-clause-untouched g c =
    untouched_read g.D.Disk.told g.D.Disk.image g.D.Disk.time g.D.Disk.image_since g.met.D.Disk.counts_now g.met.D.Disk.only_now c.args.disk.now c.read_at.new.self
    c.read_at.ensures.still c.read_at.ensures.time c.read_at.ensures.crash
