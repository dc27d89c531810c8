use Rattle.lrs_hall.proofs.Once.{keeps_promises}
use Rattle.lrs_hall.proofs.laws.law_of_receipts.Goals as goal

pub returns : goal.returns
returns g c = keeps_promises (g.D.Disk.time c.args.disk.now) (g.D.Disk.image_since c.args.disk.now) (λ t u bytes le left. g.met.D.Disk.since_later c.args.disk.now t u bytes le left)
