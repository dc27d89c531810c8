use Rattle.lrs_journal.proofs.Creating.{shut_none}
use Rattle.lrs_journal.proofs.builder.Builder.into_disk.Goals as goal

pub returns-clause-images : goal.returns-clause-images
returns-clause-images g c bytes left = shut_none bytes (c.self.invariant.shut bytes left)
