use Rattle.std.proofs.Common.{arith}
use Rattle.jiff_core.proofs.SignedLemmas.{signed_arith}
use Rattle.lrs_time.proofs.MomentLemmas.{year_from_epoch}
use Rattle.lrs_time.proofs.moments.date_of.Goals as goal

pub returns-clause-year : goal.returns-clause-year
returns-clause-year c = year_from_epoch c.from_days_since_min.result (omega (arith, signed_arith, c.from_days_since_min.ensures))
