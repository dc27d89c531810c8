use Rattle.std.proofs.Common.{◌-◌, length}
use Rattle.lrs_http.proofs.reading.Search.finds_end.Given as goal

abbrev pub decreases-loop-self : goal.decreases-loop-self
decreases-loop-self l = length l.bytes - l.self.lead
