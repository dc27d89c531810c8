use Rattle.std.proofs.Common.{subst}
use Rattle.xapi_search.specs.Sought.{SeenAscends}
use Rattle.xapi_search.specs.declared.sought.Seen.{Seen}
use Rattle.xapi_search.proofs.Leaps.{all_seen, nothing_seen, these_seen}
use Rattle.xapi_search.proofs.direct.leap_seen.Goals as goal

pub returns-in-Nothing : goal.returns-in-Nothing
returns-in-Nothing c = nothing_seen c.args.seen c.args.from c.in-Nothing.is

pub returns-in-All : goal.returns-in-All
returns-in-All c = all_seen c.args.seen c.args.from c.in-All.is

pub first_from-requires : goal.first_from-requires
first_from-requires c = subst (λ (seen : Seen). SeenAscends seen) c.in-These.is c.requires

pub returns-in-These : goal.returns-in-These
returns-in-These c = these_seen c.args.seen c.in-These.list c.args.from c.first_from.result c.in-These.is c.first_from.ensures
