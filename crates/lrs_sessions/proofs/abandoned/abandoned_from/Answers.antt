use Rattle.lrs_made.specs.Lent.{seen_target}
use Rattle.lrs_made.specs.LrsPartsParts.{state_of}
use Rattle.lrs_sessions.proofs.Told.{abandoned_there}
use Rattle.lrs_sessions.proofs.abandoned.abandoned_from.Goals as goal

pub returns : goal.returns
returns c =
    abandoned_there (state_of c.args.parts.now) c.args.launch.now c.args.began (seen_target c.in-Some.found) c.lasted-ms.result _ c.in-Some.ensures.found c.lasted-ms.ensures c.in_ok-abandoned_statement.ensures
