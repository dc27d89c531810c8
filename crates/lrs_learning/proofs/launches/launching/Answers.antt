-- A unit that is there is launched, whoever asks.
use Rattle.std.proofs.Common.{sym}
use Rattle.lrs_learning.specs.Occasions.{occasion_at}
use Rattle.lrs_sessions.specs.LrsMadeLent.{seen_target}
use Rattle.lrs_sessions.specs.LrsHistoryLaunches.{target}
use Rattle.lrs_sessions.specs.LrsPartsParts.{state_of}
use Rattle.lrs_learning.proofs.Changes.{launched_is}
use Rattle.lrs_learning.proofs.launches.launching.Goals as goal

pub returns-in-Ok : goal.returns-in-Ok
returns-in-Ok c =
    let st = state_of c.args.parts.now in
    λ by. launched_is st (occasion_at st by c.args.moment c.args.draw.now) c.args.mode c.args.return_url (seen_target c.in-Some.found) (target st c.args.registration c.args.unit) c.launch_into.new.effect
    (sym c.in-Some.ensures.found) (c.in-Ok.ensures by)
