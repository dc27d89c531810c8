use Rattle.std.proofs.Common.{◌∙◌, ap}
use Rattle.lrs_sessions.specs.LrsHistoryEndings.{sessions_at}
use Rattle.lrs_learning.proofs.Changes.{swept_is}
use Rattle.lrs_learning.specs.Occasions.{occasion_at}
use Rattle.lrs_sessions.specs.LrsPartsParts.{state_of}
use Rattle.lrs_learning.proofs.abandonments.sweeping.Goals as goal

pub returns : goal.returns
returns c =
    let st = state_of c.args.parts.now in
    λ by. swept_is st (occasion_at st by c.args.moment c.args.draw.now) c.args.idle c.in_ok-numbers.numbers.items c.in_ok-sessions.sessions.items c.from_vec.result c.in_ok-effect.effect
    (c.in_ok-effect.ensures by) c.in_ok-numbers.ensures (c.in_ok-sessions.ensures ∙ ap (sessions_at st) c.as_slice.ensures.value) c.from_vec.ensures
