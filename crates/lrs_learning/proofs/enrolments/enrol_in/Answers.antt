use Rattle.std.proofs.Common.{◌≡◌, Some, ◌∙◌}
use Rattle.std.proofs.lemmas.Result.{IfOk-weaker}
use Rattle.lrs_command.specs.declared.who.Who.{Who}
use Rattle.lrs_sessions.specs.LrsHistoryDeskEffects.{enrolling}
use Rattle.lrs_ids.specs.IdSupply.{left_of}
use Rattle.lrs_learning.proofs.Changes.{enrolled_is, enrolled_under, registered}
use Rattle.lrs_learning.specs.Occasions.{occasion_at}
use Rattle.lrs_sessions.specs.LrsPartsParts.{state_of}
use Rattle.lrs_sessions.specs.LrsStateState.{used_in}
use Rattle.lrs_learning.proofs.enrolments.enrol_in.Goals as goal

pub returns-in-Ok : goal.returns-in-Ok
returns-in-Ok c =
    let st = state_of c.args.parts.now in
    let ids = c.in-Ok.ids in
    let s = left_of (used_in st) ids.left in
    IfOk-weaker c.enrol_as.result (λ made. made ≡ enrolled_under st c.args.moment (registered ids.first c.args.edition c.args.actor) ids.second s)
    (λ made. (by : Who) → made ≡ enrolling st (occasion_at st by c.args.moment c.args.draw.now) c.args.actor (Some c.args.edition))
    (λ made is. λ by. is ∙ enrolled_is st by c.args.moment c.args.draw.now c.args.edition c.args.actor ids.first ids.second s
    c.in-Ok.ensures.first c.in-Ok.ensures.second c.in-Ok.ensures.left) c.enrol_as.ensures
