use Rattle.std.proofs.Common.{◌≡◌, ◌∙◌, sym}
use Rattle.std.proofs.lemmas.Result.{IfOk-weaker}
use Rattle.lrs_command.specs.declared.who.Who.{Who}
use Rattle.lrs_sessions.specs.LrsHistoryDeskEffects.{waiving, waiving_as}
use Rattle.lrs_sessions.specs.LrsHistoryLaunches.{target}
use Rattle.lrs_sessions.specs.LrsHistoryMade.{waived_at}
use Rattle.lrs_ids.specs.Ids.{rest_of}
use Rattle.lrs_learning.proofs.Changes.{waiver_is}
use Rattle.lrs_learning.specs.Occasions.{occasion_at, supply_at}
use Rattle.lrs_sessions.specs.LrsMadeLent.{seen_target}
use Rattle.lrs_sessions.specs.LrsPartsParts.{state_of}
use Rattle.lrs_learning.proofs.waivers.waiving.Goals as goal

pub is_waived-requires : goal.is_waived-requires
is_waived-requires c = c.in-Some.ensures.lent

pub returns : goal.returns
returns c =
    let st = state_of c.args.parts.now in
    let t = seen_target c.in-Some.found in
    let o = target st c.args.registration c.args.unit in
    let supply = supply_at st c.args.draw.now in
    IfOk-weaker c.waiving_as.result
    (λ made. (by : Who) → made ≡ waiving_as st (occasion_at st by c.args.moment c.args.draw.now) t (waived_at t c.args.reason (supply 0) (rest_of supply) c.args.moment))
    (λ made. (by : Who) → made ≡ waiving st (occasion_at st by c.args.moment c.args.draw.now) c.args.reason o)
    (λ made known. λ by. known by ∙ waiver_is st (occasion_at st by c.args.moment c.args.draw.now) c.args.reason t o (sym c.in-Some.ensures.found)
    (sym c.in_ok-already.ensures ∙ c.if-already.false)) c.waiving_as.ensures
