use Rattle.std.proofs.Common.{◌≡◌, ◌∙◌, ap, sym}
use Rattle.std.proofs.lemmas.Result.{IfOk-weaker}
use Rattle.std.specs.Option.{option_copied}
use Rattle.lrs_command.specs.declared.who.Who.{Who}
use Rattle.lrs_learning.proofs.Changes.{given_is}
use Rattle.lrs_learning.specs.Occasions.{occasion_at}
use Rattle.lrs_sessions.specs.LrsHistoryDeskEffects.{fetching, giving}
use Rattle.lrs_sessions.specs.LrsStateLaunches.{key_under}
use Rattle.lrs_sessions.specs.LrsPartsParts.{SeenParts, state_of}
use Rattle.lrs_learning.proofs.fetches.fetching.Goals as goal

pub returns : goal.returns
returns c =
    let st = state_of c.args.parts.now in
    IfOk-weaker c.giving.result (λ made. (by : Who) → made ≡ giving (occasion_at st by c.args.moment c.args.draw.now) c.in-Some.held.now)
    (λ made. (by : Who) → made ≡ fetching st (occasion_at st by c.args.moment c.args.draw.now) (key_under c.args.key st.keys))
    (λ made known. λ by. known by ∙ given_is st (occasion_at st by c.args.moment c.args.draw.now) c.in-Some.held.now (key_under c.args.key st.keys)
    (ap (λ (parts : SeenParts). key_under c.args.key parts.learning.keys.held) (sym c.parts.view_is) ∙ (sym c.find.ensures ∙ ap option_copied c.in-Some.is)) c.if-held.false (sym c.is_closed.ensures ∙ c.if-is_closed.false)) c.giving.ensures
