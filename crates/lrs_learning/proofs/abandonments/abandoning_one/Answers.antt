use Rattle.std.proofs.Common.{◌≡◌, ◌++◌, ◌∷◌, [], ◌∙◌, ap, sym}
use Rattle.std.proofs.lemmas.Result.{IfOk-weaker}
use Rattle.lrs_command.specs.declared.who.Who.{Who}
use Rattle.lrs_sessions.specs.LrsHistoryDeskEffects.{abandoning_each, abandoning_one}
use Rattle.lrs_learning.proofs.Changes.{one_is}
use Rattle.lrs_learning.specs.Occasions.{occasion_at}
use Rattle.lrs_sessions.specs.LrsStateLaunches.{index_of_session}
use Rattle.lrs_sessions.specs.LrsPartsParts.{SeenParts, state_of}
use Rattle.lrs_learning.proofs.abandonments.abandoning_one.Goals as goal

pub returns : goal.returns
returns c =
    let st = state_of c.args.parts.now in
    let o = index_of_session c.args.session st.launches in
    IfOk-weaker c.abandoning_each.result
    (λ made. (by : Who) → made ≡ abandoning_each st (occasion_at st by c.args.moment c.args.draw.now) c.push.new.self.items)
    (λ made. (by : Who) → made ≡ abandoning_one st (occasion_at st by c.args.moment c.args.draw.now) o)
    (λ made known. λ by. known by ∙ one_is st (occasion_at st by c.args.moment c.args.draw.now) c.push.new.self.items c.in-Some.number o
    (c.in_ok-push.ensures.items ∙ ap (λ xs. xs ++ c.in-Some.number ∷ []) c.new-numbers.ensures.items) (ap (λ (parts : SeenParts). index_of_session c.args.session parts.learning.launches.held) (sym c.parts.view_is) ∙ (sym c.index_of.ensures ∙ c.in-Some.is))
    (sym c.is_open.ensures ∙ c.if-not-is_open.false)) c.abandoning_each.ensures
