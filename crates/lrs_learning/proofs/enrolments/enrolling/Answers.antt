use Rattle.std.proofs.Common.{◌≡◌, ℕ, List, Some, ◌∙◌, ap, sym}
use Rattle.std.proofs.lemmas.Result.{IfOk-weaker}
use Rattle.lrs_command.specs.declared.who.Who.{Who}
use Rattle.lrs_sessions.specs.LrsHistoryDeskEffects.{enrolling}
use Rattle.lrs_learning.specs.Occasions.{occasion_at}
use Rattle.lrs_sessions.specs.LrsStateCourses.{index_meant}
use Rattle.lrs_sessions.specs.LrsPartsParts.{SeenParts, state_of}
use Rattle.lrs_learning.proofs.enrolments.enrolling.Goals as goal

pub returns-in-Ok-Some : goal.returns-in-Ok-Some
returns-in-Ok-Some c =
    let st = state_of c.args.parts.now in
    IfOk-weaker c.enrol_in.result
    (λ made. (by : Who) → made ≡ enrolling st (occasion_at st by c.args.moment c.args.draw.now) c.of.result (Some c.in-Ok-Some.index))
    (λ made. (by : Who) → made ≡ enrolling st (occasion_at st by c.args.moment c.args.draw.now) c.args.actor (index_meant c.args.course c.args.edition st.courses st.editions))
    (λ made known. λ by. known by ∙ (ap (λ a. enrolling st (occasion_at st by c.args.moment c.args.draw.now) a (Some c.in-Ok-Some.index)) c.of.ensures
    ∙ ap (λ o. enrolling st (occasion_at st by c.args.moment c.args.draw.now) c.args.actor o) (sym c.in-Ok-Some.field-0-is ∙ (c.in-Ok-Some.ensures
    ∙ (ap (λ (parts : SeenParts). index_meant c.text.result.now c.args.edition parts.learning.courses.held parts.learning.editions.held) c.parts.view_is
    ∙ ap (λ (id : List ℕ). index_meant id c.args.edition st.courses st.editions) c.text.ensures.lent))))) c.enrol_in.ensures
