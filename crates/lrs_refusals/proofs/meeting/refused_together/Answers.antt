use Rattle.std.proofs.Common.{refl, sym, ap, ◌∙◌}
use Rattle.std.proofs.lemmas.Result.{IfOk-weaker}
use Rattle.std.specs.Option.{option_copied}
use Rattle.lrs_refusals.proofs.Together.{each_refused, session_refused}
use Rattle.lrs_refusals.specs.Meeting.{occasion_of}
use Rattle.lrs_made.specs.LrsHistoryOccasions.{supply_in}
use Rattle.lrs_made.specs.LrsPartsParts.{state_of}
use Rattle.lrs_record.specs.declared.entry.Write.TheVariants.{Post}
use Rattle.lrs_refusals.proofs.meeting.refused_together.Goals as goal

pub returns-in-Some-clause-refused : goal.returns-in-Some-clause-refused
returns-in-Some-clause-refused c =
    let st = state_of c.args.parts.now in
    let ts = c.args.statements.now in
    IfOk-weaker c.refused_in_session.result _ _
    (λ refused told moment token. told
    ∙ session_refused st c.args.who c.in-Some.launch.now (supply_in st (Post ts) c.args.draw.now) ts (occasion_of st c.args.who c.args.draw.now (Post ts) moment token)
    (sym c.launch_of.ensures ∙ ap option_copied c.in-Some.is) refl refl)
    c.refused_in_session.ensures.refused

pub returns-in-None-clause-refused : goal.returns-in-None-clause-refused
returns-in-None-clause-refused c =
    let st = state_of c.args.parts.now in
    let ts = c.args.statements.now in
    IfOk-weaker c.refused_alone.result _ _
    (λ refused told moment token. told
    ∙ each_refused st c.args.who ts (occasion_of st c.args.who c.args.draw.now (Post ts) moment token) (sym c.launch_of.ensures ∙ ap option_copied c.in-None.is) refl)
    c.refused_alone.ensures.refused
