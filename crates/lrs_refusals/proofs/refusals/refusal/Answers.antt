use Rattle.std.proofs.Common.{ap, ◌∙◌}
use Rattle.std.proofs.lemmas.Result.{IfOk-weaker}
use Rattle.lrs_refusals.specs.Meeting.{occasion_of}
use Rattle.lrs_made.specs.LrsHistoryRefusals.{refusal_at}
use Rattle.lrs_made.specs.LrsPartsParts.{state_of}
use Rattle.lrs_replies.specs.Texts.{token_text}
use Rattle.lrs_refusals.proofs.refusals.refusal.Goals as goal

pub refusal_of-requires-clause-written : goal.refusal_of-requires-clause-written
refusal_of-requires-clause-written c = c.requires.written

pub returns-clause-refused : goal.returns-clause-refused
returns-clause-refused c =
    let st = state_of c.args.parts.now in
    let e = c.args.entry.now in
    let token = token_text st.length e.draw.secret in
    IfOk-weaker c.refusal_of.result _ _
    (λ refused told. told e.moment token ∙ ap (λ who. refusal_at st (occasion_of st who e.draw e.write e.moment token) e.write) c.requires.who)
    c.refusal_of.ensures.refused
