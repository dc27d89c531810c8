use Rattle.std.proofs.Common.{Option, sym, ap, ◌∙◌}
use Rattle.std.specs.Prelude.{unwrap_or}
use Rattle.lrs_made.specs.LrsHistoryRefusals.{forbidden}
use Rattle.lrs_json.specs.View.{view}
use Rattle.lrs_made.specs.LrsPartsParts.{state_of}
use Rattle.lrs_refusals.proofs.Held.{held_or_new, told_held, untold_new}
use Rattle.lrs_replies.specs.declared.answered.Refusal.{Refusal}
use Rattle.lrs_refusals.proofs.meeting.meeting_under.Goals as goal

pub returns-in-Some-clause-refused : goal.returns-in-Some-clause-refused
returns-in-Some-clause-refused c =
    let st = state_of c.args.parts.now in
    let j = view c.args.statement.now in
    let new = forbidden st c.args.who c.args.parts.now.statements.held j in
    sym (held_or_new st new c.args.id j ∙ ap (λ (told : Option (Option Refusal)). unwrap_or told new) (sym c.in_ok-told.ensures ∙ c.in-Some.is))

pub returns-in-Some-clause-held : goal.returns-in-Some-clause-held
returns-in-Some-clause-held c = told_held (state_of c.args.parts.now) c.args.id (view c.args.statement.now) c.in-Some.told (sym c.in_ok-told.ensures ∙ c.in-Some.is)

pub returns-clause-refused : goal.returns-clause-refused
returns-clause-refused c =
    let st = state_of c.args.parts.now in
    let j = view c.args.statement.now in
    let new = forbidden st c.args.who c.args.parts.now.statements.held j in
    c.forbidden.ensures
    ∙ sym (held_or_new st new c.args.id j ∙ ap (λ (told : Option (Option Refusal)). unwrap_or told new) (sym c.in_ok-told.ensures ∙ c.in_default.is))

pub returns-clause-held : goal.returns-clause-held
returns-clause-held c = untold_new (state_of c.args.parts.now) c.args.id (view c.args.statement.now) (sym c.in_ok-told.ensures ∙ c.in_default.is)
