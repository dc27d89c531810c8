use Rattle.std.proofs.Common.{ℕ, List, Option, sym, ap, ◌∙◌}
use Rattle.std.specs.Prelude.{unwrap_or}
use Rattle.lrs_made.specs.Cmi5SessionRules.{broken_rule}
use Rattle.lrs_made.specs.Cmi5SessionViews.{seen}
use Rattle.lrs_made.specs.LrsHistoryRefusals.{told_forbidden}
use Rattle.lrs_json.specs.View.{view}
use Rattle.lrs_made.specs.LrsPartsParts.{state_of}
use Rattle.lrs_refusals.proofs.Held.{held_or_new, told_held, untold_new}
use Rattle.lrs_refusals.specs.Meeting.{told_if_held}
use Rattle.lrs_replies.specs.declared.answered.Refusal.{Refusal}
use Rattle.xapi_statement.specs.Statement.{own_id}
use Rattle.lrs_refusals.proofs.meeting.meeting_in.Goals as goal

pub returns-in-Some-clause-refused : goal.returns-in-Some-clause-refused
returns-in-Some-clause-refused c =
    let st = state_of c.args.parts.now in
    let j = view c.args.statement.now in
    let new = told_forbidden (broken_rule (seen c.args.session.now) j) in
    sym (held_or_new st new (own_id j) j
    ∙ ap (λ (told : Option (Option Refusal)). unwrap_or told new)
    (ap (λ (id : Option (List ℕ)). told_if_held st id j) (sym c.own_id.ensures) ∙ (sym c.in_ok-told.ensures ∙ c.in-Some.is)))

pub returns-in-Some-clause-held : goal.returns-in-Some-clause-held
returns-in-Some-clause-held c =
    let st = state_of c.args.parts.now in
    let j = view c.args.statement.now in
    told_held st (own_id j) j c.in-Some.told
    (ap (λ (id : Option (List ℕ)). told_if_held st id j) (sym c.own_id.ensures) ∙ (sym c.in_ok-told.ensures ∙ c.in-Some.is))

pub returns-clause-refused : goal.returns-clause-refused
returns-clause-refused c =
    let st = state_of c.args.parts.now in
    let j = view c.args.statement.now in
    let new = told_forbidden (broken_rule (seen c.args.session.now) j) in
    c.forbidden_to.ensures
    ∙ sym (held_or_new st new (own_id j) j
    ∙ ap (λ (told : Option (Option Refusal)). unwrap_or told new)
    (ap (λ (id : Option (List ℕ)). told_if_held st id j) (sym c.own_id.ensures) ∙ (sym c.in_ok-told.ensures ∙ c.in_default.is)))

pub returns-clause-held : goal.returns-clause-held
returns-clause-held c =
    let st = state_of c.args.parts.now in
    let j = view c.args.statement.now in
    untold_new st (own_id j) j (ap (λ (id : Option (List ℕ)). told_if_held st id j) (sym c.own_id.ensures) ∙ (sym c.in_ok-told.ensures ∙ c.in_default.is))
