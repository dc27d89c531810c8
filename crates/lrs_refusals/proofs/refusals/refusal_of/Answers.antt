use Rattle.std.proofs.Common.{sym, ap, ◌∙◌}
use Rattle.std.proofs.lemmas.Result.{IfOk-weaker}
use Rattle.lrs_refusals.proofs.Together.{last_reason}
use Rattle.lrs_made.specs.LrsHistoryRefusals.{barred}
use Rattle.lrs_refusals.proofs.refusals.refusal_of.Goals as goal

pub form_refusal-requires : goal.form_refusal-requires
form_refusal-requires c = c.requires.written

pub returns-clause-refused : goal.returns-clause-refused
returns-clause-refused c =
    IfOk-weaker c.conflict.result _ _
    (λ refused told moment token. told moment token
    ∙ last_reason _ _ _ _ _ _
    (sym (c.barred.ensures ∙ ap (λ area. barred area c.args.who) c.area.ensures) ∙ c.in_default.is)
    (sym c.in_ok-refusal.ensures ∙ c.in_default-2.is)
    (sym c.barred_document.ensures ∙ c.in_default-barred_document.is)
    (sym c.in_ok-refusal-2.ensures ∙ c.in_default-3.is)
    (sym c.in_ok-refusal-3.ensures ∙ c.in_default-4.is))
    c.conflict.ensures.refused
