-- What is told of each acceptance.
use Rattle.std.proofs.Common.{◌≡◌, Bool, IfOk, Result, if◌then◌else◌, sym, ap, subst, ◌∙◌}
use Rattle.lrs_reads.specs.LrsHistoryAnswers.{acceptance_said}
use Rattle.lrs_learning.specs.LrsStateAcceptanceAcceptance.{Acceptance}
use Rattle.lrs_learning.specs.LrsStateAcceptanceAcceptanceTheVariants as acceptance
use Rattle.lrs_replies.specs.Texts.{course_body, ids_body, key_used_body, launch_body, provider_body, registration_body, session_closed_body, session_token_body, swept_body}
use Rattle.lrs_replies.specs.declared.answered.Answered.{Answered}
use Rattle.lrs_replies.specs.declared.answered.Answered.TheVariants.{Kept, Same}
use Rattle.lrs_fold.proofs.saying.acceptance_said.Goals as goal

-- it is told, where memory suffices
abbrev IsToldAs : {E : Type 0} → Result Answered E → Bool → Acceptance → Type 0
IsToldAs told same a = IfOk told (λ (said : Answered). said ≡ acceptance_said a (if same then Same else Kept))

pub returns-in-Ids : goal.returns-in-Ids
returns-in-Ids c =
    subst (IsToldAs c.shown.result c.args.same) (ap acceptance.Ids c.as_slice.ensures ∙ sym c.in-Ids.is) (c.shown.ensures (ids_body c.as_slice.result.now) c.ids_text.ensures)

pub returns-in-Provider : goal.returns-in-Provider
returns-in-Provider c =
    subst (IsToldAs c.shown-in-Provider.result c.args.same) (sym c.in-Provider.is) (c.shown-in-Provider.ensures (provider_body c.in-Provider.index c.in-Provider.token) c.provider_text.ensures)

pub returns-in-Course : goal.returns-in-Course
returns-in-Course c = subst (IsToldAs c.shown-in-Course.result c.args.same) (sym c.in-Course.is) (c.shown-in-Course.ensures (course_body c.in-Course.id c.in-Course.edition) c.course_text.ensures)

pub returns-in-Registration : goal.returns-in-Registration
returns-in-Registration c =
    subst (IsToldAs c.shown-in-Registration.result c.args.same) (sym c.in-Registration.is) (c.shown-in-Registration.ensures (registration_body c.in-Registration.id) c.registration_text.ensures)

pub returns-in-Launch : goal.returns-in-Launch
returns-in-Launch c =
    subst (IsToldAs c.shown-in-Launch.result c.args.same) (sym c.in-Launch.is)
    (c.shown-in-Launch.ensures (launch_body c.in-Launch.session c.in-Launch.method c.in-Launch.url) c.launch_text.ensures)

pub returns-in-Swept : goal.returns-in-Swept
returns-in-Swept c =
    subst (IsToldAs c.shown-in-Swept.result c.args.same) (ap acceptance.Swept c.as_slice-in-Swept.ensures ∙ sym c.in-Swept.is)
    (c.shown-in-Swept.ensures (swept_body c.as_slice-in-Swept.result.now) c.swept_text.ensures)

pub returns-in-Token : goal.returns-in-Token
returns-in-Token c = subst (IsToldAs c.shown-in-Token.result c.args.same) (sym c.in-Token.is) (c.shown-in-Token.ensures (session_token_body c.in-Token.token) c.session_token_text.ensures)

pub returns-in-KeyUsed : goal.returns-in-KeyUsed
returns-in-KeyUsed c = subst (IsToldAs c.shown-in-KeyUsed.result c.args.same) (sym c.in-KeyUsed.is) (c.shown-in-KeyUsed.ensures key_used_body c.key_used_text.ensures)

pub returns-in-SessionClosed : goal.returns-in-SessionClosed
returns-in-SessionClosed c =
    subst (IsToldAs c.shown-in-SessionClosed.result c.args.same) (sym c.in-SessionClosed.is) (c.shown-in-SessionClosed.ensures session_closed_body c.session_closed_text.ensures)
