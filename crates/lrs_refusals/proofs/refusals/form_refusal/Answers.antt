use Rattle.std.proofs.Common.{option_copied, subst, sym}
use Rattle.lrs_refusals.specs.Submissions.{IsWrittenIf}
use Rattle.lrs_refusals.proofs.refusals.form_refusal.Goals as goal

pub returns-in-Some : goal.returns-in-Some
returns-in-Some c = sym (subst (λ o. IsWrittenIf c.args.write.now (option_copied o)) c.in-Some.is c.requires).unbroken
