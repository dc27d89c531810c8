use Rattle.std.proofs.Common.{◌≡◌, IfOk, Option, ap, subst}
use Rattle.lrs_refusals.specs.LrsHistoryAnswers.{standing_said}
use Rattle.lrs_refusals.specs.LrsHistoryEnrolments.{Enrolled}
use Rattle.lrs_refusals.specs.LrsPartsParts.{state_of}
use Rattle.lrs_reads.proofs.questions.standing_said.Goals as goal

pub standing_of-requires : goal.standing_of-requires
standing_of-requires c = c.in-Some.ensures.lent

pub returns-in-Some : goal.returns-in-Some
returns-in-Some c =
    subst (λ (known : Option Enrolled). IfOk c.standing_of.result (λ said. said ≡ standing_said (state_of c.args.parts.now) known)) c.in-Some.ensures.found c.standing_of.ensures

pub returns-in-None : goal.returns-in-None
returns-in-None c = ap (standing_said (state_of c.args.parts.now)) c.in-None.ensures.found
