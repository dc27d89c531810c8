use Rattle.std.proofs.Common.{◌≡◌, refl, subst, sym}
use Rattle.std.proofs.lemmas.Result.{IfOk-weaker}
use Rattle.lrs_fold.proofs.Outcomes.{outcome_now}
use Rattle.lrs_fold.proofs.Texts.{texts_now}
use Rattle.lrs_fold.specs.Outcomes.{IsOutcome, made_of}
use Rattle.lrs_fold.specs.Texts.{texts_for}
use Rattle.lrs_fold.specs.declared.outcome.Accepted.{Accepted}
use Rattle.lrs_learning.specs.LrsPartsParts.{state_of}
use Rattle.lrs_reads.specs.LrsHistoryAnswers.{write_said}
use Rattle.lrs_reads.specs.LrsHistoryHistory.{write_outcome}
use Rattle.lrs_fold.proofs.fold.Fold.outcome_with.Goals as goal

pub returns-in-Ok : goal.returns-in-Ok
returns-in-Ok c =
    let st = state_of c.args.self.now.parts in
    let e = c.args.entry in
    let x = c.in-Ok.effect in
    let a : Accepted = record { entry = c.of-made.result; text = c.args.text.items; effect = x; said = write_said x } in
    let n = c.leading_new-count.result in
    let ts = texts_for c.args.written n x.statements in
    IfOk-weaker c.said_with.result (λ o. o ≡ made_of a ts) (λ o. IsOutcome st (write_outcome st e) o)
    (λ o is. subst (λ m. IsOutcome st (write_outcome st e) m) (sym is)
    (outcome_now st e a ts c.requires.unrefused c.in-Ok.ensures c.requires.lawful c.of-made.ensures c.requires.text refl
    (texts_now st e c.args.known c.args.written n x ts c.requires.known c.requires.written c.leading_new-count.ensures c.in-Ok.ensures refl)))
    c.said_with.ensures
