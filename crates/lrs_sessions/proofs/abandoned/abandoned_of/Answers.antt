use Rattle.std.proofs.Common.{◌∙◌, option_and_then, sym, ap}
use Rattle.std.proofs.lemmas.Result.{IfOk-weaker}
use Rattle.lrs_made.specs.LrsHistoryEndings.{abandoned_from}
use Rattle.lrs_made.specs.LrsPartsParts.{state_of}
use Rattle.lrs_sessions.proofs.abandoned.abandoned_of.Goals as goal

pub returns-in-Some : goal.returns-in-Some
returns-in-Some c =
    IfOk-weaker c.abandoned_from.result _ _
    (λ said is. is ∙ ap (λ o. option_and_then (abandoned_from (state_of c.args.parts.now) c.args.launch.now) o) (sym c.in-Some.is ∙ c.began_at.ensures)) c.abandoned_from.ensures
