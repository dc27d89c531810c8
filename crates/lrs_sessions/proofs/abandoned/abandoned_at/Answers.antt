use Rattle.std.proofs.Common.{◌∙◌, option_and_then, slice_get, sym, ap}
use Rattle.std.proofs.lemmas.Result.{IfOk-weaker}
use Rattle.std.specs.Option.{option_copied}
use Rattle.lrs_made.specs.LrsHistoryEndings.{abandoned_of}
use Rattle.lrs_made.specs.LrsPartsParts.{state_of, SeenParts}
use Rattle.lrs_sessions.proofs.abandoned.abandoned_at.Goals as goal

pub returns : goal.returns
returns c =
    IfOk-weaker c.abandoned_of.result _ _
    (λ said is. is ∙ ap (λ o. option_and_then (abandoned_of (state_of c.args.parts.now)) o)
    (ap option_copied (sym c.in-Some.is) ∙ (c.get.ensures ∙ ap (λ (parts : SeenParts). slice_get parts.learning.launches.held c.args.number) c.parts.view_is))) c.abandoned_of.ensures
