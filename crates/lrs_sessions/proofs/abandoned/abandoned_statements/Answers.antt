use Rattle.std.proofs.Common.{◌∙◌, ap, arith}
use Rattle.std.proofs.lemmas.List.{take_all}
use Rattle.lrs_made.specs.LrsHistoryEndings.{abandoned_at, abandoned_jsons}
use Rattle.lrs_made.specs.Said.{jsons_of}
use Rattle.lrs_made.specs.LrsPartsParts.{state_of}
use Rattle.lrs_sessions.proofs.Filled.{given_more}
use Rattle.lrs_sessions.proofs.abandoned.abandoned_statements.Goals as goal

pub loop-number-init : goal.loop-number-init
loop-number-init c = ap (λ ss. jsons_of ss) c.new-said.ensures.items

pub loop-number-preserved : goal.loop-number-preserved
loop-number-preserved c =
    let at = c.loop-number in
    given_more (abandoned_at (state_of c.args.parts.now)) (jsons_of at.said.items) (jsons_of c.push_abandoned.new.said.items) c.args.numbers.now at.number-index 0 (omega arith)
    at.invariant c.in_ok-push_abandoned.ensures

pub returns : goal.returns
returns c =
    let at = c.loop-number in
    at.invariant ∙ ap (λ ks. abandoned_jsons (state_of c.args.parts.now) ks) (take_all at.number-index c.args.numbers.now (omega arith))
