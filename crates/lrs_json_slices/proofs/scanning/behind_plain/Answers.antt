use Rattle.std.proofs.Common.{◌∙◌, ap, drop, false}
use Rattle.std.proofs.lemmas.List.{take_rest}
use Rattle.lrs_json_slices.specs.Scanning.{behind_quote}
use Rattle.lrs_json_slices.proofs.Quotes.{plain_passed}
use Rattle.lrs_json_slices.proofs.scanning.behind_plain.Goals as goal

pub returns-clause-same : goal.returns-clause-same
returns-clause-same c =
    let bytes = c.args.bytes.now in
    ap (behind_quote false) (take_rest bytes c.plain_len.result) ∙ ap (λ n. behind_quote false (drop n bytes)) c.plain_len.ensures.value ∙ plain_passed bytes
