use Rattle.std.proofs.Common.{◌∙◌}
use Rattle.lrs_http.proofs.SendLemmas.{written_as, status_line_is}
use Rattle.lrs_http.proofs.response.Output.put_status_line.Goals as goal

pub returns : goal.returns
returns g c text start w =
    let whole = c.put-5.ensures _ _ (c.put-4.ensures _ _ (c.put-3.ensures _ _ (c.put-2.ensures _ _ (c.put.ensures text start w)))) in
    written_as _ _ _ _ _ _ (status_line_is text c.as_bytes.result.now c.phrase.result.now c.args.status (c.as_bytes.ensures.value ∙ c.format.ensures.text) c.phrase.ensures) whole
