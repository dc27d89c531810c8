use Rattle.std.proofs.Common.{◌∙◌, ap}
use Rattle.lrs_json_reader.specs.declared.depth.ScanState.TheVariants.{Outside}
use Rattle.lrs_json_slices.specs.Scanning.{behind_close}
use Rattle.lrs_json_slices.proofs.Closing.{string_if}
use Rattle.lrs_json_slices.proofs.scanning.behind_string.Goals as goal

pub returns-then-byte-eq34-clause-same : goal.returns-then-byte-eq34-clause-same
returns-then-byte-eq34-clause-same c = λ depth l.
    ap (behind_close depth Outside) c.behind_quote.ensures.behind ∙ string_if c.args.byte depth c.args.behind.now c.if-byte-eq34.true l
