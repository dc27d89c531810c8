use Rattle.std.proofs.Common.{Option, Some, ap, ◌∙◌}
use Rattle.xapi_received.specs.Offsets.{ending_of, span_if}
use Rattle.xapi_received.specs.declared.marks.ByteSpan.{ByteSpan}
use Rattle.xapi_received.proofs.offsets.Offsets.of_ending.Goals as goal

pub returns : goal.returns
returns c =
    let ending = c.args.ending.now in
    let version = c.flattened-version.result in
    ap (λ (o : Option ByteSpan). Some (ending_of ending.later o (span_if version.stands version.span))) c.flattened-timestamp.ensures
    ∙ ap (λ (o : Option ByteSpan). Some (ending_of ending.later ending.timestamp o)) c.flattened-version.ensures
