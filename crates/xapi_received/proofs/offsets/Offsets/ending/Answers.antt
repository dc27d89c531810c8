use Rattle.std.proofs.Common.{Bool, Option, Some, None, if◌then◌else◌, sym, ap, ◌∙◌}
use Rattle.xapi_received.specs.Offsets.{ending_of, span_if}
use Rattle.xapi_received.specs.declared.marks.Ending.{Ending}
use Rattle.xapi_received.specs.declared.marks.ByteSpan.{ByteSpan}
use Rattle.xapi_received.proofs.offsets.Offsets.ending.Goals as goal

pub returns-then-stands : goal.returns-then-stands
returns-then-stands c =
    let o = c.args.self.now in
    let timestamp = span_if o.has_timestamp o.timestamp in
    let version = span_if o.has_version o.version in
    ap (λ (t : Option ByteSpan). Some (ending_of o.later t c.span_if-version.result)) c.span_if-timestamp.ensures
    ∙ ap (λ (v : Option ByteSpan). Some (ending_of o.later timestamp v)) c.span_if-version.ensures
    ∙ ap (λ (b : Bool). if b then Some (ending_of o.later timestamp version) else None) (sym c.if-stands.true)

pub returns-else-stands : goal.returns-else-stands
returns-else-stands c =
    let o = c.args.self.now in
    let ending : Ending = ending_of o.later (span_if o.has_timestamp o.timestamp) (span_if o.has_version o.version) in
    ap (λ (b : Bool). if b then Some ending else None) (sym c.if-stands.false)
