use Rattle.std.proofs.Common.{◌≡◌, drop}
use Rattle.std.specs.Prelude.{map}
use Rattle.httparse.specs.Spans.{header_bytes}
use Rattle.lrs_http.specs.Fields.{first_value}
use Rattle.lrs_http.proofs.fields.first_value.Given as goal

abbrev pub invariant-loop-field : goal.invariant-loop-field
invariant-loop-field l = first_value l.name (map (header_bytes l.bytes) l.fields) ≡ first_value l.name (map (header_bytes l.bytes) (drop l.field-index l.fields))
