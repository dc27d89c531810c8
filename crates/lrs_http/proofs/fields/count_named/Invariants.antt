use Rattle.std.proofs.Common.{◌≡◌, ◌+◌, ◌≤◌, drop}
use Rattle.std.specs.Prelude.{map}
use Rattle.httparse.specs.Spans.{header_bytes}
use Rattle.lrs_http.specs.Fields.{count_named}
use Rattle.lrs_http.proofs.fields.count_named.Given as goal

abbrev pub invariant-loop-field : goal.invariant-loop-field
invariant-loop-field l = (l.count ≤ l.field-index) × (count_named l.name (map (header_bytes l.bytes) l.fields) ≡ l.count + count_named l.name (map (header_bytes l.bytes) (drop l.field-index l.fields)))
