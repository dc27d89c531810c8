-- An ending as plain numbers.
use Rattle.std.specs.Prelude.{Bool, Option, Some, None, if◌then◌else◌}
use Rattle.xapi_received.specs.declared.marks.Ending.{Ending}
use Rattle.xapi_received.specs.declared.marks.ByteSpan.{ByteSpan}
use Rattle.xapi_received.specs.declared.offsets.Offsets.{Offsets}

abbrev pub span_if : Bool → ByteSpan → Option ByteSpan
span_if stands span = if stands then Some span else None

abbrev pub ending_of : Bool → Option ByteSpan → Option ByteSpan → Ending
ending_of later timestamp version = record { later = later; timestamp = timestamp; version = version }

-- the ending, if there is one
abbrev pub ending_at : Offsets → Option Ending
ending_at o =
    if o.stands then Some (ending_of o.later (span_if o.has_timestamp o.timestamp) (span_if o.has_version o.version))
    else None
