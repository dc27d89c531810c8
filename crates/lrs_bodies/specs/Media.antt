-- What the media type of a body says.
use Rattle.std.specs.Prelude.{ℕ, Bool, true, List, Option, Some, None, codes}
use Rattle.lrs_media.specs.Media.{is_json}

-- a type that isn't given, or JSON (RFC 9110, section 8.3.1)
abbrev pub allows_json : Option (List ℕ) → Bool
allows_json None = true
allows_json (Some media) = is_json media

-- the type of a body; where none is given, that of any bytes
abbrev pub media_of : Option (List ℕ) → List ℕ
media_of None = codes "application/octet-stream"
media_of (Some media) = media
