-- Which texts are addresses of units: URLs of the web that leave a launch its names (cmi5 Quartz, section 8.1).
use Rattle.std.specs.Prelude.{ℕ, List, [], Bool, false, not, ◌&&◌, ◌||◌, None, Ok, Err, codes, unwrap_or}
use Rattle.std.specs.List.{list_all}
use Rattle.std.specs.Str.{bytes_eq}
use Rattle.std.specs.Str.Lossy.{utf8_lossy}
use Rattle.form_urlencoded.specs.Form as form
use Rattle.url.specs.Parser.{parse_url, Parsed}
use Rattle.url.specs.Parts.{Parts}

-- a name that a launch puts into the query
abbrev pub is_reserved : List ℕ → Bool
is_reserved name =
    bytes_eq name (codes "endpoint") || bytes_eq name (codes "fetch") || bytes_eq name (codes "actor")
    || bytes_eq name (codes "registration") || bytes_eq name (codes "activityId")

-- the pair's name, decoded, isn't reserved
abbrev pub is_free : List ℕ × List ℕ → Bool
is_free pair = not (is_reserved (utf8_lossy (form.decode pair.0)))

-- no name of the query, decoded, is reserved
unfoldable pub keeps_free : List ℕ → Bool
keeps_free query = list_all is_free (form.raw_pairs query)

-- its scheme is one of the web's, and its query leaves the names free
abbrev pub is_launchable : Parts → Bool
is_launchable url =
    (bytes_eq url.scheme (codes "http") || bytes_eq url.scheme (codes "https")) && keeps_free (unwrap_or url.query [])

abbrev pub is_launchable_if_read : Parsed Parts → Bool
is_launchable_if_read (Ok url) = is_launchable url
is_launchable_if_read (Err e) = false

-- the URL Standard reads the text as such an address
unfoldable pub is_unit_url : List ℕ → Bool
is_unit_url text = is_launchable_if_read (parse_url None text)
