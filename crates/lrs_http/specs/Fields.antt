-- The fields of a head (RFC 9110, section 5): names, which are compared in any case, and values without the white space
-- around them.
use Rattle.std.specs.Prelude.{ℕ, nat_le, nat_lt, ◌==◌, ◌&&◌, Bool, true, List, find, count_by, length}
use Rattle.std.specs.Prelude.{Option, Some, None, option_map, codes}
use Rattle.std.specs.List.{list_all, list_any, slice_split}
use Rattle.std.specs.Char.{is_ascii_digit}
use Rattle.std.specs.Str.{str_eq_ignore_ascii_case, is_utf8}
use Rattle.lrs_http.specs.declared.fields.TheConstants.{MOST_LENGTH_DIGITS}
use Rattle.lrs_media.specs.Media.{trims_to}

-- a name and its value
abbrev pub NameAndValue : Type 0
NameAndValue = List ℕ × List ℕ

abbrev pub is_named : List ℕ → NameAndValue → Bool
is_named name field = str_eq_ignore_ascii_case field.0 name

-- the value of the first field of a name
unfoldable pub first_value : List ℕ → List NameAndValue → Option (List ℕ)
first_value name fields = option_map (λ (field : NameAndValue). field.1) (find (is_named name) fields)

-- how many fields have a name
unfoldable pub count_named : List ℕ → List NameAndValue → ℕ
count_named name fields = count_by (is_named name) fields

-- an element of a list
unfoldable pub is_close : List ℕ → Bool
is_close element = trims_to element (codes "close")

abbrev pub is_comma : ℕ → Bool
is_comma b = b == 44

-- the value is a list with `close` among its elements (RFC 9112, section 9.6)
unfoldable pub asks_to_close : List ℕ → Bool
asks_to_close value = list_any is_close (slice_split is_comma value)

-- the value is digits, at least one and at most `MOST_LENGTH_DIGITS`
unfoldable pub is_length : List ℕ → Bool
is_length value = nat_lt 0 (length value) && (nat_le (length value) MOST_LENGTH_DIGITS && list_all is_ascii_digit value)

-- a value that isn't there, or is UTF-8
unfoldable pub is_text : Option (List ℕ) → Bool
is_text None = true
is_text (Some value) = is_utf8 value
