-- Words in a field's value, and which media types are JSON (RFC 9110, sections 5.6.3 and 8.3.1).
use Rattle.std.specs.Prelude.{ℕ, ◌==◌, ◌&&◌, Bool, List, take, drop, length, codes}
use Rattle.std.specs.List.{before_first, list_all}
use Rattle.std.specs.Str.{str_eq_ignore_ascii_case}
use Rattle.httparse.specs.Grammar.{is_ows, skip_ows}

-- white space, the word in any case, white space
unfoldable pub trims_to : List ℕ → List ℕ → Bool
trims_to text word =
    str_eq_ignore_ascii_case (take (length word) (skip_ows text)) word
    && list_all is_ows (drop (length word) (skip_ows text))

abbrev pub is_semicolon : ℕ → Bool
is_semicolon b = b == 59

abbrev pub is_json_name : List ℕ → Bool
is_json_name name = trims_to name (codes "application/json")

-- JSON, with or without parameters
abbrev pub is_json : List ℕ → Bool
is_json media = is_json_name (before_first is_semicolon media)
