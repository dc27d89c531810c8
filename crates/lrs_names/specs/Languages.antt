-- Language tags, as far as they are held against RFC 5646, and language maps (xAPI 1.0.3, part two, section 4.2).
use Rattle.std.specs.Prelude.{ℕ, nat_lt, nat_le, List, length, Bool, true, false, ◌&&◌, ◌==◌}
use Rattle.std.specs.Char.{is_ascii_alphabetic, is_ascii_alphanumeric}
use Rattle.std.specs.List.{list_all, before_first, slice_split}
use Rattle.lrs_json.specs.Json.{Json, null, boolean, number, string, array, object, Members, no_members, member}
use Rattle.lrs_names.specs.Members.{is_string}
use Rattle.lrs_names.specs.Rules.{unless}

-- one to eight bytes that pass
abbrev pub is_subtag : (ℕ → Bool) → List ℕ → Bool
is_subtag test part = nat_lt 0 (length part) && nat_le (length part) 8 && list_all test part

abbrev pub is_hyphen : ℕ → Bool
is_hyphen b = b == 45

-- Parts of one to eight letters or digits with hyphens between them; the first has letters alone.
unfoldable pub is_language_tag : List ℕ → Bool
is_language_tag text =
    is_subtag is_ascii_alphabetic (before_first is_hyphen text)
    && list_all (is_subtag is_ascii_alphanumeric) (slice_split is_hyphen text)

abbrev pub are_in_languages : Members → Bool
are_in_languages no_members = true
are_in_languages (member tag j ms) = is_language_tag tag && is_string j && are_in_languages ms

-- an object whose names are language tags and whose values are strings
abbrev pub is_language_map : Json → Bool
is_language_map null = false
is_language_map (boolean b) = false
is_language_map (number s) = false
is_language_map (string s) = false
is_language_map (array js) = false
is_language_map (object ms) = are_in_languages ms

-- rule 14, where a language map is asked for
abbrev pub language_map_faults : Json → List ℕ
language_map_faults j = unless (is_language_map j) 14
