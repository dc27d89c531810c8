-- IRIs, as far as they are held against RFC 3987 (xAPI 1.0.3, part two, section 4.3).
use Rattle.std.specs.Prelude.{ℕ, List, [], ◌∷◌, Bool, true, false, not, ◌&&◌, ◌||◌, ◌==◌}
use Rattle.std.specs.Char.{is_ascii_alphabetic, is_ascii_alphanumeric, is_control}
use Rattle.std.specs.List.{list_all, before_first, after_first}
use Rattle.std.specs.Str.{chars}
use Rattle.lrs_json.specs.Json.{Json}
use Rattle.lrs_names.specs.Members.{is_string_that}
use Rattle.lrs_names.specs.Rules.{unless}

abbrev pub has_some : List ℕ → Bool
has_some [] = false
has_some (b ∷ bs) = true

-- a letter, a digit, `+`, `-` or `.`
abbrev pub is_scheme_byte : ℕ → Bool
is_scheme_byte b = is_ascii_alphanumeric b || (b == 43) || (b == 45) || (b == 46)

-- a letter, then letters, digits, `+`, `-` and `.`
abbrev pub is_scheme : List ℕ → Bool
is_scheme [] = false
is_scheme (b ∷ bs) = is_ascii_alphabetic b && list_all is_scheme_byte bs

-- a control (Unicode's category Cc) or a space
abbrev pub is_control_or_space : ℕ → Bool
is_control_or_space c = is_control c || (c == 32)

-- one of `"`, `<`, `>`, `\`, `^`, the backquote, `{`, `|` and `}`
abbrev pub is_delimiter : ℕ → Bool
is_delimiter c =
    (c == 34) || (c == 60) || (c == 62) || (c == 92) || (c == 94) || (c == 96) || (c == 123) || (c == 124) || (c == 125)

abbrev pub is_iri_character : ℕ → Bool
is_iri_character c = not (is_control_or_space c || is_delimiter c)

abbrev pub is_colon : ℕ → Bool
is_colon b = b == 58

-- A scheme, a colon and something after it, with no refused character.
unfoldable pub is_iri : List ℕ → Bool
is_iri text =
    is_scheme (before_first is_colon text) && has_some (after_first is_colon text)
    && list_all is_iri_character (chars text)

-- rule 6, where an IRI is asked for
abbrev pub iri_faults : Json → List ℕ
iri_faults j = unless (is_string_that is_iri j) 6
