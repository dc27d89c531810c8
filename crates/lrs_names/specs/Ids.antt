-- Ids: what a text is as an id, the text of an id, and the id of a word.
use Rattle.std.specs.Prelude.{ℕ, ◌≡◌, ◌+◌, ◌*◌, ◌/◌, ◌%◌, ◌^◌, ◌<◌, List, length, Option}
use Rattle.std.specs.List.{All}
use Rattle.std.specs.Int.{to_be_bytes, w128}
use Rattle.uuid.specs.Text.{hyphenated_text, lower, parsed_hyphenated}
use Rattle.lrs_names.specs.declared.id.TheConstants.{WORDS}

-- sixteen bytes
abbrev pub IsId : List ℕ → Type 0
IsId id = (length id ≡ 16) × All (λ b. b < 256) id

-- the id of which the text is the hyphenated form, in either case
abbrev pub id_of : List ℕ → Option (List ℕ)
id_of text = parsed_hyphenated text

-- the hyphenated form, in lower case
abbrev pub id_text : List ℕ → List ℕ
id_text id = hyphenated_text lower id

-- the bits of the id of a word below `WORDS`: its first 48 bits, 0100, the next 12, 10, the last 62
abbrev pub bits_of : ℕ → ℕ
bits_of word = (word / 2 ^ 74) * 2 ^ 80 + 4 * 2 ^ 76 + (word / 2 ^ 62 % 2 ^ 12) * 2 ^ 64 + 2 * 2 ^ 62 + word % 2 ^ 62

-- the id of a word, which counts modulo `WORDS`
abbrev pub id_of_word : ℕ → List ℕ
id_of_word word = to_be_bytes w128 (bits_of (word % WORDS))
