-- The digits of a token are ASCII.
use Rattle.std.proofs.Common.{ℕ, refl, IsUtf8}
use Rattle.std.specs.Int.{to_be_bytes, w128}
use Rattle.std.proofs.lemmas.Str.{IsUtf8-from_ascii}
use Rattle.hex.specs.Hex.{lower_digits}
use Rattle.hex.proofs.HexLemmas.{IsAscii-encode_with}
use Rattle.lrs_json.proofs.SmallBytes.{IsAscii-small}
use Rattle.lrs_record.specs.Entries.{word_text}

-- the digits of a word are ASCII
pub IsUtf8-word_text : (word : ℕ) → IsUtf8 (word_text word)
unfolding word_text
IsUtf8-word_text word = IsUtf8-from_ascii (word_text word) (IsAscii-encode_with lower_digits (to_be_bytes w128 word) (IsAscii-small lower_digits refl))
