-- The hexadecimal digits of words and of draws, and what is read of digits.
use Rattle.std.specs.Prelude.{◌<◌, ◌^◌, ◌++◌, ◌==◌, ℕ, List, length, take, drop}
use Rattle.std.specs.Prelude.{Option, Some, None, option_map, if◌then◌else◌}
use Rattle.std.specs.Int.{from_be_bytes, to_be_bytes, w128}
use Rattle.std.specs.Result.{result_ok}
use Rattle.hex.specs.Hex.{decode_sized, encode_lower}
use Rattle.lrs_names.specs.declared.draw.Draw.{Draw}

-- 32 lower-case hexadecimal digits
unfoldable pub word_text : ℕ → List ℕ
word_text word = encode_lower (to_be_bytes w128 word)

-- 64 digits: the name, then the secret
abbrev pub draw_text : Draw → List ℕ
draw_text draw = word_text draw.name ++ word_text draw.secret

-- two words of 128 bits
abbrev pub HoldsDraw : Draw → Type 0
HoldsDraw draw = (draw.name < 2 ^ 128) × (draw.secret < 2 ^ 128)

-- ---- what is read

-- the word of 32 digits, in either case
unfoldable pub word_of : List ℕ → Option ℕ
word_of digits = option_map (from_be_bytes w128) (result_ok (decode_sized digits 16))

-- the draw of two words, if both are there
abbrev pub draw_from : Option ℕ → Option ℕ → Option Draw
draw_from None secret = None
draw_from (Some name) None = None
draw_from (Some name) (Some secret) = Some (record { name = name; secret = secret })

-- the draw of 64 digits, in either case
unfoldable pub draw_of : List ℕ → Option Draw
draw_of digits = if length digits == 64 then draw_from (word_of (take 32 digits)) (word_of (drop 32 digits)) else None
