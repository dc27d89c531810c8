-- What stands in a string: bytes that stand for themselves, and escapes.
use Rattle.std.specs.Prelude.{ℕ, ◌+◌, ◌-◌, ◌*◌, ◌==◌, ◌&&◌, ◌||◌, nat_lt, nat_le, List, [], ◌∷◌, Bool, Option, Some}
use Rattle.std.specs.Prelude.{None, if◌then◌else◌, encode_utf8}
use Rattle.lrs_decimal.specs.Fronts.{◌>>=◌, Front}
use Rattle.lrs_json_reader.specs.declared.strings.Piece.{Piece}
use Rattle.lrs_json_reader.specs.declared.strings.Piece.TheVariants.{Byte, Char}

-- the value of a hexadecimal digit
unfoldable pub hex_value_of : ℕ → Option ℕ
hex_value_of b =
    if nat_le 48 b && nat_le b 57 then Some (b - 48)
    else (if nat_le 97 b && nat_le b 102 then Some (b - 87)
    else (if nat_le 65 b && nat_le b 70 then Some (b - 55) else None))

unfoldable pub next_at : Front ℕ
next_at [] = None
next_at (b ∷ bs) = Some (b, bs)

unfoldable pub digit_at : Front ℕ
digit_at bytes = do
  b ← next_at bytes
  v ← hex_value_of b.0
  Some (v, b.1)

-- four hexadecimal digits
unfoldable pub unit_at : Front ℕ
unit_at bytes = do
  a ← digit_at bytes
  b ← digit_at a.1
  c ← digit_at b.1
  d ← digit_at c.1
  Some (a.0 * 4096 + b.0 * 256 + c.0 * 16 + d.0, d.1)

abbrev pub is_high : ℕ → Bool
is_high u = nat_le 0xd800 u && nat_lt u 0xdc00

abbrev pub is_low : ℕ → Bool
is_low u = nat_le 0xdc00 u && nat_lt u 0xe000

-- one byte, which is this
unfoldable pub byte_at : ℕ → Front ℕ
byte_at b bytes = do
  found ← next_at bytes
  if found.0 == b then Some found else None

-- the low half of a pair, after its `\u`
unfoldable pub low_at : Front ℕ
low_at bytes = do
  slash ← byte_at 92 bytes
  letter ← byte_at 117 slash.1
  low ← unit_at letter.1
  if is_low low.0 then Some low else None

-- what a `\u` stands for, by what follows it
unfoldable pub unicode_at : Front Piece
unicode_at bytes = do
  high ← unit_at bytes
  if is_high high.0
      then low_at high.1 >>= (λ low. Some (Char (0x10000 + (high.0 - 0xd800) * 1024 + (low.0 - 0xdc00)), low.1))
      else (if is_low high.0 then None else Some (Char high.0, high.1))

-- what a backslash and a letter but u stand for
unfoldable pub letter_of : ℕ → Option ℕ
letter_of b =
    if b == 34 || b == 92 || b == 47 then Some b
    else (if b == 98 then Some 8
    else (if b == 102 then Some 12
    else (if b == 110 then Some 10 else (if b == 114 then Some 13 else (if b == 116 then Some 9 else None)))))

-- what a backslash stands for, by what follows it
unfoldable pub escape_at : Front Piece
escape_at bytes = do
  b ← next_at bytes
  if b.0 == 117 then unicode_at b.1 else (do
    c ← letter_of b.0
    Some (Byte c, b.1))

-- one byte or one escape; no quote
unfoldable pub piece_at : Front Piece
piece_at bytes = do
  b ← next_at bytes
  if b.0 == 92 then escape_at b.1 else (if nat_lt b.0 32 || b.0 == 34 then None else Some (Byte b.0, b.1))

abbrev pub piece_text : Piece → List ℕ
piece_text (Byte b) = b ∷ []
piece_text (Char c) = encode_utf8 c
