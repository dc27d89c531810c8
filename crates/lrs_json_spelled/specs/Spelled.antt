-- The value that bytes spell, as a function of the bytes: for definitions that ask what is made of a text. What it is
-- for bytes to spell a value, the relation `Spells` says; `Laws` says that the two agree.
use Rattle.std.specs.Prelude.{ℕ, zero, suc, ◌+◌, ◌-◌, ◌*◌, ◌==◌, ◌&&◌, nat_eq, nat_le, List, [], ◌∷◌, ◌++◌, length}
use Rattle.std.specs.Prelude.{take, drop, Bool, true, false, Option, Some, None, option_map, if◌then◌else◌, codes}
use Rattle.std.specs.List.{prefix_len, starts_with}
use Rattle.std.specs.Str.{is_utf8}
use Rattle.lrs_decimal.specs.Fronts.{◌>>=◌, Front}
use Rattle.lrs_decimal.specs.Numbers.{number_end}
use Rattle.lrs_json.specs.Depth.{depth}
use Rattle.lrs_json.specs.Json.{Json}
use Rattle.lrs_json_reader.specs.Flaws.{out_of_range_numbers, repeated_names}
use Rattle.lrs_json_reader.specs.Grammar.{is_space}
use Rattle.lrs_json_reader.specs.Located.{Located, null, boolean, number, string, array, object, Elements, no_elements}
use Rattle.lrs_json_reader.specs.Located.{element, Members, no_members, member, plain}
use Rattle.lrs_json_reader.specs.Strings.{piece_at, piece_text}

-- ---- what stands at the front of the bytes, with the bytes that follow it

abbrev pub without_spaces : List ℕ → List ℕ
without_spaces bytes = drop (prefix_len is_space bytes) bytes

-- what follows this byte, where it comes first
abbrev pub past : ℕ → List ℕ → Option (List ℕ)
past k [] = None
past k (b ∷ bs) = if b == k then Some bs else None

-- what the word means
unfoldable pub word_at : List ℕ → Located → Front Located
word_at word means bytes = if starts_with nat_eq bytes word then Some (means, drop (length word) bytes) else None

-- The text of a string from its first piece on. The number is that of the steps that may be taken.
unfoldable pub text_at : ℕ → Front (List ℕ)
text_at zero bytes = None
text_at (suc n) [] = None
text_at (suc n) (b ∷ bs) = if b == 34 then Some ([], bs) else (do
  piece ← piece_at (b ∷ bs)
  more ← text_at n piece.1
  Some (piece_text piece.0 ++ more.0, more.1))

-- a string that stands for a text of UTF-8
unfoldable pub quoted_at : Front (List ℕ)
quoted_at bytes = do
  begin ← past 34 bytes
  text ← text_at (suc (length begin)) begin
  if is_utf8 text.0 then Some text else None

unfoldable pub number_at : Front Located
number_at bytes =
    option_map (λ rest. (number (length bytes) (take (length bytes - length rest) bytes), rest)) (number_end bytes)

-- a comma, if something stands before
abbrev pub comma_at : Bool → List ℕ → Option (List ℕ)
comma_at false bytes = Some bytes
comma_at true bytes = past 44 (without_spaces bytes)

-- what can be read: a value; the elements of an array and the members of an object, which may stand after others, with
-- the closing bracket
pub record Readers : Type 0 where
  pub value : Front Located
  pub elements : Bool → Front Elements
  pub members : Bool → Front Members

unfoldable pub value_by : Readers → Front Located
value_by inner [] = None
value_by inner (b ∷ bs) =
    if b == 110 then word_at (codes "null") null (b ∷ bs)
    else (if b == 116 then word_at (codes "true") (boolean true) (b ∷ bs)
    else (if b == 102 then word_at (codes "false") (boolean false) (b ∷ bs)
    else (if b == 34 then option_map (λ text. (string text.0, text.1)) (quoted_at (b ∷ bs))
    else (if b == 91 then option_map (λ items. (array items.0, items.1)) (inner.elements false bs)
    else (if b == 123 then option_map (λ items. (object items.0, items.1)) (inner.members false bs)
    else number_at (b ∷ bs))))))

-- an element and those that follow it
unfoldable pub element_by : Readers → Bool → Front Elements
element_by inner later bytes = do
  begin ← comma_at later bytes
  value ← inner.value (without_spaces begin)
  more ← inner.elements true value.1
  Some (element value.0 more.0, more.1)

-- a member and those that follow it
unfoldable pub member_by : Readers → Bool → Front Members
member_by inner later bytes = do
  begin ← comma_at later bytes
  name ← quoted_at (without_spaces begin)
  colon ← past 58 (without_spaces name.1)
  value ← inner.value (without_spaces colon)
  more ← inner.members true value.1
  Some (member (length (without_spaces begin)) name.0 value.0 more.0, more.1)

-- the end, where the closing bracket comes, and else something more
abbrev pub or_end : {A : Type 0} → A → Option (List ℕ) → Option (A × List ℕ) → Option (A × List ℕ)
or_end none (Some rest) more = Some (none, rest)
or_end none None more = more

-- what can be read in no more steps than that, one inside the other
unfoldable pub readers : ℕ → Readers
readers zero = record { value = λ bytes. None; elements = λ later bytes. None; members = λ later bytes. None }
readers (suc n) = record {
  value = value_by (readers n);
  elements = λ later bytes. or_end no_elements (past 93 (without_spaces bytes)) (element_by (readers n) later bytes);
  members = λ later bytes. or_end no_members (past 125 (without_spaces bytes)) (member_by (readers n) later bytes);
}

-- ---- the whole

-- a text never takes more steps than that
abbrev pub steps_of : List ℕ → ℕ
steps_of bytes = 2 * length bytes + 1

-- nothing follows it but white space
abbrev pub alone : Located × List ℕ → Option Located
alone found = if nat_eq (length (without_spaces found.1)) 0 then Some found.0 else None

-- the bytes' value by the grammar, with the offsets of its names and numbers
unfoldable pub located_in : List ℕ → Option Located
located_in bytes = (readers (steps_of bytes)).value (without_spaces bytes) >>= alone

-- it nests no deeper than the limit, repeats no name in an object, and has each number in range
abbrev pub is_sound : ℕ → Located → Bool
is_sound limit located =
    nat_le (depth (plain located)) limit && nat_eq (length (repeated_names located)) 0
    && nat_eq (length (out_of_range_numbers located)) 0

abbrev pub if_sound : ℕ → Located → Option Json
if_sound limit located = if is_sound limit located then Some (plain located) else None

-- The value that the bytes spell, None where they spell none.
unfoldable pub value_in : ℕ → List ℕ → Option Json
value_in limit bytes = located_in bytes >>= if_sound limit
