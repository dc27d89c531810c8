-- The grammar of JSON (RFC 8259) as a relation: which bytes spell which value. `P bytes rest` says that the bytes begin
-- with a P, and that the rest follows it.
use Rattle.std.specs.Prelude.{◌≡◌, ℕ, ◌==◌, ◌||◌, List, [], ◌∷◌, ◌++◌, length, Bool, true, false, Some, if◌then◌else◌}
use Rattle.std.specs.Prelude.{codes, IsUtf8}
use Rattle.std.specs.List.{flat_map}
use Rattle.lrs_decimal.specs.Numbers.{Each, IsNumber}
use Rattle.lrs_json_reader.specs.Strings.{piece_at, piece_text}
use Rattle.lrs_json_reader.specs.declared.strings.Piece.{Piece}
use Rattle.lrs_json_reader.specs.Located.{Located, null, boolean, number, string, array, object, Elements, no_elements}
use Rattle.lrs_json_reader.specs.Located.{element, Members, no_members, member}

-- white space (section 2)
abbrev pub is_space : ℕ → Bool
is_space b = b == 32 || b == 9 || b == 10 || b == 13

abbrev pub Spaces : List ℕ → List ℕ → Type 0
Spaces bytes rest = (space : List ℕ) × Each is_space space × (bytes ≡ space ++ rest)

-- the pieces, and the closing quote
abbrev pub Chars : List Piece → List ℕ → List ℕ → Type 0
Chars [] bytes rest = bytes ≡ 34 ∷ rest
Chars (p ∷ ps) bytes rest = (a : List ℕ) × (piece_at bytes ≡ Some (p, a)) × Chars ps a rest

-- a string (section 7) that stands for a text of UTF-8 (section 8.1)
abbrev pub Quoted : List ℕ → List ℕ → List ℕ → Type 0
Quoted text bytes rest = (ps : List Piece) × (a : List ℕ) × (bytes ≡ 34 ∷ a) × Chars ps a rest
    × (text ≡ flat_map piece_text ps) × IsUtf8 text

-- a comma, if something stands before
abbrev pub Comma : Bool → List ℕ → List ℕ → Type 0
Comma false bytes rest = bytes ≡ rest
Comma true bytes rest = Spaces bytes (44 ∷ rest)

abbrev mutual
  -- a value (section 3)
  pub Value : Located → List ℕ → List ℕ → Type 0
  Value null bytes rest = bytes ≡ codes "null" ++ rest
  Value (boolean b) bytes rest = bytes ≡ (if b then codes "true" else codes "false") ++ rest
  Value (number left s) bytes rest = (bytes ≡ s ++ rest) × IsNumber s × (left ≡ length bytes)
  Value (string s) bytes rest = Quoted s bytes rest
  Value (array ps) bytes rest = (a : List ℕ) × (bytes ≡ 91 ∷ a) × Listed false ps a rest
  Value (object ms) bytes rest = (a : List ℕ) × (bytes ≡ 123 ∷ a) × Paired false ms a rest

  -- the elements of an array (section 5), which may stand after others, and the closing bracket
  pub Listed : Bool → Elements → List ℕ → List ℕ → Type 0
  Listed later no_elements bytes rest = Spaces bytes (93 ∷ rest)
  Listed later (element p ps) bytes rest = (a b c : List ℕ) × Comma later bytes a × Spaces a b × Value p b c
      × Listed true ps c rest

  -- the members of an object (section 4), which may stand after others, and the closing bracket
  pub Paired : Bool → Members → List ℕ → List ℕ → Type 0
  Paired later no_members bytes rest = Spaces bytes (125 ∷ rest)
  Paired later (member left k p ms) bytes rest =
      (a b c d e f : List ℕ) × Comma later bytes a × Spaces a b × Quoted k b c × Spaces c (58 ∷ d) × Spaces d e
      × Value p e f × Paired true ms f rest × (left ≡ length b)

-- a whole text: a value with white space round it (section 2)
abbrev pub IsText : Located → List ℕ → Type 0
IsText p bytes = (a b : List ℕ) × Spaces bytes a × Value p a b × Spaces b []
