-- A byte of a text as it is written in a string: it is read again, and tells the byte.
use Rattle.std.proofs.Common.{◌≡◌, ◌<◌, ℕ, ◌+◌, ◌*◌, ◌/◌, ◌%◌, ◌==◌, ◌||◌, nat_lt, if◌then◌else◌, Option, Some, List, [], ◌∷◌, ◌++◌, Bool, true, false, refl, sym, ap, ◌∙◌, arith, append_assoc}
use Rattle.std.specs.List.{flat_map}
use Rattle.std.proofs.lemmas.Str.{encode_ascii}
use Rattle.std.proofs.lemmas.Grind.{common_steps}
use Rattle.lrs_json_reader.specs.Strings.{is_high, is_low, piece_at, next_at, digit_at, unit_at, unicode_at, escape_at, letter_of, hex_value_of, piece_text}
use Rattle.lrs_json_reader.specs.declared.strings.Piece.{Piece}
use Rattle.lrs_json_reader.specs.declared.strings.Piece.TheVariants.{Byte, Char}
use Rattle.lrs_json.specs.Written.{escaped, hex_digit_of, quoted}

-- the piece that a byte of a text is written as
abbrev pub is_short : ℕ → Bool
is_short b = b == 34 || b == 92 || b == 8 || b == 9 || b == 10 || b == 12 || b == 13

abbrev pub piece_of : ℕ → Piece
piece_of b = if is_short b then Byte b else (if nat_lt b 32 then Char b else Byte b)

hex_again : (n : ℕ) → n < 16 → hex_value_of (hex_digit_of n) ≡ Some n
unfolding hex_value_of
hex_again n l = grind (arith, common_steps)

plain_again : (b : ℕ) (r : List ℕ) → is_short b ≡ false → nat_lt b 32 ≡ false → piece_at (escaped b ++ r) ≡ Some (piece_of b, r)
unfolding escaped piece_at next_at
plain_again b r s n = grind (arith, common_steps)

short_again : (b : ℕ) (r : List ℕ) → is_short b ≡ true → piece_at (escaped b ++ r) ≡ Some (piece_of b, r)
unfolding escaped piece_at next_at escape_at letter_of
short_again b r s = grind (arith, common_steps)

unit_again : (b : ℕ) (r : List ℕ) → b < 32 → unit_at (48 ∷ 48 ∷ hex_digit_of (b / 16) ∷ hex_digit_of (b % 16) ∷ r) ≡ Some (b, r)
unfolding unit_at digit_at next_at
unit_again b r l =
    let high = hex_again (b / 16) (omega arith) in
    let low = hex_again (b % 16) (omega arith) in
    let zero : hex_value_of 48 ≡ Some 0 = hex_again 0 (omega arith) in
    let sum : 0 * 4096 + 0 * 256 + b / 16 * 16 + b % 16 ≡ b = omega arith in
    rw (zero, zero, high, low, sum) refl

pub control_escaped : (b : ℕ) → is_short b ≡ false → nat_lt b 32 ≡ true → escaped b ≡ 92 ∷ 117 ∷ 48 ∷ 48 ∷ hex_digit_of (b / 16) ∷ hex_digit_of (b % 16) ∷ []
unfolding escaped
control_escaped b s n = grind (arith, common_steps)

control_again : (b : ℕ) (r : List ℕ) → is_short b ≡ false → nat_lt b 32 ≡ true → piece_at (escaped b ++ r) ≡ Some (piece_of b, r)
unfolding piece_at next_at escape_at unicode_at
control_again b r s n =
    let l : b < 32 = grind (arith, common_steps) in
    let high : is_high b ≡ false = grind (arith, common_steps) in
    let low : is_low b ≡ false = grind (arith, common_steps) in
    rw (control_escaped b s n, unit_again b r l, high, low, s, n) refl

piece_again_at : (b : ℕ) (r : List ℕ) (short low : Bool) → is_short b ≡ short → nat_lt b 32 ≡ low → piece_at (escaped b ++ r) ≡ Some (piece_of b, r)
piece_again_at b r true low s n = short_again b r s
piece_again_at b r false true s n = control_again b r s n
piece_again_at b r false false s n = plain_again b r s n

pub piece_again : (b : ℕ) (r : List ℕ) → piece_at (escaped b ++ r) ≡ Some (piece_of b, r)
piece_again b r = piece_again_at b r (is_short b) (nat_lt b 32) refl refl

text_again_at : (b : ℕ) (short low : Bool) → is_short b ≡ short → nat_lt b 32 ≡ low → piece_text (piece_of b) ≡ b ∷ []
text_again_at b true low s n = rw s refl
text_again_at b false true s n = let l : b < 128 = grind (arith, common_steps) in rw (s, n) (encode_ascii b l)
text_again_at b false false s n = rw (s, n) refl

pub text_again : (b : ℕ) → piece_text (piece_of b) ≡ b ∷ []
text_again b = text_again_at b (is_short b) (nat_lt b 32) refl refl

same_piece : (p q : Piece) (x y : List ℕ) → ◌≡◌ {A = Option (Piece × List ℕ)} (Some (p, x)) (Some (q, y)) → (p ≡ q) × (x ≡ y)
same_piece p q x y e =
    let pair : ◌≡◌ {A = Piece × List ℕ} (p, x) (q, y) = cc e in
    (ap (λ z. z.0) pair, ap (λ z. z.1) pair)

same_byte : (a b : ℕ) → piece_of a ≡ piece_of b → a ≡ b
same_byte a b e = let one : a ∷ [] ≡ b ∷ [] = sym (text_again a) ∙ ap piece_text e ∙ text_again b in cc one

no_piece : (rest : List ℕ) (p : Piece) (x : List ℕ) → ◌≡◌ {A = Option (Piece × List ℕ)} (piece_at (34 ∷ rest)) (Some (p, x)) → ⊥
unfolding piece_at next_at
no_piece rest p x e = cc e

-- a closing quote ends the text, and no byte of it begins so
same_text : (a b r s : List ℕ) → flat_map escaped a ++ 34 ∷ r ≡ flat_map escaped b ++ 34 ∷ s → (a ≡ b) × (r ≡ s)
same_text [] [] r s e = (refl, cc e)
same_text [] (y ∷ ys) r s e =
    absurd (no_piece r (piece_of y) (flat_map escaped ys ++ 34 ∷ s)
    (ap piece_at (e ∙ append_assoc (escaped y) (flat_map escaped ys) (34 ∷ s)) ∙ piece_again y (flat_map escaped ys ++ 34 ∷ s)))
same_text (x ∷ xs) [] r s e =
    absurd (no_piece s (piece_of x) (flat_map escaped xs ++ 34 ∷ r)
    (ap piece_at (sym e ∙ append_assoc (escaped x) (flat_map escaped xs) (34 ∷ r)) ∙ piece_again x (flat_map escaped xs ++ 34 ∷ r)))
same_text (x ∷ xs) (y ∷ ys) r s e =
    let left = flat_map escaped xs ++ 34 ∷ r in
    let right = flat_map escaped ys ++ 34 ∷ s in
    let same = sym (append_assoc (escaped x) (flat_map escaped xs) (34 ∷ r)) ∙ e ∙ append_assoc (escaped y) (flat_map escaped ys) (34 ∷ s) in
    let parts = same_piece (piece_of x) (piece_of y) left right (sym (piece_again x left) ∙ ap piece_at same ∙ piece_again y right) in
    let first = same_byte x y parts.0 in
    let rest = same_text xs ys r s parts.1 in
    (rw (first, rest.0) refl, rest.1)

-- two strings that are written alike, whatever stands after them, are of one text
pub same_quoted : (a b r s : List ℕ) → quoted a ++ r ≡ quoted b ++ s → (a ≡ b) × (r ≡ s)
same_quoted a b r s e =
    let inside : flat_map escaped a ++ 34 ∷ [] ++ r ≡ flat_map escaped b ++ 34 ∷ [] ++ s = cc e in
    same_text a b r s (sym (append_assoc (flat_map escaped a) (34 ∷ []) r) ∙ inside ∙ append_assoc (flat_map escaped b) (34 ∷ []) s)
