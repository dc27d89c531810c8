-- A piece of a string takes at least a byte.
use Rattle.std.proofs.Common.{◌≡◌, ◌<◌, ◌==◌, ◌||◌, nat_lt, ℕ, List, [], ◌∷◌, length, Some, None, ap, arith}
use Rattle.std.proofs.lemmas.Option.{none-some, option_and_then_some, some_pair_parts}
use Rattle.lrs_json_reader.specs.Strings.{byte_at, digit_at, escape_at, hex_value_of, is_high, is_low, letter_of, low_at, next_at, piece_at, unicode_at, unit_at}
use Rattle.lrs_json_reader.specs.declared.strings.Piece.{Piece}
use Rattle.lrs_json_reader.specs.declared.strings.Piece.TheVariants.{Byte}
use Rattle.lrs_json_spelled.proofs.Fronts.{if_found}

next_shorter : (bytes : List ℕ) (x : ℕ) (rest : List ℕ) → next_at bytes ≡ Some (x, rest) → length rest < length bytes
unfolding next_at
next_shorter [] x rest e = absurd (none-some _ e)
next_shorter (b ∷ bs) x rest e = let parts = some_pair_parts b x bs rest e in omega (arith, ap length parts.1)

digit_shorter : (bytes : List ℕ) (x : ℕ) (rest : List ℕ) → digit_at bytes ≡ Some (x, rest) → length rest < length bytes
unfolding digit_at
digit_shorter bytes x rest e =
    option_and_then_some _ (next_at bytes) (x, rest) e (λ b is h. option_and_then_some _ (hex_value_of b.0) (x, rest) h (λ v iv same.
    let parts = some_pair_parts v x b.1 rest same in
    omega (arith, next_shorter bytes b.0 b.1 is, ap length parts.1)))

unit_shorter : (bytes : List ℕ) (x : ℕ) (rest : List ℕ) → unit_at bytes ≡ Some (x, rest) → length rest < length bytes
unfolding unit_at
unit_shorter bytes x rest e =
    option_and_then_some _ (digit_at bytes) (x, rest) e (λ a ia ea. option_and_then_some _ (digit_at a.1) (x, rest) ea (λ b ib eb.
    option_and_then_some _ (digit_at b.1) (x, rest) eb (λ c ic ec. option_and_then_some _ (digit_at c.1) (x, rest) ec (λ d id same.
    let parts = some_pair_parts _ x d.1 rest same in
    omega (arith, digit_shorter bytes a.0 a.1 ia, digit_shorter a.1 b.0 b.1 ib, digit_shorter b.1 c.0 c.1 ic, digit_shorter c.1 d.0 d.1 id, ap length parts.1)))))

byte_shorter : (k : ℕ) (bytes : List ℕ) (x : ℕ) (rest : List ℕ) → byte_at k bytes ≡ Some (x, rest) → length rest < length bytes
unfolding byte_at
byte_shorter k bytes x rest e =
    option_and_then_some _ (next_at bytes) (x, rest) e (λ b is h. if_found (b.0 == k) (Some b) None (Some (x, rest)) h
    (λ t same. let parts = some_pair_parts b.0 x b.1 rest same in omega (arith, next_shorter bytes b.0 b.1 is, ap length parts.1))
    (λ t none. absurd (none-some _ none)))

low_shorter : (bytes : List ℕ) (x : ℕ) (rest : List ℕ) → low_at bytes ≡ Some (x, rest) → length rest < length bytes
unfolding low_at
low_shorter bytes x rest e =
    option_and_then_some _ (byte_at 92 bytes) (x, rest) e (λ s is es. option_and_then_some _ (byte_at 117 s.1) (x, rest) es (λ u iu eu.
    option_and_then_some _ (unit_at u.1) (x, rest) eu (λ l il el. if_found (is_low l.0) (Some l) None (Some (x, rest)) el
    (λ t same.
    let parts = some_pair_parts l.0 x l.1 rest same in
    omega (arith, byte_shorter 92 bytes s.0 s.1 is, byte_shorter 117 s.1 u.0 u.1 iu, unit_shorter u.1 l.0 l.1 il, ap length parts.1))
    (λ t none. absurd (none-some _ none)))))

unicode_shorter : (bytes : List ℕ) (p : Piece) (rest : List ℕ) → unicode_at bytes ≡ Some (p, rest) → length rest < length bytes
unfolding unicode_at
unicode_shorter bytes p rest e =
    option_and_then_some _ (unit_at bytes) (p, rest) e (λ h ih eh. if_found (is_high h.0) _ _ (Some (p, rest)) eh
    (λ t both. option_and_then_some _ (low_at h.1) (p, rest) both (λ l il same.
    let parts = some_pair_parts _ p l.1 rest same in
    omega (arith, unit_shorter bytes h.0 h.1 ih, low_shorter h.1 l.0 l.1 il, ap length parts.1)))
    (λ t one. if_found (is_low h.0) None _ (Some (p, rest)) one
    (λ t none. absurd (none-some _ none))
    (λ t same. let parts = some_pair_parts _ p h.1 rest same in omega (arith, unit_shorter bytes h.0 h.1 ih, ap length parts.1))))

escape_shorter : (bytes : List ℕ) (p : Piece) (rest : List ℕ) → escape_at bytes ≡ Some (p, rest) → length rest < length bytes
unfolding escape_at
escape_shorter bytes p rest e =
    option_and_then_some _ (next_at bytes) (p, rest) e (λ b is h. if_found (b.0 == 117) _ _ (Some (p, rest)) h
    (λ t more. omega (arith, next_shorter bytes b.0 b.1 is, unicode_shorter b.1 p rest more))
    (λ t more. option_and_then_some _ (letter_of b.0) (p, rest) more (λ c ic same.
    let parts = some_pair_parts _ p b.1 rest same in
    omega (arith, next_shorter bytes b.0 b.1 is, ap length parts.1))))

pub piece_shorter : (bytes : List ℕ) (p : Piece) (rest : List ℕ) → piece_at bytes ≡ Some (p, rest) → length rest < length bytes
unfolding piece_at
piece_shorter bytes p rest e =
    option_and_then_some _ (next_at bytes) (p, rest) e (λ b is h. if_found (b.0 == 92) _ _ (Some (p, rest)) h
    (λ t more. omega (arith, next_shorter bytes b.0 b.1 is, escape_shorter b.1 p rest more))
    (λ t one. if_found (nat_lt b.0 32 || b.0 == 34) None (Some (Byte b.0, b.1)) (Some (p, rest)) one
    (λ t none. absurd (none-some _ none))
    (λ t same. let parts = some_pair_parts (Byte b.0) p b.1 rest same in omega (arith, next_shorter bytes b.0 b.1 is, ap length parts.1))))
