-- What stands in a link is UTF-8, so it is bytes; and an id that was read is whole.
use Rattle.std.proofs.Common.{◌≡◌, ℕ, zero, suc, ◌+◌, ◌*◌, ◌/◌, ◌%◌, ◌<◌, ◌^◌, ◌==◌, ◌&&◌, Bool, true, false, cond, if◌then◌else◌, List, [], ◌∷◌, length, get_or, Some, None, All, IsUtf8, ltb, ltb-true, ⊎_elim, refl, sym, subst, arith}
use Rattle.std.specs.Fmt.{decimal}
use Rattle.std.specs.List.{list_all}
use Rattle.std.proofs.lemmas.Bool.{and_parts}
use Rattle.std.proofs.lemmas.Bool.Decides.{nat_tests}
use Rattle.std.proofs.lemmas.Fmt.{IsAscii-decimal}
use Rattle.std.proofs.lemmas.List.Elements.{All-append, All-cons, All-nil, All-same}
use Rattle.std.proofs.lemmas.Str.{IsUtf8-from_ascii}
use lib.Utf8.{encode, encodes, scalar, scalars, scalar_cases}
use Rattle.percent_encoding.proofs.PercentLemmas.{IsByte}
use Rattle.uuid.specs.Text.{byte_of_digits, by_index, digits_of, has_hyphens, is_hex_digit, parsed_simple, value_of}
use Rattle.uuid.proofs.TextLemmas.{all_fit, by_index_at, by_index_length}
use Rattle.lrs_names.specs.Ids.{IsId, id_of}

-- ---- UTF-8 is bytes

two : (a b : ℕ) → a < 256 → b < 256 → All IsByte (a ∷ b ∷ [])
two a b x y = All-cons IsByte a (b ∷ []) x (All-cons IsByte b [] y (All-nil IsByte))

bytes_at : (c : ℕ) (a b d : Bool) → c < 1114112 → ltb c 128 ≡ a → ltb c 2048 ≡ b → ltb c 65536 ≡ d
    → All IsByte (cond a (c ∷ []) (cond b ((192 + c / 64) ∷ (128 + c % 64) ∷ []) (cond d ((224 + c / 4096) ∷ (128 + c / 64 % 64) ∷ (128 + c % 64) ∷ []) ((240 + c / 262144) ∷ (128 + c / 4096 % 64) ∷ (128 + c / 64 % 64) ∷ (128 + c % 64) ∷ []))))
bytes_at c true b d top p q r =
    let small : c < 128 = ltb-true _ _ p in
    All-cons IsByte c [] (omega arith) (All-nil IsByte)
bytes_at c false true d top p q r =
    let small : c < 2048 = ltb-true _ _ q in
    two (192 + c / 64) (128 + c % 64) (omega arith) (omega arith)
bytes_at c false false true top p q r =
    let small : c < 65536 = ltb-true _ _ r in
    All-cons IsByte (224 + c / 4096) ((128 + c / 64 % 64) ∷ (128 + c % 64) ∷ []) (omega arith) (two (128 + c / 64 % 64) (128 + c % 64) (omega arith) (omega arith))
bytes_at c false false false top p q r =
    All-cons IsByte (240 + c / 262144) ((128 + c / 4096 % 64) ∷ (128 + c / 64 % 64) ∷ (128 + c % 64) ∷ []) (omega arith)
    (All-cons IsByte (128 + c / 4096 % 64) ((128 + c / 64 % 64) ∷ (128 + c % 64) ∷ []) (omega arith) (two (128 + c / 64 % 64) (128 + c % 64) (omega arith) (omega arith)))

encode_bytes : (c : ℕ) → scalar c ≡ true → All IsByte (encode c)
unfolding encode
encode_bytes c is =
    let top : c < 1114112 = ⊎_elim (λ low. omega (arith, low)) (λ high. high.1) (scalar_cases c is) in
    bytes_at c (ltb c 128) (ltb c 2048) (ltb c 65536) top refl refl refl

encodes_bytes : (cs : List ℕ) → scalars cs ≡ true → All IsByte (encodes cs)
encodes_bytes [] is = All-nil IsByte
encodes_bytes (c ∷ cs) is =
    let parts = and_parts (scalar c) (scalars cs) is in
    All-append IsByte (encode c) (encodes cs) (encode_bytes c parts.0) (encodes_bytes cs parts.1)

pub utf8_bytes : (bs : List ℕ) → IsUtf8 bs → All IsByte bs
utf8_bytes bs u = All-same IsByte bs (encodes u.0) (sym u.1.1) (encodes_bytes u.0 u.1.0)

-- ---- texts that are known

pub IsUtf8-decimal : (n : ℕ) → n < 2 ^ 64 → IsUtf8 (decimal n)
IsUtf8-decimal n small = IsUtf8-from_ascii (decimal n) (IsAscii-decimal n small)

-- ---- an id that was read

hex_at : (hex : List ℕ) (k : ℕ) → list_all is_hex_digit hex ≡ true → k < length hex → is_hex_digit (get_or hex k 0) ≡ true
hex_at [] k all lt = absurd (omega arith)
hex_at (d ∷ ds) zero all lt = (and_parts (is_hex_digit d) (list_all is_hex_digit ds) all).0
hex_at (d ∷ ds) (suc k) all lt = hex_at ds k (and_parts (is_hex_digit d) (list_all is_hex_digit ds) all).1 (omega arith)

small_value : (c : ℕ) → is_hex_digit c ≡ true → value_of c < 16
small_value c is = grind (arith, nat_tests)

small_byte : (hex : List ℕ) (k : ℕ) → list_all is_hex_digit hex ≡ true → length hex ≡ 32 → k < 16 → byte_of_digits hex k < 256
small_byte hex k all long lt =
    let first = small_value (get_or hex (2 * k) 0) (hex_at hex (2 * k) all (omega arith)) in
    let second = small_value (get_or hex (2 * k + 1) 0) (hex_at hex (2 * k + 1) all (omega arith)) in
    omega arith

whole_index : (hex : List ℕ) → list_all is_hex_digit hex ≡ true → length hex ≡ 32 → IsId (by_index 16 (byte_of_digits hex))
whole_index hex all long =
    let many = by_index_length 16 (byte_of_digits hex) in (
      many,
      all_fit (by_index 16 (byte_of_digits hex)) (λ k lt. rw (by_index_at 16 (byte_of_digits hex) k 0 (omega arith)) (small_byte hex k all long (omega arith))),
    )

simple_whole : (hex id : List ℕ) (long digits : Bool) → (length hex == 32) ≡ long → list_all is_hex_digit hex ≡ digits
    → (if long && digits then Some (by_index 16 (byte_of_digits hex)) else None) ≡ Some id → IsId id
simple_whole hex id true true p q is =
    let len : length hex ≡ 32 = grind (arith, nat_tests) in
    let same : by_index 16 (byte_of_digits hex) ≡ id = cc is in
    subst IsId same (whole_index hex q len)
simple_whole hex id true false p q is = absurd (cc is)
simple_whole hex id false digits p q is = absurd (cc is)

hyphenated_whole : (text id : List ℕ) (fits : Bool) → (if fits then parsed_simple (digits_of text) else None) ≡ Some id → IsId id
hyphenated_whole text id true is =
    let hex = digits_of text in simple_whole hex id (length hex == 32) (list_all is_hex_digit hex) refl refl is
hyphenated_whole text id false is = absurd (cc is)

pub id_whole : (text id : List ℕ) → id_of text ≡ Some id → IsId id
id_whole text id is = hyphenated_whole text id ((length text == 36) && has_hyphens text) is
