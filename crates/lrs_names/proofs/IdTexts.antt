-- The text of an id is ASCII, and tells the id.
use Rattle.std.proofs.Common.{◌≡◌, ℕ, ◌<◌, List, Some, IsAscii, IsUtf8, arith, inl, refl, sym, ap, ◌∙◌}
use Rattle.std.proofs.lemmas.Bool.Decides.{nat_tests}
use Rattle.std.proofs.lemmas.Str.{IsUtf8-from_ascii}
use Rattle.uuid.specs.Text.{hex_digit, nibble, digit_place, lower}
use Rattle.uuid.proofs.TextLemmas.{by_index_ascii, nibble_small}
use Rattle.uuid.proofs.RoundTrips.{parses_hyphenated_text}
use Rattle.lrs_names.specs.Ids.{IsId, id_of, id_text}

small_digit : (d : ℕ) → d < 16 → hex_digit lower d < 128
small_digit d small = grind (arith, nat_tests)

IsAscii-id_text : (id : List ℕ) → IsAscii (id_text id)
IsAscii-id_text id =
    by_index_ascii 36 _ (λ k within.
    let small : hex_digit lower (nibble id (digit_place k)) < 128 = small_digit _ (nibble_small id (digit_place k)) in
    grind (arith, nat_tests))

pub IsUtf8-id_text : (id : List ℕ) → IsUtf8 (id_text id)
IsUtf8-id_text id = IsUtf8-from_ascii (id_text id) (IsAscii-id_text id)

pub id_of-id_text : (id : List ℕ) → IsId id → id_of (id_text id) ≡ Some id
id_of-id_text id is = sym (parses_hyphenated_text lower id (inl refl) is.0 is.1)

-- two ids of one text are the same
pub same_id : (a b : List ℕ) → IsId a → IsId b → id_text a ≡ id_text b → a ≡ b
same_id a b x y e = let same : Some a ≡ Some b = sym (id_of-id_text a x) ∙ ap id_of e ∙ id_of-id_text b y in cc same
