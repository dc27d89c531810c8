-- A word of 128 bits and its sixteen bytes.
use Rattle.std.proofs.Common.{◌≡◌, ℕ, zero, suc, ◌<◌, ◌^◌, ◌%◌, slice_index, arith, sym, ap, ◌∙◌}
use Rattle.std.specs.Int.{byte_at, bytes_high_first, from_be_bytes, to_be_bytes, w128}
use Rattle.uuid.proofs.OrderLemmas.{from_be_bytes-to_be_bytes_16}
use Rattle.lrs_names.specs.Ids.{bits_of, id_of_word}
use Rattle.lrs_names.specs.declared.id.TheConstants.{WORDS}

small_byte : (k n : ℕ) → byte_at k n < 256
small_byte zero n = omega arith
small_byte (suc k) n = omega arith

small_bytes : (k n i : ℕ) → slice_index (bytes_high_first k n) i < 256
small_bytes zero n i = omega arith
small_bytes (suc k) n zero = small_byte k n
small_bytes (suc k) n (suc i) = small_bytes k n i

pub small_word_bytes : (word i : ℕ) → slice_index (to_be_bytes w128 word) i < 256
small_word_bytes word i = small_bytes 16 word i

pub word_again : (word : ℕ) → word < 2 ^ 128 → from_be_bytes w128 (to_be_bytes w128 word) ≡ word
word_again = from_be_bytes-to_be_bytes_16

-- two words of the same bytes are the same
pub same_word : (a b : ℕ) → a < 2 ^ 128 → b < 2 ^ 128 → to_be_bytes w128 a ≡ to_be_bytes w128 b → a ≡ b
same_word a b x y e = sym (word_again a x) ∙ ap (from_be_bytes w128) e ∙ word_again b y

same_bits : (a b : ℕ) → a < WORDS → b < WORDS → bits_of a ≡ bits_of b → a ≡ b
same_bits a b x y e = omega arith

small_bits : (a : ℕ) → a < WORDS → bits_of a < 2 ^ 128
small_bits a x = omega arith

below : (w : ℕ) → w % WORDS < WORDS
below w = omega arith

-- words of one id are the same modulo `WORDS`
pub same_remainder : (a b : ℕ) → id_of_word a ≡ id_of_word b → a % WORDS ≡ b % WORDS
same_remainder a b e =
    same_bits (a % WORDS) (b % WORDS) (below a) (below b)
    (same_word (bits_of (a % WORDS)) (bits_of (b % WORDS)) (small_bits _ (below a)) (small_bits _ (below b)) e)

pub same_id_word : (a b : ℕ) → a < WORDS → b < WORDS → id_of_word a ≡ id_of_word b → a ≡ b
same_id_word a b x y e = let same : a % WORDS ≡ b % WORDS = same_remainder a b e in omega arith
