-- The digits of words and draws: that they are ASCII, what is read of them, and that they tell one from another.
use Rattle.std.proofs.Common.{◌≡◌, ℕ, ◌<◌, ◌^◌, ◌==◌, List, length, take, drop, Result, Ok, Err, MatchResult, Option, Some, None, option_map, IsUtf8, Bool, true, false, arith, refl, sym, ap, ◌∙◌, length-append}
use Rattle.std.specs.Int.{from_be_bytes, to_be_bytes, w128}
use Rattle.std.specs.Result.{result_ok}
use Rattle.std.proofs.lemmas.Bool.{false_from_ne_true}
use Rattle.std.proofs.lemmas.Bool.Decides.{nat_tests}
use Rattle.std.proofs.Math.Seq.{take-append_seam, drop-append_seam}
use Rattle.std.proofs.lemmas.Str.{IsUtf8-append, IsUtf8-from_ascii}
use Rattle.hex.specs.Hex.{decode_of, decode_sized, encode_lower, lower_digits}
use Rattle.hex.specs.declared.error.FromHexError.{FromHexError}
use Rattle.hex.proofs.HexLemmas.{IsAscii-encode_with, decode_of-encode_lower, decode_sized-encode_lower, length-encode_with}
use Rattle.lrs_json.proofs.SmallBytes.{IsAscii-small}
use Rattle.lrs_names.proofs.WordBytes.{same_word, small_word_bytes, word_again}
use Rattle.lrs_names.specs.declared.draw.Draw.{Draw}
use Rattle.lrs_fields.specs.Digits.{HoldsDraw, draw_from, draw_of, draw_text, word_of, word_text}

IsUtf8-word_text : (word : ℕ) → IsUtf8 (word_text word)
unfolding word_text
IsUtf8-word_text word = IsUtf8-from_ascii (word_text word) (IsAscii-encode_with lower_digits (to_be_bytes w128 word) (IsAscii-small lower_digits refl))

pub IsUtf8-digits : (bytes : List ℕ) → IsUtf8 (encode_lower bytes)
IsUtf8-digits bytes = IsUtf8-from_ascii (encode_lower bytes) (IsAscii-encode_with lower_digits bytes (IsAscii-small lower_digits refl))

pub IsUtf8-draw_text : (draw : Draw) → IsUtf8 (draw_text draw)
IsUtf8-draw_text draw = IsUtf8-append _ _ (IsUtf8-word_text draw.name) (IsUtf8-word_text draw.secret)

pub length-word_text : (word : ℕ) → length (word_text word) ≡ 32
unfolding word_text
length-word_text word = length-encode_with lower_digits (to_be_bytes w128 word)

-- ---- what is read of digits

word_from : (d : Result (List ℕ) FromHexError) (out : List ℕ) (result : Result (Unit {0}) FromHexError) → MatchResult d (λ bytes. (result ≡ Ok tt) × (out ≡ bytes)) (λ e. result ≡ Err e)
    → result ≡ Ok tt → Some (from_be_bytes w128 out) ≡ option_map (from_be_bytes w128) (result_ok d)
word_from (Ok bytes) out result decodes well = ap (λ (b : List ℕ). Some (from_be_bytes w128 b)) decodes.1
word_from (Err e) out result decodes well = absurd (cc (decodes, well))

none_from : (d : Result (List ℕ) FromHexError) (out : List ℕ) (result : Result (Unit {0}) FromHexError) (refused : FromHexError)
    → MatchResult d (λ bytes. (result ≡ Ok tt) × (out ≡ bytes)) (λ e. result ≡ Err e) → result ≡ Err refused → None ≡ option_map (from_be_bytes w128) (result_ok d)
none_from (Ok bytes) out result refused decodes ill = absurd (cc (decodes.0, ill))
none_from (Err e) out result refused decodes ill = refl

-- what is made of the bytes that are decoded is the word
pub word_found : (digits out : List ℕ) (result : Result (Unit {0}) FromHexError) → MatchResult (decode_sized digits 16) (λ bytes. (result ≡ Ok tt) × (out ≡ bytes)) (λ e. result ≡ Err e)
    → result ≡ Ok tt → Some (from_be_bytes w128 out) ≡ word_of digits
unfolding word_of
word_found digits out result decodes well = word_from (decode_sized digits 16) out result decodes well

-- there is none where the digits can't be decoded
pub word_missing : (digits out : List ℕ) (result : Result (Unit {0}) FromHexError) (refused : FromHexError)
    → MatchResult (decode_sized digits 16) (λ bytes. (result ≡ Ok tt) × (out ≡ bytes)) (λ e. result ≡ Err e) → result ≡ Err refused → None ≡ word_of digits
unfolding word_of
word_missing digits out result refused decodes ill = none_from (decode_sized digits 16) out result refused decodes ill

read_word : (word : ℕ) → word < 2 ^ 128 → word_of (word_text word) ≡ Some word
unfolding word_of word_text
read_word word small =
    let sized : decode_sized (encode_lower (to_be_bytes w128 word)) 16 ≡ Ok (to_be_bytes w128 word) = decode_sized-encode_lower (to_be_bytes w128 word) 16 refl (small_word_bytes word) in
    ap (λ (d : Result (List ℕ) FromHexError). option_map (from_be_bytes w128) (result_ok d)) sized ∙ ap Some (word_again word small)

-- other digits than 64 are no draw's
pub draw_missing : (digits : List ℕ) → (length digits ≡ 64 → ⊥) → None ≡ draw_of digits
unfolding draw_of
draw_missing digits other =
    let test : (length digits == 64) ≡ false = false_from_ne_true (length digits == 64) (λ same. other (grind (arith, nat_tests, same))) in
    rw test refl

halves : (digits : List ℕ) → length digits ≡ 64 → draw_of digits ≡ draw_from (word_of (take 32 digits)) (word_of (drop 32 digits))
unfolding draw_of
halves digits long = let test : (length digits == 64) ≡ true = rw long refl in rw test refl

-- the draw of the words that are read of the two halves
pub draw_made : (digits : List ℕ) (name secret : Option ℕ) → length digits ≡ 64 → name ≡ word_of (take 32 digits) → secret ≡ word_of (drop 32 digits) → draw_from name secret ≡ draw_of digits
draw_made digits name secret long first second =
    sym (halves digits long ∙ ap (λ (n : Option ℕ). draw_from n (word_of (drop 32 digits))) (sym first) ∙ ap (λ (s : Option ℕ). draw_from name s) (sym second))

pub length-draw_text : (draw : Draw) → length (draw_text draw) ≡ 64
length-draw_text draw = length-append (word_text draw.name) (word_text draw.secret) ∙ rw (length-word_text draw.name, length-word_text draw.secret) refl

-- the two halves of a draw's digits
pub first_half : (draw : Draw) (digits : List ℕ) → digits ≡ draw_text draw → take 32 digits ≡ word_text draw.name
first_half draw digits is =
    ap (take 32) is ∙ ap (λ n. take n (draw_text draw)) (sym (length-word_text draw.name)) ∙ take-append_seam (word_text draw.name) (word_text draw.secret)

pub second_half : (draw : Draw) (digits : List ℕ) → digits ≡ draw_text draw → drop 32 digits ≡ word_text draw.secret
second_half draw digits is =
    ap (drop 32) is ∙ ap (λ n. drop n (draw_text draw)) (sym (length-word_text draw.name)) ∙ drop-append_seam (word_text draw.name) (word_text draw.secret)

pub read_draw : (draw : Draw) → HoldsDraw draw → draw_of (draw_text draw) ≡ Some draw
read_draw draw holds =
    let name : word_of (take 32 (draw_text draw)) ≡ Some draw.name = ap word_of (first_half draw (draw_text draw) refl) ∙ read_word draw.name holds.0 in
    let secret : word_of (drop 32 (draw_text draw)) ≡ Some draw.secret = ap word_of (second_half draw (draw_text draw) refl) ∙ read_word draw.secret holds.1 in
    sym (draw_made (draw_text draw) (Some draw.name) (Some draw.secret) (length-draw_text draw) (sym name) (sym secret))

-- ---- the digits tell

told_word : (a b : ℕ) → a < 2 ^ 128 → b < 2 ^ 128 → word_text a ≡ word_text b → a ≡ b
unfolding word_text
told_word a b x y e =
    let bytes : ◌≡◌ {A = Result (List ℕ) FromHexError} (Ok (to_be_bytes w128 a)) (Ok (to_be_bytes w128 b)) =
    sym (decode_of-encode_lower (to_be_bytes w128 a) (small_word_bytes a)) ∙ ap decode_of e ∙ decode_of-encode_lower (to_be_bytes w128 b) (small_word_bytes b) in
    same_word a b x y (cc bytes)

pub told_draw : (a b : Draw) → HoldsDraw a → HoldsDraw b → draw_text a ≡ draw_text b → a ≡ b
told_draw a b x y e =
    let name : a.name ≡ b.name = told_word _ _ x.0 y.0 (sym (first_half a (draw_text a) refl) ∙ first_half b (draw_text a) e) in
    let secret : a.secret ≡ b.secret = told_word _ _ x.1 y.1 (sym (second_half a (draw_text a) refl) ∙ second_half b (draw_text a) e) in
    rw (name, secret) refl
