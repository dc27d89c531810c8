-- What is behind the closing quote of a written string.
use Rattle.std.proofs.Common.{◌≡◌, ◌≢◌, ◌<◌, ℕ, suc, ◌+◌, ◌/◌, ◌%◌, ◌==◌, nat_lt, drop, cond, List, [], ◌∷◌, ◌++◌, Bool, true, false, refl, sym, ap, ◌∙◌, arith, append_assoc}
use Rattle.std.specs.List.{flat_map, prefix_len}
use Rattle.std.proofs.lemmas.Grind.{common_steps}
use Rattle.lrs_json.specs.Written.{escaped, hex_digit_of, is_plain}
use Rattle.lrs_json_reader.proofs.Escapes.{control_escaped, is_short}
use Rattle.lrs_json_slices.specs.Scanning.{behind_quote}

-- a byte that is no quote and no backslash
no_mark : (b : ℕ) (x : List ℕ) → b ≢ 34 → b ≢ 92 → behind_quote false (b ∷ x) ≡ behind_quote false x
no_mark b x q k =
    let n : (b == 34) ≡ false = grind (arith, common_steps) in
    let m : (b == 92) ≡ false = grind (arith, common_steps) in
    rw (n, m) refl

plain_step : (b : ℕ) (x : List ℕ) → is_plain b ≡ true → behind_quote false (b ∷ x) ≡ behind_quote false x
plain_step b x p =
    let q : b ≢ 34 = grind (arith, common_steps) in
    let k : b ≢ 92 = grind (arith, common_steps) in
    no_mark b x q k

-- ---- bytes that stand for themselves

plain_at : (b : ℕ) (bs : List ℕ) (plain : Bool) → is_plain b ≡ plain → behind_quote false (drop (prefix_len is_plain bs) bs) ≡ behind_quote false bs
    → behind_quote false (drop (cond plain (1 + prefix_len is_plain bs) 0) (b ∷ bs)) ≡ behind_quote false (b ∷ bs)
plain_at b bs true p rest = let one : 1 + prefix_len is_plain bs ≡ suc (prefix_len is_plain bs) = omega arith in rw one (rest ∙ sym (plain_step b bs p))
plain_at b bs false p rest = refl

pub plain_passed : (bs : List ℕ) → behind_quote false (drop (prefix_len is_plain bs) bs) ≡ behind_quote false bs
plain_passed [] = refl
plain_passed (b ∷ bs) = plain_at b bs (is_plain b) refl (plain_passed bs)

-- ---- escapes

hex_no_mark : (n : ℕ) → n < 16 → (hex_digit_of n ≢ 34) × (hex_digit_of n ≢ 92)
hex_no_mark n l = (grind (arith, common_steps), grind (arith, common_steps))

short_step : (b : ℕ) (x : List ℕ) → is_short b ≡ true → behind_quote false (escaped b ++ x) ≡ behind_quote false x
unfolding escaped
short_step b x s = grind (arith, common_steps)

control_step : (b : ℕ) (x : List ℕ) → is_short b ≡ false → nat_lt b 32 ≡ true → behind_quote false (escaped b ++ x) ≡ behind_quote false x
control_step b x s n =
    let l : b < 32 = grind (arith, common_steps) in
    let h = hex_no_mark (b / 16) (omega arith) in
    let k = hex_no_mark (b % 16) (omega arith) in
    ap (λ e. behind_quote false (e ++ x)) (control_escaped b s n) ∙ no_mark (hex_digit_of (b / 16)) (hex_digit_of (b % 16) ∷ x) h.0 h.1 ∙ no_mark (hex_digit_of (b % 16)) x k.0 k.1

itself_escaped : (b : ℕ) → is_short b ≡ false → nat_lt b 32 ≡ false → escaped b ≡ b ∷ []
unfolding escaped
itself_escaped b s n = grind (arith, common_steps)

itself_step : (b : ℕ) (x : List ℕ) → is_short b ≡ false → nat_lt b 32 ≡ false → behind_quote false (escaped b ++ x) ≡ behind_quote false x
itself_step b x s n =
    let q : b ≢ 34 = grind (arith, common_steps) in
    let k : b ≢ 92 = grind (arith, common_steps) in
    ap (λ e. behind_quote false (e ++ x)) (itself_escaped b s n) ∙ no_mark b x q k

escaped_at : (b : ℕ) (x : List ℕ) (short low : Bool) → is_short b ≡ short → nat_lt b 32 ≡ low → behind_quote false (escaped b ++ x) ≡ behind_quote false x
escaped_at b x true low s n = short_step b x s
escaped_at b x false true s n = control_step b x s n
escaped_at b x false false s n = itself_step b x s n

-- ---- the whole

text_left : (text rest : List ℕ) → behind_quote false (flat_map escaped text ++ 34 ∷ rest) ≡ rest
text_left [] rest = refl
text_left (b ∷ text) rest =
    ap (behind_quote false) (append_assoc (escaped b) (flat_map escaped text) (34 ∷ rest))
    ∙ escaped_at b (flat_map escaped text ++ 34 ∷ rest) (is_short b) (nat_lt b 32) refl refl ∙ text_left text rest

-- the text and its closing quote, as they stand behind the opening one
pub quote_left : (text rest : List ℕ) → behind_quote false ((flat_map escaped text ++ 34 ∷ []) ++ rest) ≡ rest
quote_left text rest = ap (behind_quote false) (append_assoc (flat_map escaped text) (34 ∷ []) rest) ∙ text_left text rest
