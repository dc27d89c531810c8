-- What is found at the front of the bytes stands there, and what stands there is found: the parts.
use Rattle.std.proofs.Common.{◌≡◌, ◌-◌, ◌==◌, ℕ, zero, suc, List, [], ◌∷◌, ◌++◌, length, take, drop, Bool, true, false, Option, Some, None, option_map, if◌then◌else◌, nat_eq, refl, sym, ap, ◌∙◌, subst, arith, length-append, IsUtf8}
use Rattle.std.specs.List.{flat_map, starts_with}
use Rattle.std.proofs.lemmas.Bool.{eqb-true}
use Rattle.std.proofs.lemmas.List.{take-append-drop}
use Rattle.std.proofs.lemmas.Option.{none-some, same_Some, option_and_then_some, some_pair_parts}
use Rattle.std.proofs.lemmas.Str.{IsUtf8-from_is_utf8}
use Rattle.lrs_decimal.proofs.NumberLemmas.{number_again, len_found, behind_len}
use Rattle.lrs_decimal.proofs.Runs.{take_front}
use Rattle.lrs_decimal.specs.Numbers.{Ends, number_end}
use Rattle.lrs_json_reader.proofs.Spaces.{Spaces-behind, behind-Spaces, word_here}
use Rattle.lrs_json_reader.specs.Grammar.{Chars, Comma, Quoted, Spaces, Value}
use Rattle.lrs_json_reader.specs.Located.{Located, number}
use Rattle.lrs_json_reader.specs.Strings.{piece_at, piece_text}
use Rattle.lrs_json_reader.specs.declared.strings.Piece.{Piece}
use Rattle.lrs_json_spelled.specs.Spelled.{comma_at, number_at, past, quoted_at, text_at, without_spaces, word_at}

-- ---- tests and options

pub if_found : {A R : Type 0} (t : Bool) (x y z : A) → (if t then x else y) ≡ z → (t ≡ true → x ≡ z → R) → (t ≡ false → y ≡ z → R) → R
if_found true x y z e k l = k refl e
if_found false x y z e k l = l refl e

pub map_found : {A B R : Type 0} (f : A → B) (o : Option A) (y : B) → option_map f o ≡ Some y → ((x : A) → o ≡ Some x → f x ≡ y → R) → R
map_found f None y e k = absurd (none-some y e)
map_found f (Some x) y e k = k x refl (same_Some (f x) y e)

pub past_found : (k : ℕ) (bytes rest : List ℕ) → past k bytes ≡ Some rest → bytes ≡ k ∷ rest
past_found k [] rest e = absurd (none-some rest e)
past_found k (b ∷ bs) rest e =
    if_found (b == k) (Some bs) None (Some rest) e
    (λ t h. let same : b ≡ k = eqb-true b k t in let tail : bs ≡ rest = same_Some bs rest h in cc)
    (λ t h. absurd (none-some rest h))

-- ---- white space and commas

pub comma_found : (later : Bool) (bytes rest : List ℕ) → comma_at later bytes ≡ Some rest → Comma later bytes rest
comma_found false bytes rest e = same_Some bytes rest e
comma_found true bytes rest e = subst (λ z. Spaces bytes z) (past_found 44 (without_spaces bytes) rest e) (Spaces-behind bytes)

pub comma_again : (later : Bool) (bytes rest : List ℕ) → Comma later bytes rest → comma_at later bytes ≡ Some rest
comma_again false bytes rest c = ap Some c
comma_again true bytes rest c = ap (past 44) (behind-Spaces bytes (44 ∷ rest) c refl)

-- ---- words and numbers

pub word_found : (word : List ℕ) (means p : Located) (bytes rest : List ℕ) → word_at word means bytes ≡ Some (p, rest) → (means ≡ p) × (bytes ≡ word ++ rest)
unfolding word_at
word_found word means p bytes rest e =
    if_found (starts_with nat_eq bytes word) (Some (means, drop (length word) bytes)) None (Some (p, rest)) e
    (λ t h. let parts = some_pair_parts _ p _ rest h in (parts.0, word_here bytes word (sym t) ∙ ap (λ z. word ++ z) parts.1))
    (λ t h. absurd (none-some _ h))

pub number_found_at : (p : Located) (bytes rest : List ℕ) → number_at bytes ≡ Some (p, rest) → Value p bytes rest
unfolding number_at
number_found_at p bytes rest e =
    map_found _ (number_end bytes) (p, rest) e (λ x ends h.
    let n = length bytes - length x in
    let parts = some_pair_parts (number (length bytes) (take n bytes)) p x rest (ap Some h) in
    let whole : bytes ≡ take n bytes ++ rest = sym (take-append-drop n bytes) ∙ ap (λ z. take n bytes ++ z) (behind_len bytes x n ends refl ∙ parts.1) in
    subst (λ z. Value z bytes rest) parts.0 (whole, (len_found bytes x n ends refl).1, refl))

number_length : (s rest bytes : List ℕ) → bytes ≡ s ++ rest → length bytes - length rest ≡ length s
number_length s rest bytes e = omega (arith, ap length e, length-append s rest)

pub number_at_again : (left : ℕ) (s bytes rest : List ℕ) → Value (number left s) bytes rest → Ends rest → number_at bytes ≡ Some (number left s, rest)
unfolding number_at
number_at_again left s bytes rest v ends =
    let found : number_end bytes ≡ Some rest = ap number_end v.0 ∙ number_again s rest v.1 ends in
    let taken : take (length bytes - length rest) bytes ≡ s = ap (λ k. take k bytes) (number_length s rest bytes v.0) ∙ ap (take (length s)) v.0 ∙ take_front s rest in
    rw (found, taken, v.2) refl

-- ---- strings

pub text_found : (n : ℕ) (text bytes rest : List ℕ) → text_at n bytes ≡ Some (text, rest) → (ps : List Piece) × Chars ps bytes rest × (text ≡ flat_map piece_text ps)
unfolding text_at
text_found zero text bytes rest e = absurd (none-some _ e)
text_found (suc n) text [] rest e = absurd (none-some _ e)
text_found (suc n) text (b ∷ bs) rest e =
    if_found (b == 34) _ _ (Some (text, rest)) e
    (λ t h. let quote : b ≡ 34 = eqb-true b 34 t in let parts = some_pair_parts [] text bs rest h in let tail = parts.1 in ([], cc (quote, tail), sym parts.0))
    (λ t h. option_and_then_some _ (piece_at (b ∷ bs)) (text, rest) h (λ piece is more.
    option_and_then_some _ (text_at n piece.1) (text, rest) more (λ found follows whole.
    let d = text_found n found.0 piece.1 found.1 follows in
    let parts = some_pair_parts (piece_text piece.0 ++ found.0) text found.1 rest whole in
    (piece.0 ∷ d.0, (piece.1, is, subst (λ z. Chars d.0 piece.1 z) parts.1 d.1), sym parts.0 ∙ ap (λ z. piece_text piece.0 ++ z) d.2))))

pub quoted_found : (text bytes rest : List ℕ) → quoted_at bytes ≡ Some (text, rest) → Quoted text bytes rest
unfolding quoted_at
quoted_found text bytes rest e =
    option_and_then_some _ (past 34 bytes) (text, rest) e (λ begin is more.
    option_and_then_some _ (text_at (suc (length begin)) begin) (text, rest) more (λ found follows whole.
    if_found _ (Some found) None (Some (text, rest)) whole
    (λ t h.
    let parts = some_pair_parts found.0 text found.1 rest h in
    let d = text_found (suc (length begin)) found.0 begin found.1 follows in
    (d.0, begin, past_found 34 bytes begin is, subst (λ z. Chars d.0 begin z) parts.1 d.1, sym parts.0 ∙ d.2, subst IsUtf8 parts.0 (IsUtf8-from_is_utf8 found.0 t)))
    (λ t h. absurd (none-some _ h))))
