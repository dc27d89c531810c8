-- What stands there is read, in twice as many steps as there are bytes.
use Rattle.std.proofs.Common.{◌≡◌, ◌<◌, ◌≤◌, ◌+◌, ◌*◌, ◌==◌, ℕ, zero, suc, List, [], ◌∷◌, ◌++◌, length, Bool, true, false, Some, None, codes, refl, sym, ap, ◌∙◌, subst, arith, length-append, true≢false, IsTrue, IsUtf8}
use Rattle.std.specs.List.{flat_map}
use Rattle.std.specs.Str.{is_utf8}
use Rattle.std.proofs.lemmas.Bool.{ne_eqb}
use Rattle.std.proofs.lemmas.Option.{none-some}
use Rattle.std.proofs.lemmas.Str.{is_utf8-from_IsUtf8}
use Rattle.lrs_decimal.proofs.NumberLemmas.{begins_number, IsNumber-begins}
use Rattle.lrs_decimal.specs.Numbers.{Ends, Stops}
use Rattle.lrs_json_reader.proofs.Ends.{Listed-Ends, Paired-Ends, Quoted-Opens, Value-Opens}
use Rattle.lrs_json_reader.proofs.Spaces.{behind-Spaces}
use Rattle.lrs_json_reader.proofs.StepLemmas.{Spaces-length}
use Rattle.lrs_json_reader.proofs.Values.{Value-Stops, starts}
use Rattle.lrs_json_reader.specs.Grammar.{Chars, Comma, Listed, Paired, Quoted, Spaces, Value, is_space}
use Rattle.lrs_json_reader.specs.Located.{Located, null, boolean, number, string, array, object, Elements, no_elements, element, Members, no_members, member}
use Rattle.lrs_json_reader.specs.Steps.{Opens}
use Rattle.lrs_json_reader.specs.Strings.{next_at, piece_at, piece_text}
use Rattle.lrs_json_reader.specs.declared.strings.Piece.{Piece}
use Rattle.lrs_json_spelled.proofs.Fronts.{comma_again, number_at_again}
use Rattle.lrs_json_spelled.proofs.Pieces.{piece_shorter}
use Rattle.lrs_json_spelled.specs.Spelled.{Readers, element_by, member_by, number_at, or_end, past, quoted_at, readers, text_at, value_by, without_spaces, word_at}

-- ---- strings

no_piece : (bytes : List ℕ) (p : Piece) (rest : List ℕ) → piece_at (34 ∷ bytes) ≡ Some (p, rest) → ⊥
unfolding piece_at next_at
no_piece bytes p rest e = none-some _ e

-- a piece doesn't begin at a quote
piece_opens : (b : ℕ) (bs : List ℕ) (p : Piece) (rest : List ℕ) → piece_at (b ∷ bs) ≡ Some (p, rest) → (b == 34) ≡ false
piece_opens b bs p rest e = ne_eqb b 34 (λ q. no_piece bs p rest (subst (λ z. piece_at (z ∷ bs) ≡ Some (p, rest)) q e))

piece_shows : (p : Piece) (rest : List ℕ) → piece_at [] ≡ Some (p, rest) → ⊥
unfolding piece_at next_at
piece_shows p rest e = none-some _ e

text_again : (n : ℕ) (ps : List Piece) (bytes rest : List ℕ) → length bytes < n → Chars ps bytes rest → text_at n bytes ≡ Some (flat_map piece_text ps, rest)
unfolding text_at
text_again zero ps bytes rest l ch = absurd (omega arith)
text_again (suc n) [] bytes rest l ch = rw ch refl
text_again (suc n) (p ∷ ps) [] rest l ch = absurd (piece_shows p ch.0 ch.1)
text_again (suc n) (p ∷ ps) (b ∷ bs) rest l ch =
    let more = text_again n ps ch.0 rest (omega (arith, piece_shorter (b ∷ bs) p ch.0 ch.1)) ch.2 in
    rw (piece_opens b bs p ch.0 ch.1, ch.1, more) refl

quoted_again : (text bytes rest : List ℕ) → Quoted text bytes rest → quoted_at bytes ≡ Some (text, rest)
unfolding quoted_at
quoted_again text bytes rest q =
    let read = text_again (suc (length q.1)) q.0 q.1 rest (omega arith) q.3 in
    let utf8 : is_utf8 (flat_map piece_text q.0) ≡ true = is_utf8-from_IsUtf8 (flat_map piece_text q.0) (subst IsUtf8 q.4 q.5) in
    rw (q.2, read, utf8, q.4) refl

-- ---- lengths

Chars_shorter : (ps : List Piece) (bytes rest : List ℕ) → Chars ps bytes rest → length rest < length bytes
Chars_shorter [] bytes rest ch = omega (arith, ap length ch)
Chars_shorter (p ∷ ps) bytes rest ch = omega (arith, piece_shorter bytes p ch.0 ch.1, Chars_shorter ps ch.0 rest ch.2)

Quoted_shorter : (text bytes rest : List ℕ) → Quoted text bytes rest → length rest < length bytes
Quoted_shorter text bytes rest q = omega (arith, ap length q.2, Chars_shorter q.0 q.1 rest q.3)

Comma_length : (later : Bool) (bytes rest : List ℕ) → Comma later bytes rest → length rest ≤ length bytes
Comma_length false bytes rest c = omega (arith, ap length c)
Comma_length true bytes rest c = omega (arith, Spaces-length bytes (44 ∷ rest) c)

front_shorter : (s bytes rest : List ℕ) (b : ℕ) (more : List ℕ) → s ≡ b ∷ more → bytes ≡ s ++ rest → length rest < length bytes
front_shorter s bytes rest b more begins e = omega (arith, ap length begins, ap length e, length-append s rest)

mutual
  value_shorter : (p : Located) (bytes rest : List ℕ) → Value p bytes rest → length rest < length bytes
  value_shorter null bytes rest v = front_shorter (codes "null") bytes rest _ _ refl v
  value_shorter (boolean true) bytes rest v = front_shorter (codes "true") bytes rest _ _ refl v
  value_shorter (boolean false) bytes rest v = front_shorter (codes "false") bytes rest _ _ refl v
  value_shorter (number left s) bytes rest v = let b = IsNumber-begins s v.1 in front_shorter s bytes rest b.0 b.1 b.2 v.0
  value_shorter (string s) bytes rest v = Quoted_shorter s bytes rest v
  value_shorter (array ps) bytes rest v = omega (arith, ap length v.1, listed_shorter ps false v.0 rest v.2)
  value_shorter (object ms) bytes rest v = omega (arith, ap length v.1, paired_shorter ms false v.0 rest v.2)

  listed_shorter : (ps : Elements) (later : Bool) (bytes rest : List ℕ) → Listed later ps bytes rest → length rest < length bytes
  listed_shorter no_elements later bytes rest l = omega (arith, Spaces-length bytes (93 ∷ rest) l)
  listed_shorter (element p ps) later bytes rest l =
      omega (arith, Comma_length later bytes l.0 l.3, Spaces-length l.0 l.1 l.4, value_shorter p l.1 l.2 l.5, listed_shorter ps true l.2 rest l.6)

  paired_shorter : (ms : Members) (later : Bool) (bytes rest : List ℕ) → Paired later ms bytes rest → length rest < length bytes
  paired_shorter no_members later bytes rest l = omega (arith, Spaces-length bytes (125 ∷ rest) l)
  paired_shorter (member left k p ms) later bytes rest l =
      omega (
        arith,
        Comma_length later bytes l.0 l.6,
        Spaces-length l.0 l.1 l.7,
        Quoted_shorter k l.1 l.2 l.8,
        Spaces-length l.2 (58 ∷ l.3) l.9,
        Spaces-length l.3 l.4 l.10,
        value_shorter p l.4 l.5 l.11,
        paired_shorter ms true l.5 rest l.12,
      )

-- ---- the readers

-- the readers read what takes no more than half as many bytes
pub record IsComplete (n : ℕ) (r : Readers) : Type 0 where
  pub value : (p : Located) (bytes rest : List ℕ) → 2 * length bytes < n → Value p bytes rest → Ends rest → r.value bytes ≡ Some (p, rest)
  pub elements : (later : Bool) (ps : Elements) (bytes rest : List ℕ) → 2 * length bytes + 1 < n → Listed later ps bytes rest → r.elements later bytes ≡ Some (ps, rest)
  pub members : (later : Bool) (ms : Members) (bytes rest : List ℕ) → 2 * length bytes + 1 < n → Paired later ms bytes rest → r.members later bytes ≡ Some (ms, rest)

not_number : (b c : ℕ) → IsTrue (begins_number b) → begins_number c ≡ false → (b == c) ≡ false
not_number b c d f = ne_eqb b c (λ e. true≢false (sym d ∙ ap begins_number e ∙ f))

number_comes : (r : Readers) (b : ℕ) (bs : List ℕ) → IsTrue (begins_number b) → value_by r (b ∷ bs) ≡ number_at (b ∷ bs)
unfolding value_by
number_comes r b bs d =
    rw (not_number b 110 d refl, not_number b 116 d refl, not_number b 102 d refl, not_number b 34 d refl, not_number b 91 d refl, not_number b 123 d refl) refl

number_again : (r : Readers) (left : ℕ) (s bytes rest : List ℕ) → Value (number left s) bytes rest → Ends rest → value_by r bytes ≡ Some (number left s, rest)
number_again r left s bytes rest v ends =
    let b = starts (number left s) bytes rest v in
    ap (value_by r) b.2 ∙ number_comes r b.0 b.1 b.3 ∙ ap number_at (sym b.2) ∙ number_at_again left s bytes rest v ends

string_again : (r : Readers) (s bytes rest : List ℕ) → Quoted s bytes rest → value_by r bytes ≡ Some (string s, rest)
unfolding value_by
string_again r s bytes rest q = let read = quoted_again s (34 ∷ q.1) rest (subst (λ z. Quoted s z rest) q.2 q) in rw (q.2, read) refl

value_again : (n : ℕ) (r : Readers) → IsComplete n r → (p : Located) (bytes rest : List ℕ) → 2 * length bytes < suc n → Value p bytes rest → Ends rest → value_by r bytes ≡ Some (p, rest)
unfolding value_by word_at
value_again n r c null bytes rest l v ends = rw v refl
value_again n r c (boolean true) bytes rest l v ends = rw v refl
value_again n r c (boolean false) bytes rest l v ends = rw v refl
value_again n r c (number left s) bytes rest l v ends = number_again r left s bytes rest v ends
value_again n r c (string s) bytes rest l v ends = string_again r s bytes rest v
value_again n r c (array ps) bytes rest l v ends = let read = c.elements false ps v.0 rest (omega (arith, ap length v.1)) v.2 in rw (v.1, read) refl
value_again n r c (object ms) bytes rest l v ends = let read = c.members false ms v.0 rest (omega (arith, ap length v.1)) v.2 in rw (v.1, read) refl

Opens_Stops : (close : ℕ) (b : List ℕ) → Opens close b → Stops is_space b
Opens_Stops close [] o = absurd o
Opens_Stops close (x ∷ b) o = o.0

not_past : (close : ℕ) (b : List ℕ) → Opens close b → past close b ≡ None
not_past close [] o = refl
not_past close (x ∷ b) o = rw (ne_eqb x close o.1) refl

-- no closing bracket comes before something more
not_closed : (close : ℕ) (later : Bool) (bytes a b : List ℕ) → (44 == close) ≡ false → Comma later bytes a → Spaces a b → Opens close b → past close (without_spaces bytes) ≡ None
not_closed close false bytes a b k c s o = rw (c, behind-Spaces a b s (Opens_Stops close b o)) (not_past close b o)
not_closed close true bytes a b k c s o = rw (behind-Spaces bytes (44 ∷ a) c refl, k) refl

element_again : (n : ℕ) (r : Readers) → IsComplete n r → (later : Bool) (p : Located) (ps : Elements) (bytes rest : List ℕ) → 2 * length bytes + 1 < suc n → Listed later (element p ps) bytes rest
    → element_by r later bytes ≡ Some (element p ps, rest)
unfolding element_by
element_again n r c later p ps bytes rest l h =
    let shorter = Comma_length later bytes h.0 h.3 in
    let spaces = Spaces-length h.0 h.1 h.4 in
    let taken = value_shorter p h.1 h.2 h.5 in
    let value = c.value p h.1 h.2 (omega arith) h.5 (Listed-Ends ps h.2 rest h.6) in
    let more = c.elements true ps h.2 rest (omega arith) h.6 in
    rw (comma_again later bytes h.0 h.3, behind-Spaces h.0 h.1 h.4 (Value-Stops p h.1 h.2 h.5), value, more) refl

elements_again : (n : ℕ) (r : Readers) → IsComplete n r → (later : Bool) (ps : Elements) (bytes rest : List ℕ) → 2 * length bytes + 1 < suc n → Listed later ps bytes rest
    → or_end no_elements (past 93 (without_spaces bytes)) (element_by r later bytes) ≡ Some (ps, rest)
elements_again n r c later no_elements bytes rest l h = rw (behind-Spaces bytes (93 ∷ rest) h refl) refl
elements_again n r c later (element p ps) bytes rest l h =
    rw (not_closed 93 later bytes h.0 h.1 refl h.3 h.4 (Value-Opens p h.1 h.2 h.5)) (element_again n r c later p ps bytes rest l h)

Quoted_Stops : (text bytes rest : List ℕ) → Quoted text bytes rest → Stops is_space bytes
Quoted_Stops text bytes rest q = rw q.2 refl

member_again : (n : ℕ) (r : Readers) → IsComplete n r → (later : Bool) (left : ℕ) (k : List ℕ) (p : Located) (ms : Members) (bytes rest : List ℕ) → 2 * length bytes + 1 < suc n → Paired later (member left k p ms) bytes rest
    → member_by r later bytes ≡ Some (member left k p ms, rest)
unfolding member_by
member_again n r c later left k p ms bytes rest l h =
    let shorter = Comma_length later bytes h.0 h.6 in
    let spaces = Spaces-length h.0 h.1 h.7 in
    let named = Quoted_shorter k h.1 h.2 h.8 in
    let colon = Spaces-length h.2 (58 ∷ h.3) h.9 in
    let begin = Spaces-length h.3 h.4 h.10 in
    let taken = value_shorter p h.4 h.5 h.11 in
    let value = c.value p h.4 h.5 (omega arith) h.11 (Paired-Ends ms h.5 rest h.12) in
    let more = c.members true ms h.5 rest (omega arith) h.12 in
    rw (
      comma_again later bytes h.0 h.6,
      behind-Spaces h.0 h.1 h.7 (Quoted_Stops k h.1 h.2 h.8),
      quoted_again k h.1 h.2 h.8,
      behind-Spaces h.2 (58 ∷ h.3) h.9 refl,
      behind-Spaces h.3 h.4 h.10 (Value-Stops p h.4 h.5 h.11),
      value,
      more,
      h.13,
    ) refl

members_again : (n : ℕ) (r : Readers) → IsComplete n r → (later : Bool) (ms : Members) (bytes rest : List ℕ) → 2 * length bytes + 1 < suc n → Paired later ms bytes rest
    → or_end no_members (past 125 (without_spaces bytes)) (member_by r later bytes) ≡ Some (ms, rest)
members_again n r c later no_members bytes rest l h = rw (behind-Spaces bytes (125 ∷ rest) h refl) refl
members_again n r c later (member left k p ms) bytes rest l h =
    rw (not_closed 125 later bytes h.0 h.1 refl h.6 h.7 (Quoted-Opens k h.1 h.2 h.8)) (member_again n r c later left k p ms bytes rest l h)

pub readers_complete : (n : ℕ) → IsComplete n (readers n)
unfolding readers
readers_complete zero = record { value = λ p bytes rest l v ends. absurd (omega arith); elements = λ later ps bytes rest l h. absurd (omega arith); members = λ later ms bytes rest l h. absurd (omega arith) }
readers_complete (suc n) =
    let inner = readers_complete n in
    record { value = value_again n (readers n) inner; elements = elements_again n (readers n) inner; members = members_again n (readers n) inner }
