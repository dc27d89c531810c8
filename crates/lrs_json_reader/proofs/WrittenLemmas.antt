-- What is written from a value that fits is a text of it, and what some text spells fits. What fits can be spelled.
use Rattle.std.proofs.Common.{◌≡◌, ℕ, length, if◌then◌else◌, IsUtf8, List, [], ◌∷◌, ◌++◌, Bool, true, false, refl, sym, ap, subst, append_assoc}
use Rattle.std.proofs.lemmas.List.{append-nil}
use Rattle.std.specs.List.{flat_map}
use Rattle.lrs_decimal.specs.Range.{is_in_range}
use Rattle.lrs_json_reader.specs.Strings.{piece_text}
use Rattle.lrs_json_reader.specs.declared.strings.Piece.{Piece}
use Rattle.lrs_json.specs.Json.{Json, null, boolean, number, string, array, object, Elements, no_elements, element, Members, no_members, member}
use Rattle.lrs_json_reader.specs.Located as Located
use Rattle.lrs_json_reader.specs.Located.{plain, plain_elements, plain_members}
use Rattle.lrs_json.specs.Names.{is_among}
use Rattle.lrs_json_reader.specs.Flaws.{repeated_names, repeated_in_elements, repeated_in_members, out_of_range_numbers, out_of_range_in_elements, out_of_range_in_members}
use Rattle.lrs_json_reader.specs.Grammar.{Spaces, Comma, Chars, Quoted, Value, Listed, Paired, IsText}
use Rattle.lrs_json.specs.Written.{escaped, quoted, comma_if, written, elements_text, members_text}
use Rattle.lrs_json.specs.Fits.{Fits, FitElements, FitMembers, IsReadable}
use Rattle.lrs_json.specs.Spellable.{IsSpellable, AreSpellableElements, AreSpellableMembers}
use Rattle.lrs_json_reader.specs.Refusals.{Spells}
use Rattle.lrs_json_reader.proofs.Escapes.{piece_of, piece_again, text_again}

-- ---- what is spelled fits

left_empty : (xs ys : List ℕ) → xs ++ ys ≡ [] → xs ≡ []
left_empty [] ys e = refl
left_empty (x ∷ xs) ys e = cc e

right_empty : (xs ys : List ℕ) → xs ++ ys ≡ [] → ys ≡ []
right_empty [] ys e = e
right_empty (x ∷ xs) ys e = cc e

not_noted : (b : Bool) (left : ℕ) → (if b then left ∷ [] else []) ≡ [] → b ≡ false
not_noted true left e = cc e
not_noted false left e = refl

is_noted : (b : Bool) (left : ℕ) → (if b then [] else left ∷ []) ≡ [] → b ≡ true
is_noted true left e = refl
is_noted false left e = cc e

mutual
  Value-Fits : (p : Located.Located) (bs rest : List ℕ) → Value p bs rest → repeated_names p ≡ [] → out_of_range_numbers p ≡ [] → Fits (plain p)
  Value-Fits Located.null bs rest v r o = tt
  Value-Fits (Located.boolean b) bs rest v r o = tt
  Value-Fits (Located.number left s) bs rest v r o = (v.1, is_noted (is_in_range s) left o)
  Value-Fits (Located.string s) bs rest v r o = v.5
  Value-Fits (Located.array ps) bs rest v r o = Listed-Fits ps false v.0 rest v.2 r o
  Value-Fits (Located.object ms) bs rest v r o = Paired-Fits ms [] false v.0 rest v.2 r o

  Listed-Fits : (ps : Located.Elements) (later : Bool) (bs rest : List ℕ) → Listed later ps bs rest → repeated_in_elements ps ≡ [] → out_of_range_in_elements ps ≡ [] → FitElements (plain_elements ps)
  Listed-Fits Located.no_elements later bs rest l r o = tt
  Listed-Fits (Located.element p ps) later bs rest l r o = (
    Value-Fits p l.1 l.2 l.5 (left_empty (repeated_names p) (repeated_in_elements ps) r) (left_empty (out_of_range_numbers p) (out_of_range_in_elements ps) o),
    Listed-Fits ps true l.2 rest l.6 (right_empty (repeated_names p) (repeated_in_elements ps) r) (right_empty (out_of_range_numbers p) (out_of_range_in_elements ps) o),
  )

  Paired-Fits : (ms : Located.Members) (names : List (List ℕ)) (later : Bool) (bs rest : List ℕ) → Paired later ms bs rest → repeated_in_members names ms ≡ [] → out_of_range_in_members ms ≡ [] → FitMembers names (plain_members ms)
  Paired-Fits Located.no_members names later bs rest l r o = tt
  Paired-Fits (Located.member left k p ms) names later bs rest l r o =
      let own : List ℕ = if is_among k names then left ∷ [] else [] in
      let more = repeated_in_members (k ∷ names) ms in
      let inner = right_empty own (repeated_names p ++ more) r in (
        l.8.5,
        not_noted (is_among k names) left (left_empty own (repeated_names p ++ more) r),
        Value-Fits p l.4 l.5 l.11 (left_empty (repeated_names p) more inner) (left_empty (out_of_range_numbers p) (out_of_range_in_members ms) o),
        Paired-Fits ms (k ∷ names) true l.5 rest l.12 (right_empty (repeated_names p) more inner) (right_empty (out_of_range_numbers p) (out_of_range_in_members ms) o),
      )

-- what some bytes spell can be read
pub Spells-IsReadable : (limit : ℕ) (bytes : List ℕ) (j : Json) → Spells limit bytes j → IsReadable limit j
Spells-IsReadable limit bytes j s = (subst Fits s.is (Value-Fits s.located s.spelled.0 s.spelled.1 s.spelled.3 s.distinct s.in_range), s.shallow)

-- ---- texts

pieces_of : List ℕ → List Piece
pieces_of [] = []
pieces_of (b ∷ s) = piece_of b ∷ pieces_of s

pieces_text : (s : List ℕ) → s ≡ flat_map piece_text (pieces_of s)
unfolding pieces_of
pieces_text [] = refl
pieces_text (b ∷ s) = rw (text_again b, ← pieces_text s) refl

pieces_Chars : (s rest : List ℕ) → Chars (pieces_of s) (flat_map escaped s ++ 34 ∷ rest) rest
unfolding pieces_of
pieces_Chars [] rest = refl
pieces_Chars (b ∷ s) rest =
    let a = flat_map escaped s ++ 34 ∷ rest in
    (a, rw (append_assoc (escaped b) (flat_map escaped s) (34 ∷ rest)) (piece_again b a), pieces_Chars s rest)

pub quoted-Quoted : (s rest : List ℕ) → IsUtf8 s → Quoted s (quoted s ++ rest) rest
quoted-Quoted s rest u =
    (pieces_of s, flat_map escaped s ++ 34 ∷ rest, rw (append_assoc (flat_map escaped s) (34 ∷ []) rest) refl, pieces_Chars s rest, pieces_text s, u)

no_spaces : (bs : List ℕ) → Spaces bs bs
no_spaces bs = ([], tt, refl)

comma_written : (later : Bool) (bs : List ℕ) → Comma later (comma_if later ++ bs) bs
comma_written true bs = no_spaces (44 ∷ bs)
comma_written false bs = refl

-- ---- the value in its written form, with what follows it

abbrev mutual
  pub locate : Json → List ℕ → Located.Located
  locate null rest = Located.null
  locate (boolean b) rest = Located.boolean b
  locate (number s) rest = Located.number (length (s ++ rest)) s
  locate (string s) rest = Located.string s
  locate (array js) rest = Located.array (locate_elements js rest)
  locate (object ms) rest = Located.object (locate_members ms rest)

  locate_elements : Elements → List ℕ → Located.Elements
  locate_elements no_elements rest = Located.no_elements
  locate_elements (element j js) rest = Located.element (locate j (elements_text true js ++ rest)) (locate_elements js rest)

  locate_members : Members → List ℕ → Located.Members
  locate_members no_members rest = Located.no_members
  locate_members (member k j ms) rest =
      let e = members_text true ms ++ rest in
      Located.member (length (quoted k ++ 58 ∷ (written j ++ e))) k (locate j e) (locate_members ms rest)

mutual
  pub plain-locate : (j : Json) (rest : List ℕ) → plain (locate j rest) ≡ j
  plain-locate null rest = refl
  plain-locate (boolean b) rest = refl
  plain-locate (number s) rest = refl
  plain-locate (string s) rest = refl
  plain-locate (array js) rest = ap array (plain-locate_elements js rest)
  plain-locate (object ms) rest = ap object (plain-locate_members ms rest)

  plain-locate_elements : (js : Elements) (rest : List ℕ) → plain_elements (locate_elements js rest) ≡ js
  plain-locate_elements no_elements rest = refl
  plain-locate_elements (element j js) rest = cc (plain-locate j (elements_text true js ++ rest), plain-locate_elements js rest)

  plain-locate_members : (ms : Members) (rest : List ℕ) → plain_members (locate_members ms rest) ≡ ms
  plain-locate_members no_members rest = refl
  plain-locate_members (member k j ms) rest = cc (plain-locate j (members_text true ms ++ rest), plain-locate_members ms rest)

-- what can be read can be spelled
mutual
  pub Fits-IsSpellable : (j : Json) → Fits j → IsSpellable j
  Fits-IsSpellable null f = tt
  Fits-IsSpellable (boolean b) f = tt
  Fits-IsSpellable (number s) f = f.0
  Fits-IsSpellable (string s) f = f
  Fits-IsSpellable (array js) f = elements-spellable js f
  Fits-IsSpellable (object ms) f = members-spellable ms [] f

  elements-spellable : (js : Elements) → FitElements js → AreSpellableElements js
  elements-spellable no_elements f = tt
  elements-spellable (element j js) f = (Fits-IsSpellable j f.0, elements-spellable js f.1)

  members-spellable : (ms : Members) (names : List (List ℕ)) → FitMembers names ms → AreSpellableMembers ms
  members-spellable no_members names f = tt
  members-spellable (member k j ms) names f = (f.0, Fits-IsSpellable j f.2, members-spellable ms (k ∷ names) f.3)

mutual
  pub written-Value : (j : Json) (rest : List ℕ) → IsSpellable j → Value (locate j rest) (written j ++ rest) rest
  written-Value null rest f = refl
  written-Value (boolean true) rest f = refl
  written-Value (boolean false) rest f = refl
  written-Value (number s) rest f = (refl, f, refl)
  written-Value (string s) rest f = quoted-Quoted s rest f
  written-Value (array js) rest f = (elements_text false js ++ rest, refl, text-Listed js false rest f)
  written-Value (object ms) rest f = (members_text false ms ++ rest, refl, text-Paired ms false rest f)

  text-Listed : (js : Elements) (later : Bool) (rest : List ℕ) → AreSpellableElements js → Listed later (locate_elements js rest) (elements_text later js ++ rest) rest
  text-Listed no_elements later rest f = no_spaces (93 ∷ rest)
  text-Listed (element j js) later rest f =
      let c = elements_text true js ++ rest in
      let a = written j ++ c in
      let whole : (comma_if later ++ written j ++ elements_text true js) ++ rest ≡ comma_if later ++ a = simp append_assoc in
      (a, a, c, subst (λ z. Comma later z a) (sym whole) (comma_written later a), no_spaces a, written-Value j c f.0, text-Listed js true rest f.1)

  text-Paired : (ms : Members) (later : Bool) (rest : List ℕ) → AreSpellableMembers ms → Paired later (locate_members ms rest) (members_text later ms ++ rest) rest
  text-Paired no_members later rest f = no_spaces (125 ∷ rest)
  text-Paired (member k j ms) later rest f =
      let e = members_text true ms ++ rest in
      let d = written j ++ e in
      let a = quoted k ++ 58 ∷ d in
      let whole : (comma_if later ++ quoted k ++ 58 ∷ written j ++ members_text true ms) ++ rest ≡ comma_if later ++ a = simp append_assoc in (
        a,
        a,
        58 ∷ d,
        d,
        d,
        e,
        subst (λ z. Comma later z a) (sym whole) (comma_written later a),
        no_spaces a,
        quoted-Quoted k (58 ∷ d) f.0,
        no_spaces (58 ∷ d),
        no_spaces d,
        written-Value j e f.1,
        text-Paired ms true rest f.2,
        refl,
      )

mutual
  locate-distinct : (j : Json) (rest : List ℕ) → Fits j → repeated_names (locate j rest) ≡ []
  locate-distinct null rest f = refl
  locate-distinct (boolean b) rest f = refl
  locate-distinct (number s) rest f = refl
  locate-distinct (string s) rest f = refl
  locate-distinct (array js) rest f = elements-distinct js rest f
  locate-distinct (object ms) rest f = members-distinct ms [] rest f

  elements-distinct : (js : Elements) (rest : List ℕ) → FitElements js → repeated_in_elements (locate_elements js rest) ≡ []
  elements-distinct no_elements rest f = refl
  elements-distinct (element j js) rest f = rw (locate-distinct j (elements_text true js ++ rest) f.0, elements-distinct js rest f.1) refl

  members-distinct : (ms : Members) (names : List (List ℕ)) (rest : List ℕ) → FitMembers names ms → repeated_in_members names (locate_members ms rest) ≡ []
  members-distinct no_members names rest f = refl
  members-distinct (member k j ms) names rest f = rw (f.1, locate-distinct j (members_text true ms ++ rest) f.2, members-distinct ms (k ∷ names) rest f.3) refl

mutual
  locate-in_range : (j : Json) (rest : List ℕ) → Fits j → out_of_range_numbers (locate j rest) ≡ []
  locate-in_range null rest f = refl
  locate-in_range (boolean b) rest f = refl
  locate-in_range (number s) rest f = let in_range : is_in_range s ≡ true = f.1 in rw in_range refl
  locate-in_range (string s) rest f = refl
  locate-in_range (array js) rest f = elements-in_range js rest f
  locate-in_range (object ms) rest f = members-in_range ms [] rest f

  elements-in_range : (js : Elements) (rest : List ℕ) → FitElements js → out_of_range_in_elements (locate_elements js rest) ≡ []
  elements-in_range no_elements rest f = refl
  elements-in_range (element j js) rest f = rw (locate-in_range j (elements_text true js ++ rest) f.0, elements-in_range js rest f.1) refl

  members-in_range : (ms : Members) (names : List (List ℕ)) (rest : List ℕ) → FitMembers names ms → out_of_range_in_members (locate_members ms rest) ≡ []
  members-in_range no_members names rest f = refl
  members-in_range (member k j ms) names rest f = rw (locate-in_range j (members_text true ms ++ rest) f.2, members-in_range ms (k ∷ names) rest f.3) refl

written-IsText : (j : Json) → Fits j → IsText (locate j []) (written j)
written-IsText j f = (written j, [], no_spaces (written j), subst (λ z. Value (locate j []) z []) (append-nil (written j)) (written-Value j [] (Fits-IsSpellable j f)), no_spaces [])

-- the written form of a value that can be read spells it
pub written-Spells : (limit : ℕ) (j : Json) → IsReadable limit j → Spells limit (written j) j
written-Spells limit j r =
    record {
      located = locate j [];
      is = plain-locate j [];
      spelled = written-IsText j r.0;
      shallow = r.1;
      distinct = locate-distinct j [] r.0;
      in_range = locate-in_range j [] r.0;
    }
