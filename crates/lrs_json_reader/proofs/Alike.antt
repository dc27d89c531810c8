-- Two values of one written form are one, whatever follows them.
use Rattle.std.proofs.Common.{◌≡◌, ℕ, List, [], ◌∷◌, ◌++◌, Bool, true, false, IsTrue, Some, refl, sym, ap, subst, ◌∙◌, arith, append_assoc, codes}
use Rattle.std.specs.List.{flat_map}
use Rattle.std.proofs.lemmas.List.{append_cancel_left, append_cancel_right}
use Rattle.lrs_decimal.specs.Numbers.{Ends, IsNumber, number_end}
use Rattle.lrs_decimal.proofs.NumberLemmas.{begins_number, number_again}
use Rattle.lrs_json.specs.Json.{Json, null, boolean, number, string, array, object, Elements, no_elements, element, Members, no_members, member}
use Rattle.lrs_json.specs.Spellable.{IsSpellable, AreSpellableElements, AreSpellableMembers}
use Rattle.lrs_json.specs.Written.{comma_if, elements_text, escaped, members_text, quoted, written}
use Rattle.lrs_json_reader.specs.Located as Located
use Rattle.lrs_json_reader.specs.Steps.{Opens}
use Rattle.lrs_json_reader.proofs.Ends.{Value-Opens, digit_not}
use Rattle.lrs_json_reader.proofs.Escapes.{same_quoted}
use Rattle.lrs_json_reader.proofs.FirstBytes.{begins_array, begins_object, begins_string, first_is, kind, only_null, only_true, only_false}
use Rattle.lrs_json_reader.proofs.Rereads.{elements_Ends, members_Ends, tail_same}
use Rattle.lrs_json_reader.proofs.Values.{Starts, starts}
use Rattle.lrs_json_reader.proofs.WrittenLemmas.{locate, written-Value}

pub first_same : (a b : ℕ) (xs ys : List ℕ) → a ∷ xs ≡ b ∷ ys → a ≡ b
first_same a b xs ys e = cc e

-- ---- how a written form begins

not_first : (close : ℕ) (bytes more : List ℕ) → Opens close bytes → bytes ≡ close ∷ more → ⊥
not_first close [] more opens e = opens
not_first close (b ∷ bs) more opens e = opens.1 (first_same b close bs more e)

-- no value begins with a closing bracket
no_bracket : (j : Json) (more rest : List ℕ) → IsSpellable j → 93 ∷ more ≡ written j ++ rest → ⊥
no_bracket j more rest ok e = not_first 93 (written j ++ rest) more (Value-Opens (locate j rest) (written j ++ rest) rest (written-Value j rest ok)) (sym e)

number_kind : (k : Json) (rest : List ℕ) (b : ℕ) → IsTrue (begins_number b) → Starts (locate k rest) b → (c : List ℕ) × (k ≡ number c)
number_kind null rest b d s = absurd (digit_not b 110 d refl s)
number_kind (boolean true) rest b d s = absurd (digit_not b 116 d refl s)
number_kind (boolean false) rest b d s = absurd (digit_not b 102 d refl s)
number_kind (number c) rest b d s = (c, refl)
number_kind (string c) rest b d s = absurd (digit_not b 34 d refl s)
number_kind (array js) rest b d s = absurd (digit_not b 91 d refl s)
number_kind (object ms) rest b d s = absurd (digit_not b 123 d refl s)

same_number : (a b r s : List ℕ) → IsNumber a → IsNumber b → Ends r → Ends s → a ++ r ≡ b ++ s → (a ≡ b) × (r ≡ s)
same_number a b r s m n x y e =
    let ends : Some r ≡ Some s = sym (number_again a r m x) ∙ ap number_end e ∙ number_again b s n y in
    let rest : r ≡ s = cc ends in
    (append_cancel_right a b s (ap (λ (t : List ℕ). a ++ t) (sym rest) ∙ e), rest)

-- ---- items

pub element_parts : (later : Bool) (j : Json) (js : Elements) (rest : List ℕ) → elements_text later (element j js) ++ rest ≡ comma_if later ++ (written j ++ (elements_text true js ++ rest))
element_parts later j js rest = simp append_assoc

pub member_parts : (later : Bool) (k : List ℕ) (j : Json) (ms : Members) (rest : List ℕ) → members_text later (member k j ms) ++ rest ≡ comma_if later ++ (quoted k ++ 58 ∷ (written j ++ (members_text true ms ++ rest)))
member_parts later k j ms rest = simp append_assoc

closed_array : (later : Bool) (j : Json) (js : Elements) (r s : List ℕ) → IsSpellable j → 93 ∷ r ≡ elements_text later (element j js) ++ s → ⊥
closed_array true j js r s ok e = let bad : ◌≡◌ {A = ℕ} 93 44 = first_same 93 44 r (written j ++ (elements_text true js ++ s)) (e ∙ element_parts true j js s) in omega arith
closed_array false j js r s ok e = no_bracket j r (elements_text true js ++ s) ok (e ∙ element_parts false j js s)

closed_object : (later : Bool) (k : List ℕ) (j : Json) (ms : Members) (r s : List ℕ) → 125 ∷ r ≡ members_text later (member k j ms) ++ s → ⊥
closed_object true k j ms r s e = let bad : ◌≡◌ {A = ℕ} 125 44 = first_same 125 44 r (quoted k ++ 58 ∷ (written j ++ (members_text true ms ++ s))) (e ∙ member_parts true k j ms s) in omega arith
closed_object false k j ms r s e = let bad : ◌≡◌ {A = ℕ} 125 34 = first_same 125 34 r ((flat_map escaped k ++ 34 ∷ []) ++ 58 ∷ (written j ++ (members_text true ms ++ s))) (e ∙ member_parts false k j ms s) in omega arith

-- ---- two values, whatever follows them

mutual
  pub alike : (j k : Json) (r s : List ℕ) → IsSpellable j → IsSpellable k → Ends r → Ends s → written j ++ r ≡ written k ++ s → (j ≡ k) × (r ≡ s)
  alike null k r s f g x y e =
      let is : k ≡ null = kind k s Located.null (only_null (locate k s) (first_is k (codes "null" ++ r) (117 ∷ 108 ∷ 108 ∷ r) s 110 g refl e)) in
      (sym is, append_cancel_left (codes "null") r s (e ∙ ap (λ (i : Json). written i ++ s) is))
  alike (boolean true) k r s f g x y e =
      let is : k ≡ boolean true = kind k s (Located.boolean true) (only_true (locate k s) (first_is k (codes "true" ++ r) (114 ∷ 117 ∷ 101 ∷ r) s 116 g refl e)) in
      (sym is, append_cancel_left (codes "true") r s (e ∙ ap (λ (i : Json). written i ++ s) is))
  alike (boolean false) k r s f g x y e =
      let is : k ≡ boolean false = kind k s (Located.boolean false) (only_false (locate k s) (first_is k (codes "false" ++ r) (97 ∷ 108 ∷ 115 ∷ 101 ∷ r) s 102 g refl e)) in
      (sym is, append_cancel_left (codes "false") r s (e ∙ ap (λ (i : Json). written i ++ s) is))
  alike (number a) k r s f g x y e =
      let begins = starts (locate (number a) r) (a ++ r) r (written-Value (number a) r f) in
      let other = number_kind k s begins.0 begins.3 (first_is k (a ++ r) begins.1 s begins.0 g begins.2 e) in
      let ok : IsNumber other.0 = subst IsSpellable other.1 g in
      let same = same_number a other.0 r s f ok x y (e ∙ ap (λ (i : Json). written i ++ s) other.1) in
      (ap number same.0 ∙ sym other.1, same.1)
  alike (string a) k r s f g x y e =
      let other = begins_string k s (first_is k (quoted a ++ r) ((flat_map escaped a ++ 34 ∷ []) ++ r) s 34 g refl e) in
      let is : k ≡ string other.0 = other.1 in
      let same = same_quoted a other.0 r s (e ∙ ap (λ (i : Json). written i ++ s) is) in
      (ap string same.0 ∙ sym is, same.1)
  alike (array js) k r s f g x y e =
      let other = begins_array k s (first_is k (written (array js) ++ r) (elements_text false js ++ r) s 91 g refl e) in
      let ks : Elements = other.0 in
      let is : k ≡ array ks = other.1 in
      let ok : AreSpellableElements ks = subst IsSpellable is g in
      let same = alike_elements js ks false r s f ok (tail_same 91 (elements_text false js ++ r) (elements_text false ks ++ s) (e ∙ ap (λ (i : Json). written i ++ s) is)) in
      (ap array same.0 ∙ sym is, same.1)
  alike (object ms) k r s f g x y e =
      let other = begins_object k s (first_is k (written (object ms) ++ r) (members_text false ms ++ r) s 123 g refl e) in
      let ns : Members = other.0 in
      let is : k ≡ object ns = other.1 in
      let ok : AreSpellableMembers ns = subst IsSpellable is g in
      let same = alike_members ms ns false r s f ok (tail_same 123 (members_text false ms ++ r) (members_text false ns ++ s) (e ∙ ap (λ (i : Json). written i ++ s) is)) in
      (ap object same.0 ∙ sym is, same.1)

  pub alike_elements : (js ks : Elements) (later : Bool) (r s : List ℕ) → AreSpellableElements js → AreSpellableElements ks → elements_text later js ++ r ≡ elements_text later ks ++ s → (js ≡ ks) × (r ≡ s)
  alike_elements no_elements no_elements later r s f g e = (refl, tail_same 93 r s e)
  alike_elements no_elements (element k ks) later r s f g e = absurd (closed_array later k ks r s g.0 e)
  alike_elements (element j js) no_elements later r s f g e = absurd (closed_array later j js s r f.0 (sym e))
  alike_elements (element j js) (element k ks) later r s f g e =
      let left = elements_text true js ++ r in
      let right = elements_text true ks ++ s in
      let first = alike j k left right f.0 g.0 (elements_Ends js r) (elements_Ends ks s)
      (append_cancel_left (comma_if later) (written j ++ left) (written k ++ right) (sym (element_parts later j js r) ∙ e ∙ element_parts later k ks s)) in
      let rest = alike_elements js ks true r s f.1 g.1 first.1 in
      (ap (λ (i : Json). element i js) first.0 ∙ ap (λ (is : Elements). element k is) rest.0, rest.1)

  pub alike_members : (ms ns : Members) (later : Bool) (r s : List ℕ) → AreSpellableMembers ms → AreSpellableMembers ns → members_text later ms ++ r ≡ members_text later ns ++ s → (ms ≡ ns) × (r ≡ s)
  alike_members no_members no_members later r s f g e = (refl, tail_same 125 r s e)
  alike_members no_members (member n k ns) later r s f g e = absurd (closed_object later n k ns r s e)
  alike_members (member m j ms) no_members later r s f g e = absurd (closed_object later m j ms s r (sym e))
  alike_members (member m j ms) (member n k ns) later r s f g e =
      let left = members_text true ms ++ r in
      let right = members_text true ns ++ s in
      let name = same_quoted m n (58 ∷ (written j ++ left)) (58 ∷ (written k ++ right))
      (append_cancel_left (comma_if later) (quoted m ++ 58 ∷ (written j ++ left)) (quoted n ++ 58 ∷ (written k ++ right)) (sym (member_parts later m j ms r) ∙ e ∙ member_parts later n k ns s)) in
      let value = alike j k left right f.1 g.1 (members_Ends ms r) (members_Ends ns s) (tail_same 58 (written j ++ left) (written k ++ right) name.1) in
      let rest = alike_members ms ns true r s f.2 g.2 value.1 in
      (ap (λ (a : List ℕ). member a j ms) name.0 ∙ ap (λ (i : Json). member n i ms) value.0 ∙ ap (λ (is : Members). member n k is) rest.0, rest.1)
