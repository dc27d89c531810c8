-- The first byte of a written form tells its kind.
use Rattle.std.proofs.Common.{◌≡◌, ℕ, List, [], ◌∷◌, ◌++◌, true, false, IsTrue, drop, refl, sym, ap, subst, ◌∙◌, arith}
use Rattle.std.proofs.Math.Logic.{∥∥₁_elim, ∥∥₁_map}
use Rattle.std.specs.Coded.{Coded-set, coded_bool}
use Rattle.std.specs.List.{flat_map}
use Rattle.std.proofs.lemmas.List.{append-nil}
use Rattle.lrs_decimal.proofs.NumberLemmas.{IsNumber-begins, begins_number}
use Rattle.lrs_json.specs.Json.{Json, null, boolean, number, string, array, object, Elements, no_elements, element, Members, no_members, member}
use Rattle.lrs_json.specs.Spellable.{AreSpellableElements, IsSpellable}
use Rattle.lrs_json.specs.Written.{elements_text, escaped, members_text, written}
use Rattle.lrs_json_reader.proofs.Alike.{first_same}
use Rattle.lrs_json_reader.proofs.Ends.{starts_not_93}
use Rattle.lrs_json_reader.proofs.FirstBytes.{begins_array, begins_object, begins_string}
use Rattle.lrs_json_reader.proofs.Values.{Starts}
use Rattle.lrs_json_reader.proofs.WrittenLemmas.{locate}
use Rattle.lrs_json_slices.specs.Single.{ItemsFrom-prop, MembersFrom-prop, TextFrom-prop, same_json}
use Rattle.lrs_json_slices.specs.Spelled.{IsSpelled, ItemsFrom, MembersFrom, TextFrom, WrittenFrom}

-- what it begins with, whatever follows it
begins : (j : Json) (more : List ℕ) (b : ℕ) (rest : List ℕ) → IsSpelled j → written j ++ more ≡ b ∷ rest → Starts (locate j more) b
begins null more b rest s e = first_same b 110 rest ((117 ∷ 108 ∷ 108 ∷ []) ++ more) (sym e)
begins (boolean true) more b rest s e = first_same b 116 rest ((114 ∷ 117 ∷ 101 ∷ []) ++ more) (sym e)
begins (boolean false) more b rest s e = first_same b 102 rest ((97 ∷ 108 ∷ 115 ∷ 101 ∷ []) ++ more) (sym e)
begins (number t) more b rest s e =
    ∥∥₁_elim s (Coded-set coded_bool (begins_number b) true)
    (λ n. let f = IsNumber-begins t n in subst (λ (x : ℕ). IsTrue (begins_number x)) (first_same f.0 b (f.1 ++ more) rest (sym (ap (λ (u : List ℕ). u ++ more) f.2) ∙ e)) f.3)
begins (string t) more b rest s e = first_same b 34 rest ((flat_map escaped t ++ 34 ∷ []) ++ more) (sym e)
begins (array js) more b rest s e = first_same b 91 rest (elements_text false js ++ more) (sym e)
begins (object ms) more b rest s e = first_same b 123 rest (members_text false ms ++ more) (sym e)

begins_whole : (bytes rest : List ℕ) (b : ℕ) (w : WrittenFrom bytes) → bytes ≡ b ∷ rest → Starts (locate w.0 []) b
begins_whole bytes rest b w e = begins w.0 [] b rest w.1.0 (append-nil (written w.0) ∙ sym w.1.1 ∙ e)

-- bytes are seen as the value of which they are the written form
pub seen_as : (bytes : List ℕ) (w : WrittenFrom bytes) (j : Json) → IsSpellable j → bytes ≡ written j → w.0 ≡ j
seen_as bytes w j s e = same_json w.0 j w.1.0 ∣ s ∣₁ (sym w.1.1 ∙ e)

-- ---- with a quote

pub quote_first : (bytes rest : List ℕ) (w : WrittenFrom bytes) → bytes ≡ 34 ∷ rest → (t : TextFrom bytes) × (w.0 ≡ string t.0)
quote_first bytes rest w e =
    let is = begins_string w.0 [] (begins_whole bytes rest 34 w e) in
    ((is.0, w.1.1 ∙ ap written is.1), is.1)

pub text_seen : (bytes rest : List ℕ) (w : WrittenFrom bytes) → bytes ≡ 34 ∷ rest → (t : TextFrom bytes) → w.0 ≡ string t.0
text_seen bytes rest w e t = let q = quote_first bytes rest w e in q.1 ∙ ap (λ (u : TextFrom bytes). string u.0) (TextFrom-prop bytes q.0 t)

-- ---- with an opening bracket

pub list_first : (bytes rest behind : List ℕ) (w : WrittenFrom bytes) → bytes ≡ 91 ∷ rest → behind ≡ drop 1 bytes → (i : ItemsFrom behind) × (w.0 ≡ array i.0)
list_first bytes rest behind w e left =
    let is = begins_array w.0 [] (begins_whole bytes rest 91 w e) in
    ((is.0, (subst IsSpelled is.1 w.1.0, left ∙ ap (drop 1) (w.1.1 ∙ ap written is.1))), is.1)

pub list_seen : (bytes rest behind : List ℕ) (w : WrittenFrom bytes) → bytes ≡ 91 ∷ rest → behind ≡ drop 1 bytes → (i : ItemsFrom behind) → w.0 ≡ array i.0
list_seen bytes rest behind w e left i = let q = list_first bytes rest behind w e left in q.1 ∙ ap (λ (u : ItemsFrom behind). array u.0) (ItemsFrom-prop behind q.0 i)

-- ---- with an opening brace

pub object_first : (bytes rest behind : List ℕ) (w : WrittenFrom bytes) → bytes ≡ 123 ∷ rest → behind ≡ drop 1 bytes → (m : MembersFrom behind) × (w.0 ≡ object m.0)
object_first bytes rest behind w e left =
    let is = begins_object w.0 [] (begins_whole bytes rest 123 w e) in
    ((is.0, (subst IsSpelled is.1 w.1.0, left ∙ ap (drop 1) (w.1.1 ∙ ap written is.1))), is.1)

pub object_seen : (bytes rest behind : List ℕ) (w : WrittenFrom bytes) → bytes ≡ 123 ∷ rest → behind ≡ drop 1 bytes → (m : MembersFrom behind) → w.0 ≡ object m.0
object_seen bytes rest behind w e left m = let q = object_first bytes rest behind w e left in q.1 ∙ ap (λ (u : MembersFrom behind). object u.0) (MembersFrom-prop behind q.0 m)

-- ---- with a closing one

items_end_at : (js : Elements) (rest : List ℕ) → ∥ AreSpellableElements js ∥₁ → elements_text false js ≡ 93 ∷ rest → js ≡ no_elements
items_end_at no_elements rest s e = refl
items_end_at (element j js) rest s e =
    let more = elements_text true js in
    absurd (starts_not_93 (locate j more) 93 (begins j more 93 rest (∥∥₁_map s (λ f. f.0)) e) refl)

pub items_end : (bytes rest : List ℕ) (w : ItemsFrom bytes) → bytes ≡ 93 ∷ rest → w.0 ≡ no_elements
items_end bytes rest w e = items_end_at w.0 rest w.1.0 (sym w.1.1 ∙ e)

members_end_at : (ms : Members) (rest : List ℕ) → members_text false ms ≡ 125 ∷ rest → ms ≡ no_members
members_end_at no_members rest e = refl
members_end_at (member k j ms) rest e = absurd (let bad : ◌≡◌ {A = ℕ} 34 125 = first_same 34 125 (((flat_map escaped k ++ 34 ∷ []) ++ 58 ∷ written j) ++ members_text true ms) rest e in omega arith)

pub members_end : (bytes rest : List ℕ) (w : MembersFrom bytes) → bytes ≡ 125 ∷ rest → w.0 ≡ no_members
members_end bytes rest w e = members_end_at w.0 rest (sym w.1.1 ∙ e)
