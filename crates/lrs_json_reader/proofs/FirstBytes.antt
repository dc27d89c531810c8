-- The first byte of a value tells its kind.
use Rattle.std.proofs.Common.{◌≡◌, ◌≢◌, ℕ, List, ◌∷◌, ◌++◌, true, false, refl, sym, ap, subst, ◌∙◌, true≢false, arith}
use Rattle.lrs_json.specs.Json as Json
use Rattle.lrs_json.specs.Spellable.{IsSpellable}
use Rattle.lrs_json.specs.Written.{written}
use Rattle.lrs_json_reader.specs.Located.{Located, null, boolean, number, string, array, object, Elements, Members, plain, plain_elements, plain_members}
use Rattle.lrs_json_reader.specs.Grammar.{Value}
use Rattle.lrs_json_reader.proofs.Values.{Starts, starts}
use Rattle.lrs_json_reader.proofs.WrittenLemmas.{locate, plain-locate, written-Value}

pub starts_at : (x : Located) (old more rest : List ℕ) (b : ℕ) → old ≡ b ∷ more → Value x old rest → Starts x b
starts_at x old more rest b e v = let s = starts x old rest v in let same : s.0 ≡ b = cc (e, s.2) in subst (λ z. Starts x z) same s.3

pub only_null : (x : Located) → Starts x 110 → x ≡ null
only_null null s = refl
only_null (boolean true) s = absurd (omega arith)
only_null (boolean false) s = absurd (omega arith)
only_null (number left n) s = absurd (true≢false (sym s))
only_null (string n) s = absurd (omega arith)
only_null (array js) s = absurd (omega arith)
only_null (object ms) s = absurd (omega arith)

pub only_true : (x : Located) → Starts x 116 → x ≡ boolean true
only_true null s = absurd (omega arith)
only_true (boolean true) s = refl
only_true (boolean false) s = absurd (omega arith)
only_true (number left n) s = absurd (true≢false (sym s))
only_true (string n) s = absurd (omega arith)
only_true (array js) s = absurd (omega arith)
only_true (object ms) s = absurd (omega arith)

pub only_false : (x : Located) → Starts x 102 → x ≡ boolean false
only_false null s = absurd (omega arith)
only_false (boolean true) s = absurd (omega arith)
only_false (boolean false) s = refl
only_false (number left n) s = absurd (true≢false (sym s))
only_false (string n) s = absurd (omega arith)
only_false (array js) s = absurd (omega arith)
only_false (object ms) s = absurd (omega arith)

pub only_string : (x : Located) → Starts x 34 → (s : List ℕ) × (x ≡ string s)
only_string null s = absurd (omega arith)
only_string (boolean true) s = absurd (omega arith)
only_string (boolean false) s = absurd (omega arith)
only_string (number left n) s = absurd (true≢false (sym s))
only_string (string n) s = (n, refl)
only_string (array js) s = absurd (omega arith)
only_string (object ms) s = absurd (omega arith)

pub only_array : (x : Located) → Starts x 91 → (js : Elements) × (x ≡ array js)
only_array null s = absurd (omega arith)
only_array (boolean true) s = absurd (omega arith)
only_array (boolean false) s = absurd (omega arith)
only_array (number left n) s = absurd (true≢false (sym s))
only_array (string n) s = absurd (omega arith)
only_array (array js) s = (js, refl)
only_array (object ms) s = absurd (omega arith)

pub only_object : (x : Located) → Starts x 123 → (ms : Members) × (x ≡ object ms)
only_object null s = absurd (omega arith)
only_object (boolean true) s = absurd (omega arith)
only_object (boolean false) s = absurd (omega arith)
only_object (number left n) s = absurd (true≢false (sym s))
only_object (string n) s = absurd (omega arith)
only_object (array js) s = absurd (omega arith)
only_object (object ms) s = (ms, refl)

pub only_number : (x : Located) (b : ℕ) → Starts x b → b ≢ 110 → b ≢ 116 → b ≢ 102 → b ≢ 34 → b ≢ 91 → b ≢ 123 → (n : ℕ × List ℕ) × (x ≡ number n.0 n.1)
only_number null b s n t f q l o = absurd (n s)
only_number (boolean true) b s n t f q l o = absurd (t s)
only_number (boolean false) b s n t f q l o = absurd (f s)
only_number (number left x) b s n t f q l o = ((left, x), refl)
only_number (string x) b s n t f q l o = absurd (q s)
only_number (array js) b s n t f q l o = absurd (l s)
only_number (object ms) b s n t f q l o = absurd (o s)

-- ---- the same of a written form

pub first_is : (j : Json.Json) (bytes more rest : List ℕ) (b : ℕ) → IsSpellable j → bytes ≡ b ∷ more → bytes ≡ written j ++ rest → Starts (locate j rest) b
first_is j bytes more rest b ok is e = starts_at (locate j rest) bytes more rest b is (subst (λ (t : List ℕ). Value (locate j rest) t rest) (sym e) (written-Value j rest ok))

pub kind : (j : Json.Json) (rest : List ℕ) (p : Located) → locate j rest ≡ p → j ≡ plain p
kind j rest p is = sym (plain-locate j rest) ∙ ap plain is

pub begins_string : (j : Json.Json) (rest : List ℕ) → Starts (locate j rest) 34 → (s : List ℕ) × (j ≡ Json.string s)
begins_string j rest s = let o = only_string (locate j rest) s in (o.0, kind j rest (string o.0) o.1)

pub begins_array : (j : Json.Json) (rest : List ℕ) → Starts (locate j rest) 91 → (js : Json.Elements) × (j ≡ Json.array js)
begins_array j rest s = let o = only_array (locate j rest) s in (plain_elements o.0, kind j rest (array o.0) o.1)

pub begins_object : (j : Json.Json) (rest : List ℕ) → Starts (locate j rest) 123 → (ms : Json.Members) × (j ≡ Json.object ms)
begins_object j rest s = let o = only_object (locate j rest) s in (plain_members o.0, kind j rest (object o.0) o.1)
