-- What is behind a written value or a name at the front of some bytes.
use Rattle.std.proofs.Common.{◌≡◌, ℕ, ◌==◌, List, [], ◌∷◌, ◌++◌, true, false, IsTrue, refl, ap, subst, ◌∙◌, arith}
use Rattle.std.proofs.Math.Logic.{∥∥₁_elim}
use Rattle.std.specs.Coded.{Coded-set, coded_list, coded_ℕ}
use Rattle.lrs_decimal.specs.Numbers.{Each, IsNumber, Stops}
use Rattle.lrs_decimal.proofs.NumberLemmas.{IsNumber-begins, IsNumber-numeric, begins_number, is_numeric}
use Rattle.lrs_decimal.proofs.Runs.{behind_again}
use Rattle.lrs_json.specs.Json.{Json, null, boolean, number, string, array, object, Elements, no_elements, element, Members, no_members, member}
use Rattle.lrs_json.specs.Spellable.{IsSpellable}
use Rattle.lrs_json.specs.Written.{elements_text, members_text, quoted, written}
use Rattle.lrs_json_reader.specs.Brackets.{opens}
use Rattle.lrs_json_slices.specs.Scanning.{behind_front, is_of_word}
use Rattle.lrs_json_slices.specs.Spelled.{IsSpelled}
use Rattle.lrs_json_slices.proofs.Closing.{items_passed, members_passed}
use Rattle.lrs_json_slices.proofs.Quotes.{quote_left}

numeric_of_word : (b : ℕ) → IsTrue (is_numeric b) → IsTrue (is_of_word b)
numeric_of_word b s = grind arith

numerals_of_word : (s : List ℕ) → Each is_numeric s → Each is_of_word s
numerals_of_word [] each = tt
numerals_of_word (b ∷ s) each = (numeric_of_word b each.0, numerals_of_word s each.1)

-- a number or a literal word
word_left : (b : ℕ) (more rest : List ℕ) → opens b ≡ false → (b == 34) ≡ false → Each is_of_word (b ∷ more) → Stops is_of_word rest → behind_front ((b ∷ more) ++ rest) ≡ rest
word_left b more rest o q each stops = rw (o, q) (behind_again is_of_word ((b ∷ more) ++ rest) (b ∷ more) rest refl each stops)

number_left : (s rest : List ℕ) → IsNumber s → Stops is_of_word rest → behind_front (s ++ rest) ≡ rest
number_left s rest n stops =
    let f = IsNumber-begins s n in
    let begins : IsTrue (begins_number f.0) = f.3 in
    let o : opens f.0 ≡ false = grind arith in
    let q : (f.0 == 34) ≡ false = grind arith in
    let each : Each is_of_word (f.0 ∷ f.1) = subst (Each is_of_word) f.2 (numerals_of_word s (IsNumber-numeric s n)) in
    ap (λ t. behind_front (t ++ rest)) f.2 ∙ word_left f.0 f.1 rest o q each stops

value_left : (j : Json) (rest : List ℕ) → IsSpellable j → Stops is_of_word rest → behind_front (written j ++ rest) ≡ rest
value_left null rest f stops = word_left 110 (117 ∷ 108 ∷ 108 ∷ []) rest refl refl (refl, (refl, (refl, (refl, tt)))) stops
value_left (boolean true) rest f stops = word_left 116 (114 ∷ 117 ∷ 101 ∷ []) rest refl refl (refl, (refl, (refl, (refl, tt)))) stops
value_left (boolean false) rest f stops = word_left 102 (97 ∷ 108 ∷ 115 ∷ 101 ∷ []) rest refl refl (refl, (refl, (refl, (refl, (refl, tt))))) stops
value_left (number s) rest f stops = number_left s rest f stops
value_left (string s) rest f stops = quote_left s rest
value_left (array js) rest f stops = items_passed js false 0 rest f
value_left (object ms) rest f stops = members_passed ms false 0 rest f

pub spelled_left : (j : Json) (rest : List ℕ) → IsSpelled j → Stops is_of_word rest → behind_front (written j ++ rest) ≡ rest
spelled_left j rest s stops = ∥∥₁_elim s (Coded-set (coded_list coded_ℕ) (behind_front (written j ++ rest)) rest) (λ f. value_left j rest f stops)

pub name_left : (k rest : List ℕ) → behind_front (quoted k ++ rest) ≡ rest
name_left k rest = quote_left k rest

-- ---- what follows an item or a member

pub items_stop : (js : Elements) → Stops is_of_word (elements_text true js)
items_stop no_elements = refl
items_stop (element j js) = refl

pub members_stop : (ms : Members) → Stops is_of_word (members_text true ms)
members_stop no_members = refl
members_stop (member k j ms) = refl
