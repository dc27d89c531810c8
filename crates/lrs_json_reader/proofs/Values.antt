-- How a value begins, and what ends one.
use Rattle.std.proofs.Common.{◌≡◌, ℕ, List, ◌∷◌, ◌++◌, Bool, true, false, IsTrue, refl, arith, ap, ◌∙◌}
use Rattle.lrs_decimal.proofs.NumberLemmas.{begins_number, IsNumber-begins}
use Rattle.lrs_json_reader.specs.Located.{Located, null, boolean, number, string, array, object}
use Rattle.lrs_decimal.specs.Numbers.{Stops, IsNumber}
use Rattle.lrs_json_reader.specs.Grammar.{is_space, Value}

-- the first byte of a value
abbrev pub Starts : Located → ℕ → Type 0
Starts null b = b ≡ 110
Starts (boolean true) b = b ≡ 116
Starts (boolean false) b = b ≡ 102
Starts (number left s) b = IsTrue (begins_number b)
Starts (string s) b = b ≡ 34
Starts (array js) b = b ≡ 91
Starts (object ms) b = b ≡ 123

number_starts : (s bs rest : List ℕ) → bs ≡ s ++ rest → IsNumber s → (b : ℕ) × (more : List ℕ) × (bs ≡ b ∷ more) × IsTrue (begins_number b)
number_starts s bs rest e n = let f = IsNumber-begins s n in (f.0, f.1 ++ rest, e ∙ ap (λ z. z ++ rest) f.2, f.3)

pub starts : (j : Located) (bs rest : List ℕ) → Value j bs rest → (b : ℕ) × (more : List ℕ) × (bs ≡ b ∷ more) × Starts j b
starts null bs rest v = (110, _, v, refl)
starts (boolean true) bs rest v = (116, _, v, refl)
starts (boolean false) bs rest v = (102, _, v, refl)
starts (number left s) bs rest v = number_starts s bs rest v.0 v.1
starts (string s) bs rest v = (34, v.1, v.2, refl)
starts (array js) bs rest v = (91, v.0, v.1, refl)
starts (object ms) bs rest v = (123, v.0, v.1, refl)

digit_no_space_at : (b : ℕ) (t : Bool) → is_space b ≡ t → IsTrue (begins_number b) → is_space b ≡ false
digit_no_space_at b true e d = grind arith
digit_no_space_at b false e d = e

pub starts_no_space : (j : Located) (b : ℕ) → Starts j b → is_space b ≡ false
starts_no_space null b s = rw s refl
starts_no_space (boolean true) b s = rw s refl
starts_no_space (boolean false) b s = rw s refl
starts_no_space (number left n) b s = digit_no_space_at b (is_space b) refl s
starts_no_space (string n) b s = rw s refl
starts_no_space (array js) b s = rw s refl
starts_no_space (object ms) b s = rw s refl

-- no white space begins a value
pub Value-Stops : (j : Located) (bs rest : List ℕ) → Value j bs rest → Stops is_space bs
Value-Stops j bs rest v = let s = starts j bs rest v in rw s.2 (starts_no_space j s.0 s.3)
