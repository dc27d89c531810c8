-- What the cursor's private functions say.
use Rattle.std.specs.Prelude.{◌≡◌, ◌≢◌, ℕ, ◌≤◌, take, drop, IsUtf8, length, List, [], ◌∷◌, Bool, true, false, Result}
use Rattle.std.specs.Prelude.{MatchResult, IfOk, OnOk, if◌then◌else◌}
use Rattle.lrs_json.specs.Written.{is_plain}
use Rattle.lrs_json_reader.specs.Grammar.{is_space, Spaces, Comma, Chars}
use Rattle.std.specs.List.{flat_map}
use Rattle.lrs_decimal.specs.Numbers.{Each}
use Rattle.lrs_json_reader.specs.Strings.{piece_text}
use Rattle.lrs_json_reader.specs.declared.strings.Piece.{Piece}
use Rattle.lrs_json_reader.specs.declared.cursor.Stop.{Stop}
use Rattle.lrs_json_reader.specs.declared.cursor.Stop.TheVariants.{Memory}

-- it is Ok with P, or memory ran out
abbrev pub Finds : {T : Type 0} → Result T Stop → (T → Type 0) → Type 0
Finds r P = MatchResult r P (λ e. e ≡ Memory)

-- neither white space nor the byte comes first
abbrev pub Opens : ℕ → List ℕ → Type 0
Opens close [] = ⊥
Opens close (b ∷ bs) = (is_space b ≡ false) × (b ≢ close)

-- The cursor went from old to new. It stands after a comma, if one is wanted, and white space, or after the closing
-- bracket.
pub record StepsToNext (later : Bool) (close : ℕ) (old : List ℕ) (r : Result Bool Stop) (new : List ℕ) : Type 0 where
  pub goes : IfOk r (λ more. more ≡ true → (a : List ℕ) × Comma later old a × Spaces a new)
  pub ends : IfOk r (λ more. more ≡ false → Spaces old (close ∷ new))
  pub all_more : (a b : List ℕ) → Comma later old a → Spaces a b → Opens close b
      → Finds r (λ more. (more ≡ true) × (new ≡ b))
  pub all_end : (rest : List ℕ) → Spaces old (close ∷ rest) → Finds r (λ more. (more ≡ false) × (new ≡ rest))
  pub no_longer : OnOk r (length new ≤ length old)

-- what follows an item where no white space does: a comma, or the closing bracket
abbrev pub comma_or : ℕ → Bool → ℕ
comma_or close goes = if goes then 44 else close

-- The cursor went over one of the two, and told whether it was the comma.
pub record StepsOverCommaOr (close : ℕ) (old : List ℕ) (r : Result Bool Stop) (new : List ℕ) : Type 0 where
  pub found : IfOk r (λ goes. old ≡ comma_or close goes ∷ new)
  pub all : (goes : Bool) (rest : List ℕ) → old ≡ comma_or close goes ∷ rest → Finds r (λ _. Unit {0})

-- a byte that may close an array or an object
pub record Closes (close : ℕ) : Type 0 where
  pub no_space : is_space close ≡ false
  pub no_comma : 44 ≢ close

-- so many bytes that stand for themselves, and a quote
pub record IsPlain (n : ℕ) (bytes : List ℕ) : Type 0 where
  pub within : n ≤ length bytes
  pub plain : Each is_plain (take n bytes)
  pub rest : List ℕ
  pub quote : drop n bytes ≡ 34 ∷ rest

-- a string after its opening quote
abbrev pub Within : List ℕ → List ℕ → List ℕ → Type 0
Within text bytes rest = (ps : List Piece) × Chars ps bytes rest × (text ≡ flat_map piece_text ps) × IsUtf8 text
