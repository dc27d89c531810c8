-- What reading gives, and why it refuses.
use Rattle.std.specs.Prelude.{◌≡◌, ◌≤◌, ◌⊎◌, ℕ, suc, ◌-◌, List, [], length, Bool, false, Some, Result, Err, MatchResult}
use Rattle.lrs_json.specs.Json.{Json}
use Rattle.lrs_json_reader.specs.Located.{Located, plain}
use Rattle.lrs_json_reader.specs.Grammar.{IsText}
use Rattle.lrs_json.specs.Depth.{depth}
use Rattle.lrs_json_reader.specs.Brackets.{reaches}
use Rattle.lrs_json_reader.specs.Flaws.{earliest, repeated_names, out_of_range_numbers}
use Rattle.lrs_json_reader.specs.declared.depth.ScanState.TheVariants.{Outside}
use Rattle.lrs_json_reader.specs.declared.reading.ReadRefused.{ReadRefused}
use Rattle.lrs_json_reader.specs.declared.reading.ReadRefused.TheVariants.{Memory}

-- the scan of the brackets passes the limit
abbrev pub is_too_deep : ℕ → List ℕ → Bool
is_too_deep limit bytes = reaches (suc limit) 0 Outside bytes

-- The bytes are a text of the value, which nests no deeper than the limit, repeats no name in an object, and has each
-- number in range.
pub record Spells (limit : ℕ) (bytes : List ℕ) (j : Json) : Type 0 where
  pub located : Located
  pub is : plain located ≡ j
  pub spelled : IsText located bytes
  pub shallow : depth j ≤ limit
  pub distinct : repeated_names located ≡ []
  pub in_range : out_of_range_numbers located ≡ []

-- The bytes are no text.
pub record IsBad (limit : ℕ) (bytes : List ℕ) : Type 0 where
  pub shallow : is_too_deep limit bytes ≡ false
  pub no_text : (p : Located) → IsText p bytes → ⊥

-- The bytes are a text in which some name is repeated, and this is the offset of the earliest such name.
pub record RepeatedAt (limit : ℕ) (bytes : List ℕ) (offset : ℕ) : Type 0 where
  pub shallow : is_too_deep limit bytes ≡ false
  pub located : Located
  pub spelled : IsText located bytes
  pub left : ℕ
  pub first : earliest (repeated_names located) ≡ Some left
  pub at : offset ≡ length bytes - left

-- The bytes are a text that repeats no name and has a number out of range, and this is the offset of the earliest such
-- number.
pub record OutOfRangeAt (limit : ℕ) (bytes : List ℕ) (offset : ℕ) : Type 0 where
  pub shallow : is_too_deep limit bytes ≡ false
  pub located : Located
  pub spelled : IsText located bytes
  pub distinct : repeated_names located ≡ []
  pub left : ℕ
  pub first : earliest (out_of_range_numbers located) ≡ Some left
  pub at : offset ≡ length bytes - left

-- it is Ok with P, or memory ran out
abbrev pub Gives : {T : Type 0} → Result T ReadRefused → (T → Type 0) → Type 0
Gives r P = MatchResult r P (λ e. e ≡ Memory)

-- The refusal comes only if its cause holds, and if the cause holds it comes, or memory ran out.
pub record Refuses {T : Type 0} (r : Result T ReadRefused) (e : ReadRefused) (Cause : Type 0) : Type 0 where
  pub only : r ≡ Err e → Cause
  pub always : Cause → (r ≡ Err e) ⊎ (r ≡ Err Memory)
