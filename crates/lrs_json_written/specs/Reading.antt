-- What the functions that read a written form say of its parts.
use Rattle.std.specs.Prelude.{◌≡◌, ℕ, List, [], ◌∷◌, ◌++◌, map, Bool, true, IfOk, IsTrue, IsUtf8, Result}
use Rattle.lrs_decimal.specs.Numbers.{Ends, IsNumber}
use Rattle.lrs_decimal.specs.Range.{is_in_range}
use Rattle.lrs_json.specs.Fits.{IsReadable}
use Rattle.lrs_json.specs.Json.{Json, Elements, Members, array, object}
use Rattle.lrs_json.specs.View.{elements_of, member_view, members_of, view}
use Rattle.lrs_json.specs.Written.{elements_text, members_text, quoted, written}
use Rattle.lrs_json.specs.declared.tree.Member.{Member}
use Rattle.lrs_json.specs.declared.tree.Tree.{Tree, Number, Words}
use Rattle.lrs_json_reader.specs.Steps.{Finds, comma_or}
use Rattle.lrs_json_reader.specs.declared.cursor.Stop.{Stop}
use Rattle.lrs_json_written.specs.Fitting.{AreReadable, HaveReadable}

-- A value that is readable at the limit was read from its written form. If one stands there it is read, unless memory
-- runs out.
pub record ReadsTree (limit : ℕ) (old : List ℕ) (r : Result Tree Stop) (new : List ℕ) : Type 0 where
  pub found : IfOk r (λ t. IsReadable limit (view t) × (old ≡ written (view t) ++ new))
  pub all : (j : Json) (rest : List ℕ) → IsReadable limit j → old ≡ written j ++ rest → Ends rest
      → Finds r (λ t. (view t ≡ j) × (new ≡ rest))

-- the same of a value that holds no others, by what stands there
pub record ReadsLeaf {X : Type 0} (Is : X → List ℕ → List ℕ → Type 0) (shown : X → Tree) (old : List ℕ)
    (r : Result Tree Stop) (new : List ℕ) : Type 0 where
  pub found : IfOk r (λ t. (x : X) × (t ≡ shown x) × Is x old new)
  pub all : (x : X) (rest : List ℕ) → Is x old rest → Ends rest → Finds r (λ t. (t ≡ shown x) × (new ≡ rest))

abbrev pub ReadsWord : List ℕ → Tree → List ℕ → Result Tree Stop → List ℕ → Type 0
ReadsWord word tree old r new = ReadsLeaf {X = Unit {0}} (λ _ bytes rest. bytes ≡ word ++ rest) (λ _. tree) old r new

abbrev pub TextAt : List ℕ → List ℕ → List ℕ → Type 0
TextAt s bytes rest = IsUtf8 s × (bytes ≡ quoted s ++ rest)

abbrev pub ReadsText : List ℕ → Result Tree Stop → List ℕ → Type 0
ReadsText old r new = ReadsLeaf TextAt Words old r new

abbrev pub NumeralInRangeAt : List ℕ → List ℕ → List ℕ → Type 0
NumeralInRangeAt s bytes rest = IsNumber s × IsTrue (is_in_range s) × (bytes ≡ s ++ rest)

abbrev pub ReadsNumber : List ℕ → Result Tree Stop → List ℕ → Type 0
ReadsNumber old r new = ReadsLeaf NumeralInRangeAt Number old r new

-- One item more was read, and what follows it.
pub record ReadsNextItem (limit : ℕ) (read : List Tree) (old : List ℕ) (r : Result Bool Stop) (reread : List Tree)
    (new : List ℕ) : Type 0 where
  pub found : IfOk r (λ goes. (t : Tree) × (reread ≡ read ++ t ∷ []) × IsReadable limit (view t)
      × (old ≡ written (view t) ++ comma_or 93 goes ∷ new))
  pub all : (j : Json) (js : Elements) (rest : List ℕ) → IsReadable limit j
      → old ≡ written j ++ (elements_text true js ++ rest) → Finds r (λ _. Unit {0})

-- an array of values that are readable at the limit
pub record ReadsItems (limit : ℕ) (old : List ℕ) (r : Result (List Tree) Stop) (new : List ℕ) : Type 0 where
  pub found : IfOk r (λ ts. AreReadable limit (elements_of (map view ts))
      × (old ≡ written (array (elements_of (map view ts))) ++ new))
  pub all : (js : Elements) (rest : List ℕ) → AreReadable limit js → old ≡ written (array js) ++ rest
      → Finds r (λ ts. (elements_of (map view ts) ≡ js) × (new ≡ rest))

-- a name, a colon and a value
abbrev pub ReadableNamedAt : ℕ → List ℕ × Json → List ℕ → List ℕ → Type 0
ReadableNamedAt limit m bytes rest =
    IsUtf8 m.0 × IsReadable limit m.1 × (bytes ≡ quoted m.0 ++ 58 ∷ (written m.1 ++ rest))

pub record ReadsMember (limit : ℕ) (old : List ℕ) (r : Result Member Stop) (new : List ℕ) : Type 0 where
  pub found : IfOk r (λ m. ReadableNamedAt limit (member_view m) old new)
  pub all : (m : List ℕ × Json) (rest : List ℕ) → ReadableNamedAt limit m old rest → Ends rest
      → Finds r (λ n. (member_view n ≡ m) × (new ≡ rest))

pub record ReadsNextMember (limit : ℕ) (read : List Member) (old : List ℕ) (r : Result Bool Stop) (reread : List Member)
    (new : List ℕ) : Type 0 where
  pub found : IfOk r (λ goes. (m : Member) × (reread ≡ read ++ m ∷ [])
      × ReadableNamedAt limit (member_view m) old (comma_or 125 goes ∷ new))
  pub all : (m : List ℕ × Json) (ms : Members) (rest : List ℕ)
      → ReadableNamedAt limit m old (members_text true ms ++ rest) → Finds r (λ _. Unit {0})

-- members whose values are readable at the limit, whatever their names are
pub record ReadsMembers (limit : ℕ) (old : List ℕ) (r : Result (List Member) Stop) (new : List ℕ) : Type 0 where
  pub found : IfOk r (λ ms. HaveReadable limit (members_of (map member_view ms))
      × (old ≡ written (object (members_of (map member_view ms))) ++ new))
  pub all : (ms : Members) (rest : List ℕ) → HaveReadable limit ms → old ≡ written (object ms) ++ rest
      → Finds r (λ ns. (members_of (map member_view ns) ≡ ms) × (new ≡ rest))
