-- How a part of a text is read, from the bytes that are left.
use Rattle.std.specs.Prelude.{◌≡◌, ℕ, List, [], ◌∷◌, ◌++◌, false, Option, Some, None, IfOk, Result, IfSome}
use Rattle.lrs_agent_texts.specs.Texts.{identifier_member}
use Rattle.lrs_agents.specs.declared.identifiers.Ifi.{Ifi}
use Rattle.lrs_decimal.specs.Numbers.{Ends}
use Rattle.lrs_fields.specs.Values.{HoldsValue, IsLawfulValue, Value, value_json}
use Rattle.lrs_json.specs.Texts.{member_text}
use Rattle.lrs_json.specs.Written.{written}
use Rattle.lrs_json_reader.specs.Steps.{Finds}
use Rattle.lrs_json_reader.specs.declared.cursor.Stop.{Stop}

-- What was read is the one that may stand there whose text comes next, if what follows it may follow it. If no such
-- text comes next, nothing is read.
pub record Reads {A : Type 0} (text : A → List ℕ) (MayStand : A → Type 0) (MayFollow : List ℕ → Type 0) (old : List ℕ)
    (r : Result A Stop) (new : List ℕ) : Type 0 where
  pub found : IfOk r (λ a. MayStand a × (old ≡ text a ++ new))
  pub all : (a : A) (rest : List ℕ) → MayStand a → MayFollow rest → old ≡ text a ++ rest
      → Finds r (λ b. (b ≡ a) × (new ≡ rest))

-- What was read is the one that may stand there whose spelling the text is. If it is the spelling of none, nothing is.
pub record ReadsSpelling {A : Type 0} (spelling : A → List ℕ) (MayStand : A → Type 0) (text : List ℕ)
    (r : Result A Stop) : Type 0 where
  pub found : IfOk r (λ a. MayStand a × (text ≡ spelling a))
  pub all : (a : A) → MayStand a → text ≡ spelling a → Finds r (λ b. b ≡ a)

-- ---- fields

-- a value that may be kept in a field
abbrev pub IsKeptValue : {A : Type 0} → (A → Value) → A → Type 0
IsKeptValue value a = HoldsValue (value a) × IsLawfulValue (value a)

-- the value, behind the name of its field and what else stands before it
abbrev pub field_text : {A : Type 0} → List ℕ → (A → Value) → A → List ℕ
field_text front value a = front ++ written (value_json (value a))

abbrev pub ReadsField : {A : Type 0} → List ℕ → (A → Value) → List ℕ → Result A Stop → List ℕ → Type 0
ReadsField front value old r new = Reads (field_text front value) (IsKeptValue value) Ends old r new

-- nothing, where there is no value
abbrev pub optional_text : {A : Type 0} → List ℕ → (A → Value) → Option A → List ℕ
optional_text front value None = []
optional_text front value (Some a) = field_text front value a

-- These bytes don't come next.
abbrev pub IsMissing : List ℕ → List ℕ → Type 0
IsMissing front bytes = (more : List ℕ) → bytes ≡ front ++ more → ⊥

-- What follows such a field may not look like it.
abbrev pub MayFollowOptional : List ℕ → List ℕ → Type 0
MayFollowOptional front rest = Ends rest × IsMissing front rest

abbrev pub ReadsOptional : {A : Type 0} → List ℕ → (A → Value) → List ℕ → Result (Option A) Stop → List ℕ → Type 0
ReadsOptional front value old r new =
    Reads (optional_text front value) (λ o. IfSome o (IsKeptValue value)) (MayFollowOptional front) old r new

-- the member that identifies, the first of its object
abbrev pub identifier_text : Ifi → List ℕ
identifier_text ifi = member_text false (identifier_member ifi).0 (identifier_member ifi).1

-- behind these bytes, and the last
abbrev pub enclosed_text : List ℕ → Ifi → List ℕ
enclosed_text front ifi = front ++ (identifier_text ifi ++ 125 ∷ [])
