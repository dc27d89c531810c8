-- The numbers of JSON (RFC 8259, section 6), and how one at the beginning of some bytes is read.
use Rattle.std.specs.Prelude.{◌≡◌, ◌≢◌, ◌⊎◌, ◌++◌, ◌&&◌, nat_le, IsTrue, ℕ, ◌==◌, ◌||◌, List, [], ◌∷◌, drop, Bool}
use Rattle.std.specs.Prelude.{false, Option, Some, None, option_and_then, if◌then◌else◌}
use Rattle.std.specs.List.{prefix_len}

abbrev pub is_digit : ℕ → Bool
is_digit b = nat_le 48 b && nat_le b 57

-- each byte passes
abbrev pub Each : (ℕ → Bool) → List ℕ → Type 0
Each p [] = Unit {0}
Each p (b ∷ bs) = IsTrue (p b) × Each p bs

-- one or more digits
abbrev pub IsDigits : List ℕ → Type 0
IsDigits [] = ⊥
IsDigits (b ∷ bs) = IsTrue (is_digit b) × Each is_digit bs

-- without the byte, if it comes first
abbrev pub without : ℕ → List ℕ → List ℕ
without k [] = []
without k (b ∷ bs) = if b == k then bs else b ∷ bs

-- without a sign
abbrev pub unsigned : List ℕ → List ℕ
unsigned [] = []
unsigned (b ∷ bs) = if b == 43 || b == 45 then bs else b ∷ bs

-- a 0 alone, or digits that begin with another
abbrev pub IsWhole : List ℕ → Type 0
IsWhole [] = ⊥
IsWhole (b ∷ bs) = ((b ≡ 48) × (bs ≡ [])) ⊎ ((b ≢ 48) × IsDigits (b ∷ bs))

-- nothing, or a point and digits
abbrev pub IsFraction : List ℕ → Type 0
IsFraction [] = Unit {0}
IsFraction (b ∷ bs) = (b ≡ 46) × IsDigits bs

-- nothing, or an e, a sign or none, and digits
abbrev pub IsExponent : List ℕ → Type 0
IsExponent [] = Unit {0}
IsExponent (b ∷ bs) = IsTrue (b == 101 || b == 69) × IsDigits (unsigned bs)

-- a minus sign or none, and the parts
abbrev pub IsNumber : List ℕ → Type 0
IsNumber s = (w f e : List ℕ) × IsWhole w × IsFraction f × IsExponent e × (without 45 s ≡ w ++ (f ++ e))

-- a byte that could go on a number
abbrev pub goes_on_number : ℕ → Bool
goes_on_number b = is_digit b || b == 46 || b == 101 || b == 69

-- no byte that passes comes first
abbrev pub Stops : (ℕ → Bool) → List ℕ → Type 0
Stops p [] = Unit {0}
Stops p (b ∷ bs) = p b ≡ false

-- no byte that could go on a number comes first
abbrev pub Ends : List ℕ → Type 0
Ends rest = Stops goes_on_number rest

-- ---- how a number is read

-- the bytes after one or more digits
unfoldable pub digits_end : List ℕ → Option (List ℕ)
digits_end [] = None
digits_end (b ∷ bs) = if is_digit b then Some (drop (prefix_len is_digit bs) bs) else None

-- a 0 alone, or digits that begin with another
unfoldable pub whole_end : List ℕ → Option (List ℕ)
whole_end [] = None
whole_end (b ∷ bs) = if b == 48 then Some bs else digits_end (b ∷ bs)

unfoldable pub fraction_end : List ℕ → Option (List ℕ)
fraction_end [] = Some []
fraction_end (b ∷ bs) = if b == 46 then digits_end bs else Some (b ∷ bs)

unfoldable pub exponent_end : List ℕ → Option (List ℕ)
exponent_end [] = Some []
exponent_end (b ∷ bs) = if b == 101 || b == 69 then digits_end (unsigned bs) else Some (b ∷ bs)

unfoldable pub number_end : List ℕ → Option (List ℕ)
number_end bytes = option_and_then exponent_end (option_and_then fraction_end (whole_end (without 45 bytes)))
