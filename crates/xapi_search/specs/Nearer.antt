-- The greater of two positions, of which either may be missing (the lesser is `lesser` of `lrs_names`), and a position
-- if it lies within a bound.
use Rattle.std.specs.Prelude.{ℕ, nat_le, nat_lt, max, Option, Some, None, if◌then◌else◌}

abbrev pub greater : Option ℕ → Option ℕ → Option ℕ
greater None other = other
greater (Some a) None = Some a
greater (Some a) (Some b) = Some (max a b)

-- it, if it comes before the end
abbrev pub if_below : ℕ → Option ℕ → Option ℕ
if_below end None = None
if_below end (Some k) = if nat_lt k end then Some k else None

-- it, if it doesn't come before the first
abbrev pub if_from : ℕ → Option ℕ → Option ℕ
if_from first None = None
if_from first (Some k) = if nat_le first k then Some k else None
