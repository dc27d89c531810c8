-- Rules by their numbers: those that something breaks, and the least of them.
use Rattle.std.specs.Prelude.{◌≡◌, ℕ, min, ◌==◌, nat_le, IsTrue, List, [], ◌∷◌, Bool, Option, Some, None, if◌then◌else◌}
use Rattle.std.specs.List.{list_any, list_all}

-- the rule, if its demand isn't met
abbrev pub unless : Bool → ℕ → List ℕ
unless met rule = if met then [] else rule ∷ []

-- the lesser of two rules, of which either may be missing
abbrev pub lesser : Option ℕ → Option ℕ → Option ℕ
lesser None other = other
lesser (Some r) None = Some r
lesser (Some r) (Some s) = Some (min r s)

-- the least of the rules
abbrev pub least : List ℕ → Option ℕ
least [] = None
least (r ∷ rs) = lesser (Some r) (least rs)

-- What is named is one of the rules, and none of them is less; none is named if there is none.
abbrev pub IsLeast : List ℕ → Option ℕ → Type 0
IsLeast rules None = rules ≡ []
IsLeast rules (Some r) = IsTrue (list_any (λ s. s == r) rules) × IsTrue (list_all (λ s. nat_le r s) rules)
