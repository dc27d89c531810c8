-- Chains of references by the positions of statements, and what is marked of them while a page is found.
use Rattle.std.specs.Prelude.{◌≡◌, ◌==◌, ◌+◌, ◌||◌, ℕ, zero, suc, Bool, true, false, List, length, Option, Some}
use Rattle.std.specs.Prelude.{None, if◌then◌else◌, unwrap_or}
use Rattle.std.specs.BTreeMap.{is_at}
use Rattle.std.specs.List.{list_any}
use Rattle.std.specs.Map.{lookup}
use Rattle.std.specs.Ordering.{nat_cmp}
use Rattle.xapi_search.specs.XapiStatementStatements.{referred_at}
pub use Rattle.xapi_search.specs.Sought.{is_direct_at}
use Rattle.xapi_search.specs.declared.sought.Sought.{Sought}
use Rattle.xapi_search.specs.XapiStatementStored.{StoredStatement}
use Rattle.xapi_pages.specs.declared.chains.Mark.{Mark}
use Rattle.xapi_pages.specs.declared.chains.Mark.TheVariants.{Unknown, Passes, Fails}

-- From a position on, one that the test lets pass is reached in so many steps at most.
abbrev pub reaches : (ℕ → Bool) → (ℕ → Option ℕ) → ℕ → Option ℕ → Bool
reaches p next steps None = false
reaches p next zero (Some k) = p k
reaches p next (suc steps) (Some k) = p k || reaches p next steps (next k)

-- A statement of the chain of the one at a position is seen and passes the filters, as the lists tell.
abbrev pub chain_passes : Sought → List StoredStatement → ℕ → Bool
chain_passes sought statements position =
    reaches (is_direct_at sought) (referred_at statements) (length statements) (Some position)

-- ---- marks, by position

-- what is marked at a position
abbrev pub mark_at : List (ℕ × Mark) → ℕ → Mark
mark_at marks position = unwrap_or (lookup (is_at (nat_cmp position)) marks) Unknown

-- one position is marked so, and the others as before
abbrev pub IsMarked : List (ℕ × Mark) → ℕ → Mark → List (ℕ × Mark) → Type 0
IsMarked old position mark new = (k : ℕ) → mark_at new k ≡ (if k == position then mark else mark_at old k)

abbrev pub is_among : List ℕ → ℕ → Bool
is_among positions position = list_any (λ k. position == k) positions

-- what is known at a position without a further step: by its mark, and by the statement itself
abbrev pub known_by : Mark → Bool → Option Bool
known_by Unknown direct = if direct then Some true else None
known_by Passes direct = Some true
known_by Fails direct = Some false

-- Marks tell what is so; but for these positions, where they tell of failing.
pub record AreTrue (holds : ℕ → Bool) (marks : List (ℕ × Mark)) (doubtful : List ℕ) : Type 0 where
  pub passing : (k : ℕ) → mark_at marks k ≡ Passes → holds k ≡ true
  pub failing : (k : ℕ) → mark_at marks k ≡ Fails → is_among doubtful k ≡ false → holds k ≡ false

-- ---- how far walks can go

-- one for an unknown position
abbrev pub if_unknown : Mark → ℕ
if_unknown Unknown = 1
if_unknown Passes = 0
if_unknown Fails = 0

-- how many of the first n positions are unknown
abbrev pub unknown_below : ℕ → List (ℕ × Mark) → ℕ
unknown_below zero marks = 0
unknown_below (suc n) marks = if_unknown (mark_at marks n) + unknown_below n marks
