-- Positions that may be listed, and those from which references lead to given ones.
use Rattle.std.specs.Prelude.{◌≡◌, ◌<◌, ◌≤◌, ◌&&◌, ◌||◌, ℕ, nat_le, nat_lt, Bool, true, false, List, slice_get, take}
use Rattle.std.specs.Prelude.{Option, Some}
use Rattle.xapi_index.specs.XapiStatementStatements.{referred_at}
use Rattle.xapi_index.specs.XapiPostingsAscending.{IsAscending, is_in}
pub use Rattle.xapi_index.specs.XapiPostingsNearest.{is_after, is_before}
use Rattle.xapi_index.specs.XapiQueryFilters.{in_time}
use Rattle.xapi_index.specs.XapiQueryQueryQuery.{Query}
use Rattle.xapi_index.specs.XapiStatementStored.{StoredStatement}
use Rattle.xapi_search.specs.declared.candidates.Candidates.{Candidates}
use Rattle.xapi_search.specs.declared.candidates.Lists.{Lists}
use Rattle.xapi_search.specs.declared.candidates.Lists.TheVariants.{Each, Either}

-- it stands in one of the lists
abbrev pub stands_in : Lists → ℕ → Bool
stands_in Each k = true
stands_in (Either a b) k = is_in a.now k || is_in b.now k

-- from the first on, before the end, and in one of the lists
abbrev pub is_candidate : Candidates → ℕ → Bool
is_candidate c k = (nat_le c.first k && nat_lt k c.end) && stands_in c.lists k

abbrev pub ListsAscend : Lists → Type 0
ListsAscend Each = Unit {0}
ListsAscend (Either a b) = IsAscending a.now × IsAscending b.now

-- the least candidate from a position on, if there is one
pub record IsFirstFrom (c : Candidates) (start : ℕ) (least : Option ℕ) : Type 0 where
  pub found : (k : ℕ) → least ≡ Some k → (start ≤ k) × (is_candidate c k ≡ true)
  pub no_other : (k : ℕ) → start ≤ k → is_before k least ≡ true → is_candidate c k ≡ false

-- the greatest candidate before a position, if there is one
pub record IsLastBefore (c : Candidates) (end : ℕ) (greatest : Option ℕ) : Type 0 where
  pub found : (k : ℕ) → greatest ≡ Some k → (k < end) × (is_candidate c k ≡ true)
  pub no_other : (k : ℕ) → k < end → is_after k greatest ≡ true → is_candidate c k ≡ false

-- ---- times

-- Of the first n statements, none before the first position or from the end on was stored within the times.
pub record Bounds (query : Query) (n : ℕ) (held : List StoredStatement) (first end : ℕ) : Type 0 where
  pub early : (k : ℕ) → (s : StoredStatement) → k < first → slice_get held k ≡ Some s → in_time query s ≡ false
  pub late : (k : ℕ) → (s : StoredStatement) → k < n → end ≤ k → slice_get held k ≡ Some s → in_time query s ≡ false

-- ---- references

-- It has each of these positions below n, and from whichever of the first n statements one refers to one that it has.
pub record Reaches (held : List StoredStatement) (n : ℕ) (given found : List ℕ) : Type 0 where
  pub ascending : IsAscending found
  pub ends : (k : ℕ) → k < n → is_in given k ≡ true → is_in found k ≡ true
  pub referring : (j k : ℕ) → j < n → referred_at (take n held) j ≡ Some k → is_in found k ≡ true
      → is_in found j ≡ true
