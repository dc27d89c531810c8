-- What a query and a sight ask of the statements of an index, as lists of positions.
use Rattle.std.specs.Prelude.{◌≡◌, ◌&&◌, ℕ, nat_lt, Bool, true, false, List, slice_get, Some}
use Rattle.std.specs.List.{AllByRecursion, list_all}
use Rattle.xapi_index.specs.XapiPostingsAscending.{IsAscending, is_in}
use Rattle.xapi_index.specs.XapiQueryFilters.{direct, sees}
use Rattle.xapi_index.specs.XapiQueryQueryQuery.{Query}
use Rattle.xapi_index.specs.XapiQuerySightSight.{Sight}
use Rattle.xapi_index.specs.XapiStatementStored.{StoredStatement}
use Rattle.xapi_search.specs.declared.sought.Seen.{Seen}
use Rattle.xapi_search.specs.declared.sought.Seen.TheVariants.{Nothing, All, These}
use Rattle.xapi_search.specs.declared.sought.Sought.{Sought}

-- the position is one of those that are seen
abbrev pub is_seen : Seen → ℕ → Bool
is_seen Nothing k = false
is_seen All k = true
is_seen (These ks) k = is_in ks.now k

-- it stands in the list of each filter
abbrev pub passes : Sought → ℕ → Bool
passes sought k = list_all (λ ks. is_in ks.now k) sought.filters.items

-- the statement at a position is seen and passes the filters by itself, as the lists tell
abbrev pub is_direct_at : Sought → ℕ → Bool
is_direct_at sought position = is_seen sought.seen position && passes sought position

-- of the first n positions those that are seen and pass, in order
pub record AreDirect (sought : Sought) (n : ℕ) (found : List ℕ) : Type 0 where
  pub ascending : IsAscending found
  pub those : (k : ℕ) → is_in found k ≡ nat_lt k n && is_direct_at sought k

abbrev pub SeenAscends : Seen → Type 0
SeenAscends Nothing = Unit {0}
SeenAscends All = Unit {0}
SeenAscends (These ks) = IsAscending ks.now

-- each list is in order
pub record AreAscending (sought : Sought) : Type 0 where
  pub seen : SeenAscends sought.seen
  pub filters : AllByRecursion (λ ks. IsAscending ks.now) sought.filters.items

-- Of each statement that is held the lists tell whether it is seen, and whether it passes the filters by itself.
pub record TellsSought (query : Query) (sight : Sight) (held : List StoredStatement) (sought : Sought) : Type 0 where
  pub seen : (k : ℕ) → (s : StoredStatement) → slice_get held k ≡ Some s → is_seen sought.seen k ≡ sees sight s
  pub passes : (k : ℕ) → (s : StoredStatement) → slice_get held k ≡ Some s → passes sought k ≡ direct query s
