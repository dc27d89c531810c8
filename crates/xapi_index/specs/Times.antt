-- How statements stand by the moments at which they were accepted.
use Rattle.std.specs.Prelude.{◌≡◌, ◌≤◌, ◌<◌, ◌-◌, ℕ, ℤ, nat_le, int_lt, not, Bool, true, List, length, slice_get, Some}
use Rattle.std.specs.Option.{option_map_or}
use Rattle.xapi_postings.specs.XapiQueryFilters.{stored_instant}
use Rattle.xapi_postings.specs.XapiStatementStored.{StoredStatement}

-- it is no older than the last of a list
abbrev pub stands_behind : List StoredStatement → StoredStatement → Bool
stands_behind held s =
    option_map_or (λ (last : StoredStatement). nat_le last.stored s.stored) (slice_get held (length held - 1)) true

-- it wasn't stored later than the instant
abbrev pub is_until : ℤ → StoredStatement → Bool
is_until instant s = not (int_lt instant (stored_instant s))

-- Of the first n statements those from a position on were stored later than the instant, and no others.
abbrev pub AreLaterFrom : List StoredStatement → ℕ → ℤ → ℕ → Type 0
AreLaterFrom held n instant first = (first ≤ n) × ((k : ℕ) → (s : StoredStatement) → k < n
    → slice_get held k ≡ Some s → nat_le first k ≡ int_lt instant (stored_instant s))
