-- Statements that weren't stored within the times that a query gives.
use Rattle.std.proofs.Common.{◌≡◌, ℤ, int_lt, not, ◌∙◌, ap, Option, Some, Bool, true, false}
use Rattle.std.specs.Option.{option_map_or}
use Rattle.std.proofs.lemmas.Bool.{and_left, and_right}
use Rattle.xapi_index.specs.XapiQueryFilters.{in_time, stored_instant}
use Rattle.xapi_index.specs.XapiQueryQueryGiven.{Given}
use Rattle.xapi_index.specs.XapiQueryQueryQuery.{Query}
use Rattle.xapi_index.specs.XapiStatementStored.{StoredStatement}

abbrev is_late_enough : StoredStatement → Option (Given ℤ) → Bool
is_late_enough s o = option_map_or (λ (first : Given ℤ). int_lt first.value (stored_instant s)) o true

abbrev is_early_enough : StoredStatement → Option (Given ℤ) → Bool
is_early_enough s o = option_map_or (λ (last : Given ℤ). not (int_lt last.value (stored_instant s))) o true

pub too_early : (query : Query) (s : StoredStatement) (since : Given ℤ) → query.since ≡ Some since → int_lt since.value (stored_instant s) ≡ false → in_time query s ≡ false
too_early query s since given early =
    and_left (is_late_enough s query.since) (is_early_enough s query.until) (ap (is_late_enough s) given ∙ early)

pub too_late : (query : Query) (s : StoredStatement) (until : Given ℤ) → query.until ≡ Some until → int_lt until.value (stored_instant s) ≡ true → in_time query s ≡ false
too_late query s until given late =
    and_right (is_late_enough s query.since) (is_early_enough s query.until) (ap (is_early_enough s) given ∙ ap (λ b. not b) late)
