-- The statements in the order in which they were accepted, each under an id of its own: which one an id names, which
-- are voided, and what is added.
use Rattle.std.specs.Prelude.{ℕ, ◌&&◌, Bool, false, not, List, [], ◌∷◌, ◌++◌, find, map, position, slice_get, Option}
use Rattle.std.specs.Prelude.{Some, None, is_some, option_and_then, if◌then◌else◌}
use Rattle.std.specs.List.{list_any}
use Rattle.std.specs.Str.{bytes_eq}
use Rattle.lrs_json.specs.View.{view}
use Rattle.xapi_properties.specs.XapiRulesRules.{is_voiding}
use Rattle.xapi_statement.specs.Stored.{StoredStatement}
use Rattle.xapi_statement.specs.Statement.{target_of}

-- the statement that is held under an id
abbrev pub held_under : List ℕ → List StoredStatement → Option StoredStatement
held_under id statements = find (λ s. bytes_eq s.id id) statements

abbrev pub is_held : List ℕ → List StoredStatement → Bool
is_held id statements = is_some (held_under id statements)

-- their ids
abbrev pub ids_of : List StoredStatement → List (List ℕ)
ids_of statements = map (λ (s : StoredStatement). s.id) statements

-- ---- by position

-- the position of the statement to which this one refers, if it is held
abbrev pub position_referred : List StoredStatement → StoredStatement → Option ℕ
position_referred statements s =
    option_and_then (λ id. position (λ t. bytes_eq t.id id) statements) (target_of (view s.received))

-- the same of the statement at a position
abbrev pub referred_at : List StoredStatement → ℕ → Option ℕ
referred_at statements at = option_and_then (position_referred statements) (slice_get statements at)

-- ---- voiding (xAPI 1.0.3, part two, section 2.3.2)

abbrev pub is_that_id : List ℕ → Option (List ℕ) → Bool
is_that_id id None = false
is_that_id id (Some other) = bytes_eq other id

-- the id of the statement that this one voids, if any
abbrev pub voided_by : StoredStatement → Option (List ℕ)
voided_by s = if is_voiding (view s.received) then target_of (view s.received) else None

-- it voids the statement of that id
abbrev pub voids : List ℕ → StoredStatement → Bool
voids id s = is_that_id id (voided_by s)

abbrev pub is_target : List ℕ → List StoredStatement → Bool
is_target id statements = list_any (voids id) statements

-- A statement is voided if one that voids it is held, before or after it, and it isn't a voiding statement itself.
abbrev pub is_voided : List StoredStatement → StoredStatement → Bool
is_voided statements s = not (is_voiding (view s.received)) && is_target s.id statements

-- ---- what is added

-- the first statement of an id counts
abbrev pub add : List StoredStatement → StoredStatement → List StoredStatement
add statements s = if is_held s.id statements then statements else statements ++ s ∷ []

abbrev pub add_each : List StoredStatement → List StoredStatement → List StoredStatement
add_each statements [] = statements
add_each statements (s ∷ more) = add_each (add statements s) more

-- those of which no statement is held under their ids
abbrev pub new_ones : List StoredStatement → List StoredStatement → List StoredStatement
new_ones statements [] = []
new_ones statements (s ∷ ss) = if is_held s.id statements then new_ones statements ss else s ∷ new_ones statements ss
