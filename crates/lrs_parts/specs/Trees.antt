-- The trees of statements that come, and of those that they void. Of a statement that is held its text is kept: its
-- tree is read before one comes that voids it.
use Rattle.std.specs.Prelude.{◌≡◌, List, Option, option_and_then}
use Rattle.std.specs.List.{AllByRecursion}
use Rattle.xapi_statement.specs.Statements.{held_under, voided_by}
use Rattle.xapi_statement.specs.Stored.{StoredStatement}

-- the statement of a list that this one voids, the first of its id
abbrev pub voided_in : List StoredStatement → StoredStatement → Option StoredStatement
voided_in statements s = option_and_then (λ id. held_under id statements) (voided_by s)

-- What each statement that comes voids stands among these trees as among those that are held, if it is held.
abbrev pub AreTargets : List StoredStatement → List StoredStatement → List StoredStatement → Type 0
AreTargets trees held coming = AllByRecursion (λ s. voided_in trees s ≡ voided_in held s) coming
