-- Statements by their positions, with marks.
use Rattle.std.specs.Prelude.{ℕ, List, [], ◌∷◌, ◌++◌, slice_get}
use Rattle.std.specs.Option.{option_map_or}
use Rattle.cmi5_verdict.specs.Cmi5SessionMarked.{MarkedStatement, mark}
use Rattle.cmi5_verdict.specs.XapiStatementStatements.{is_voided}
use Rattle.cmi5_verdict.specs.XapiStatementStored.{StoredStatement}

-- the one at a position, if there is one, with whether one of them voids it
abbrev pub marked_at : List StoredStatement → ℕ → List MarkedStatement
marked_at statements at = option_map_or (λ s. mark s (is_voided statements s) ∷ []) (slice_get statements at) []

-- those at these positions
abbrev pub marked_at_each : List StoredStatement → List ℕ → List MarkedStatement
marked_at_each statements [] = []
marked_at_each statements (at ∷ more) = marked_at statements at ++ marked_at_each statements more
