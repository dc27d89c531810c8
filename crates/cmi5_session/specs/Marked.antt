-- Statements with marks: whether each is voided.
use Rattle.std.specs.Prelude.{Bool, List, map}
use Rattle.cmi5_launch.specs.XapiStatementStatements.{is_voided}
use Rattle.cmi5_launch.specs.XapiStatementStored.{StoredStatement}

pub record MarkedStatement : Type 0 where
  pub statement : StoredStatement
  pub voided : Bool

abbrev pub mark : StoredStatement → Bool → MarkedStatement
mark s voided = record { statement = s; voided = voided }

-- these, each with whether one of those voids it
abbrev pub marked_by : List StoredStatement → List StoredStatement → List MarkedStatement
marked_by those statements = map (λ s. mark s (is_voided those s)) statements

-- each with whether one of them voids it
abbrev pub marked : List StoredStatement → List MarkedStatement
marked statements = marked_by statements statements

abbrev pub statements_of : List MarkedStatement → List StoredStatement
statements_of those = map (λ (m : MarkedStatement). m.statement) those
