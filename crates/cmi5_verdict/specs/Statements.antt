-- The statements over which is asked, in their order.
use Rattle.std.specs.Prelude.{List, ◌++◌}
use Rattle.cmi5_verdict.specs.declared.statements.Statements.{Statements}
use Rattle.cmi5_session.specs.XapiStatementStored.{StoredStatement}

-- those that are held, then the new ones
abbrev pub all_of : Statements → List StoredStatement
all_of s = s.held.now.held ++ s.new.now
