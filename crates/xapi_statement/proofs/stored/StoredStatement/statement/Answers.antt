use Rattle.std.proofs.Common.{subst}
use Rattle.std.specs.Prelude.{IsTrue}
use Rattle.lrs_json.specs.View.{view}
use Rattle.xapi_statement.specs.Statement.{is_statement}
use Rattle.xapi_statement.specs.Stored.{StoredStatement}
use Rattle.xapi_statement.proofs.stored.StoredStatement.statement.Goals as goal

pub returns-clause-unbroken : goal.returns-clause-unbroken
returns-clause-unbroken c =
    subst (λ (s : StoredStatement). IsTrue (is_statement (view s.received))) c.self.view_is c.self.inside.statement.unbroken
