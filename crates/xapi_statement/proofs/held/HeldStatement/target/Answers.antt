use Rattle.std.proofs.Common.{◌∙◌, ap}
use Rattle.lrs_json.specs.View.{view}
use Rattle.xapi_statement.specs.Statement.{target_of}
use Rattle.xapi_statement.specs.Stored.{StoredStatement}
use Rattle.xapi_statement.proofs.held.HeldStatement.target.Goals as goal

pub returns : goal.returns
returns c = c.self.invariant.target ∙ ap (λ (s : StoredStatement). target_of (view s.received)) c.self.view_is
