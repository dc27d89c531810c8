use Rattle.std.proofs.Common.{◌∙◌, ap}
use Rattle.lrs_json.specs.View.{view}
use Rattle.xapi_statement.specs.Statement.{registration_of}
use Rattle.xapi_statement.specs.Stored.{StoredStatement}
use Rattle.xapi_statement.proofs.held.HeldStatement.registration.Goals as goal

pub returns : goal.returns
returns c =
    c.self.invariant.registration ∙ ap (λ (s : StoredStatement). registration_of (view s.received)) c.self.view_is
