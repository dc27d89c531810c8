use Rattle.std.proofs.Common.{◌∙◌, ap}
use Rattle.xapi_statement.specs.Stored.{StoredStatement}
use Rattle.xapi_statement.proofs.held.HeldStatement.authority.Goals as goal

pub returns : goal.returns
returns c = c.get.ensures ∙ ap (λ (s : StoredStatement). s.authority) c.self.view_is
