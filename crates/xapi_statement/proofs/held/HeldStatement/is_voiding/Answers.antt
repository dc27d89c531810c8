use Rattle.std.proofs.Common.{◌∙◌, ap}
use Rattle.lrs_json.specs.View.{view}
use Rattle.xapi_properties.specs.XapiRulesRules.{is_voiding}
use Rattle.xapi_statement.specs.Stored.{StoredStatement}
use Rattle.xapi_statement.proofs.held.HeldStatement.is_voiding.Goals as goal

pub returns : goal.returns
returns c = c.self.invariant.voiding ∙ ap (λ (s : StoredStatement). is_voiding (view s.received)) c.self.view_is
