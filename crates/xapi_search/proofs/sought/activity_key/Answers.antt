use Rattle.std.proofs.Common.{sym, ap, Bool}
use Rattle.lrs_json.specs.View.{view}
use Rattle.xapi_index.specs.XapiStatementStatement.{has_activity}
use Rattle.xapi_search.proofs.sought.activity_key.Goals as goal

pub returns-then-related : goal.returns-then-related
returns-then-related c = λ s. ap (λ (related : Bool). has_activity c.args.id related (view s.received)) (sym c.if-related.true)

pub returns-else-related : goal.returns-else-related
returns-else-related c = λ s. ap (λ (related : Bool). has_activity c.args.id related (view s.received)) (sym c.if-related.false)
