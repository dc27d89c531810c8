use Rattle.std.proofs.Common.{sym, ap, Bool}
use Rattle.xapi_index.specs.XapiStatementShown.{takes_part}
use Rattle.xapi_search.proofs.sought.agent_key.Goals as goal

pub returns-then-related : goal.returns-then-related
returns-then-related c = λ s. ap (λ (related : Bool). takes_part c.args.ifi related s) (sym c.if-related.true)

pub returns-else-related : goal.returns-else-related
returns-else-related c = λ s. ap (λ (related : Bool). takes_part c.args.ifi related s) (sym c.if-related.false)
