use Rattle.std.proofs.Common.{◌∙◌}
use Rattle.xapi_index.proofs.ahead.push_ahead.Goals as goal

pub push_under-requires-clause-authority : goal.push_under-requires-clause-authority
push_under-requires-clause-authority c = c.in-Ok.ensures ∙ c.authority.ensures
