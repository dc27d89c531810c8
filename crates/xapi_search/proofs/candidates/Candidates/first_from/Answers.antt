use Rattle.xapi_search.proofs.Nearest.{first_candidate}
use Rattle.xapi_search.proofs.candidates.Candidates.first_from.Goals as goal

pub returns : goal.returns
returns c =
    first_candidate c.args.self.now c.args.from c.max-start.result c.least_from-least.result c.if_below.result c.max-start.ensures c.least_from-least.ensures c.if_below.ensures
