use Rattle.xapi_search.proofs.Nearest.{last_candidate}
use Rattle.xapi_search.proofs.candidates.Candidates.last_before.Goals as goal

pub returns : goal.returns
returns c =
    last_candidate c.args.self.now c.args.end c.min-bound.result c.greatest_below-greatest.result c.if_from.result c.min-bound.ensures c.greatest_below-greatest.ensures c.if_from.ensures
