use Rattle.xapi_postings.proofs.Searches.{least_from}
use Rattle.xapi_postings.proofs.searching.first_from.Goals as goal

pub returns : goal.returns
returns c = least_from c.args.list.now c.args.from c.count_below.result c.position_at.result c.requires c.count_below.ensures.counted c.position_at.ensures
