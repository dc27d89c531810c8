use Rattle.xapi_postings.proofs.Searches.{greatest_below, greatest_none}
use Rattle.xapi_postings.proofs.searching.last_below.Goals as goal

pub returns-then-count-eq0 : goal.returns-then-count-eq0
returns-then-count-eq0 c = greatest_none c.args.list.now c.args.end c.count_below-count.result c.count_below-count.ensures.counted c.if-count-eq0.true

pub returns-else-count-eq0 : goal.returns-else-count-eq0
returns-else-count-eq0 c =
    greatest_below c.args.list.now c.args.end c.count_below-count.result c.position_at.result c.requires c.count_below-count.ensures.within c.count_below-count.ensures.counted
    c.if-count-eq0.false c.position_at.ensures
