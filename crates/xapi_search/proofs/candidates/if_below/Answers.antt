use Rattle.xapi_search.proofs.Nearest.{below_no, below_none, below_yes}
use Rattle.xapi_search.proofs.candidates.if_below.Goals as goal

pub returns-then-position-end : goal.returns-then-position-end
returns-then-position-end c = below_yes c.args.end c.args.found c.in-Some.position c.in-Some.is c.if-position-end.true

pub returns-else-position-end : goal.returns-else-position-end
returns-else-position-end c = below_no c.args.end c.args.found c.in-Some.position c.in-Some.is c.if-position-end.false

pub returns-in-None : goal.returns-in-None
returns-in-None c = below_none c.args.end c.args.found c.in-None.is
