use Rattle.xapi_search.proofs.Nearest.{from_no, from_none, from_yes}
use Rattle.xapi_search.proofs.candidates.if_from.Goals as goal

pub returns-then-first-position : goal.returns-then-first-position
returns-then-first-position c = from_yes c.args.first c.args.found c.in-Some.position c.in-Some.is c.if-first-position.true

pub returns-else-first-position : goal.returns-else-first-position
returns-else-first-position c = from_no c.args.first c.args.found c.in-Some.position c.in-Some.is c.if-first-position.false

pub returns-in-None : goal.returns-in-None
returns-in-None c = from_none c.args.first c.args.found c.in-None.is
