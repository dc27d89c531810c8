use Rattle.xapi_pages.proofs.Covering.{covers_all}
use Rattle.xapi_pages.proofs.searching.page_within.Goals as goal

pub find_page-requires-clause-covers : goal.find_page-requires-clause-covers
find_page-requires-clause-covers c =
    covers_all c.args.query.now c.args.sought.now c.args.index.now.held c.args.asof c.bounds-times.result.0 c.bounds-times.result.1 c.args.lists c.requires.asof c.bounds-times.ensures.times c.requires.all
