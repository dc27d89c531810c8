use Rattle.xapi_pages.proofs.Covering.{has_passing}
use Rattle.xapi_pages.proofs.searching.page_filtered.Goals as goal

pub page_near-requires-clause-has : goal.page_near-requires-clause-has
page_near-requires-clause-has c = has_passing c.args.sought.now c.args.asof c.args.list.now c.requires.has
