use Rattle.std.proofs.Common.{◌∙◌, ap}
use Rattle.xapi_search.specs.XapiPostingsAscending.{is_in}
use Rattle.xapi_search.specs.Candidates.{Reaches}
use Rattle.xapi_pages.proofs.Covering.{at_some, led_from}
use Rattle.xapi_pages.proofs.searching.page_reaching.Goals as goal

pub page_in-requires-clause-all : goal.page_in-requires-clause-all
page_in-requires-clause-all c = λ k lt seen chain.
    let reached = at_some c.in_ok-found.found c.in-Some.reached (λ ks. Reaches c.args.index.now.held c.args.asof c.args.list.now ks.items) c.in-Some.is c.in_ok-found.ensures in
    ap (λ ks. is_in ks k) c.as_slice.ensures.value
    ∙ led_from c.args.sought.now c.args.index.now.held c.args.asof c.requires.asof c.args.list.now c.in-Some.reached.items reached c.requires.has k lt chain
