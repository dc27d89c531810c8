use Rattle.std.proofs.Common.{List, ℕ, subst, sym}
use Rattle.xapi_search.specs.XapiPostingsAscending.{IsAscending}
use Rattle.xapi_pages.specs.Searching.{HasDirect}
use Rattle.xapi_pages.proofs.Covering.{has_direct}
use Rattle.xapi_pages.proofs.searching.page_meeting.Goals as goal

pub page_direct-requires-clause-has : goal.page_direct-requires-clause-has
page_direct-requires-clause-has c =
    subst (λ (ks : List ℕ). HasDirect c.args.sought.now c.args.asof ks) (sym c.as_slice.ensures.value) (has_direct c.args.sought.now c.args.asof c.in_ok-direct.direct.items c.in_ok-direct.ensures)

pub page_direct-requires-clause-list : goal.page_direct-requires-clause-list
page_direct-requires-clause-list c = subst (λ (ks : List ℕ). IsAscending ks) (sym c.as_slice.ensures.value) c.in_ok-direct.ensures.ascending
