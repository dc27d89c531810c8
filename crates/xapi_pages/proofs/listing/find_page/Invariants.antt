use Rattle.std.proofs.Common.{◌≡◌, ◌≤◌, ◌+◌, ◌-◌, ◌++◌, [], drop, take, length}
use Rattle.std.specs.Prelude.{filter}
use Rattle.xapi_search.specs.XapiQuerySightSight.{Sight}
use Rattle.xapi_search.specs.Sought.{TellsSought}
use Rattle.xapi_pages.specs.Listings.{is_behind, is_listed_at, listing_behind, positions_of}
use Rattle.xapi_pages.specs.Chains.{AreTrue, chain_passes, unknown_below}
use Rattle.xapi_pages.proofs.listing.find_page.Given as goal

-- The page so far, and what is given of the positions that are left; from the first index on, no more were missed than were looked at, and there were no more steps than positions that are known.
abbrev pub invariant-looks : goal.invariant-looks
invariant-looks l = record {
  given : (sight : Sight) → TellsSought l.query sight l.index.held l.sought
      → l.positions.items ++ filter (is_behind l.query.ascending l.fn.after) (filter (is_listed_at l.query sight (take l.asof l.index.held)) (drop l.from (positions_of l.query.ascending l.asof)))
      ≡ listing_behind l.query sight (take l.asof l.index.held) l.fn.after;
  short : length l.positions.items ≤ l.query.page;
  later : l.initial.from ≤ l.from;
  few : l.missed ≤ l.from;
  counted : l.walked + unknown_below l.asof l.marks ≤ l.asof;
  marked : AreTrue (chain_passes l.sought (take l.asof l.index.held)) l.marks [];
}

abbrev pub decreases-looks : goal.decreases-looks
decreases-looks l = l.asof - l.from
