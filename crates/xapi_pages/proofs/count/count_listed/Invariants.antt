use Rattle.std.proofs.Common.{◌≡◌, ◌≤◌, ◌+◌, drop, length}
use Rattle.std.specs.List.{range_with_len}
use Rattle.xapi_pages.specs.Listings.{every, is_listed_at, listed_of_all}
use Rattle.xapi_search.specs.XapiQuerySightSightTheVariants.{All}
use Rattle.xapi_pages.proofs.Counts.{passing}
use Rattle.xapi_pages.proofs.count.count_listed.Given as goal

-- those that were counted, and those that are left
abbrev pub invariant-loop-at : goal.invariant-loop-at
invariant-loop-at l = record {
  counted : l.listed + passing (is_listed_at every All l.index.held) (drop l.at (range_with_len 0 (length l.index.held))) ≡ listed_of_all l.index.held;
  few : l.listed ≤ l.at;
}
