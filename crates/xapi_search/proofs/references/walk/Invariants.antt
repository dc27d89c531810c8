use Rattle.std.proofs.Common.{◌≡◌, ℕ, true}
use Rattle.xapi_index.specs.XapiPostingsAscending.{is_in}
use Rattle.xapi_search.specs.Walks.{IsWalked}
use Rattle.xapi_search.proofs.references.walk.Given as goal

abbrev pub invariant-loop-step : goal.invariant-loop-step
invariant-loop-step l = record {
  kept : (k : ℕ) → is_in l.fn.found.keys k ≡ true → is_in l.found.keys k ≡ true;
  walked : IsWalked l.index.held l.n l.found.keys l.left.items;
}
