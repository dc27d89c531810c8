-- The next index at whose position a candidate stands: by the least candidate from a position on, or the greatest before one.
use Rattle.std.proofs.Common.{◌≡◌, ◌<◌, ◌≤◌, ◌-◌, ℕ, ◌∙◌, ap, refl, arith, Option, Some, None, IfSome, true, false, ◌&&◌, nat_le, nat_lt, slice_get}
use Rattle.std.proofs.lemmas.Bool.{and_parts, lt-ltb, ltb-true}
use Rattle.xapi_search.specs.Candidates.{IsFirstFrom, IsLastBefore, is_candidate, stands_in}
use Rattle.xapi_search.specs.declared.candidates.Candidates.{Candidates}
use Rattle.xapi_pages.specs.Listings.{positions_of}
use Rattle.xapi_pages.specs.Searching.{SkipsNone}
use Rattle.xapi_pages.proofs.Fronts.{is_down, is_up, within}

-- a candidate comes before the end
before_end : (c : Candidates) (k : ℕ) → is_candidate c k ≡ true → k < c.end
before_end c k is =
    ltb-true k c.end (and_parts (nat_le c.first k) (nat_lt k c.end) (and_parts (nat_le c.first k && nat_lt k c.end) (stands_in c.lists k) is).0).1

-- ---- the oldest first

pub up_ahead : (c : Candidates) (start : ℕ) (found : Option ℕ) → IsFirstFrom c start found → IfSome found (λ i. start ≤ i)
up_ahead c start None is = tt
up_ahead c start (Some i) is = (is.found i refl).0

pub up_within : (c : Candidates) (n start : ℕ) (found : Option ℕ) → c.end ≤ n → IsFirstFrom c start found → IfSome found (λ i. i < n)
up_within c n start None le is = tt
up_within c n start (Some i) le is = let lt = before_end c i (is.found i refl).1 in omega (arith, le, lt)

pub up_skips : (c : Candidates) (n start : ℕ) (found : Option ℕ) → IsFirstFrom c start found → SkipsNone c true n start found
up_skips c n start found is = λ i k from before at.
    ap (λ m. is_candidate c m) (is_up n i k at) ∙ is.no_other i from before

-- ---- the newest first

-- the index of a position before the n - start-th
pub down_index : (n start bound position index : ℕ) → bound ≡ n - start → position < bound → slice_get (positions_of false n) position ≡ Some index → (start ≤ index) × (index < n)
down_index n start bound position index is lt at = let same = is_down n position index at in (omega arith, omega arith)

pub down_skips : (c : Candidates) (n start bound position index : ℕ) → bound ≡ n - start → IsLastBefore c bound (Some position) → slice_get (positions_of false n) position ≡ Some index → SkipsNone c false n start (Some index)
down_skips c n start bound position index is last here = λ i k from before at.
    let same = is_down n i k at in
    let lt = within false n i k at in
    let down = is_down n position index here in
    let inside = within false n position index here in
    let less = ltb-true i index before in
    last.no_other k (omega arith) (lt-ltb position k (omega arith))

pub down_ends : (c : Candidates) (n start bound : ℕ) → bound ≡ n - start → IsLastBefore c bound None → SkipsNone c false n start None
down_ends c n start bound is last = λ i k from before at.
    let same = is_down n i k at in
    let lt = within false n i k at in
    last.no_other k (omega arith) refl
