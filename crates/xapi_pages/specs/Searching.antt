-- What a page is found to be, and where it is looked for: said of each sight of which the lists tell.
use Rattle.std.specs.Prelude.{◌≡◌, ◌<◌, ◌≤◌, ◌&&◌, ℕ, Bool, true, false, not, List, slice_get, take, Option, Some}
use Rattle.std.specs.Option.{option_map_or}
use Rattle.xapi_search.specs.XapiStatementStatements.{is_voided}
use Rattle.xapi_search.specs.XapiPostingsAscending.{is_in}
use Rattle.xapi_search.specs.XapiQueryFilters.{in_time}
use Rattle.xapi_search.specs.XapiQueryQueryQuery.{Query}
use Rattle.xapi_search.specs.XapiQuerySightSight.{Sight}
use Rattle.xapi_search.specs.Candidates.{is_before, is_candidate, stands_in}
use Rattle.xapi_search.specs.Sought.{TellsSought, is_direct_at, is_seen}
use Rattle.xapi_search.specs.declared.candidates.Candidates.{Candidates}
use Rattle.xapi_search.specs.declared.candidates.Lists.{Lists}
use Rattle.xapi_search.specs.declared.sought.Sought.{Sought}
use Rattle.xapi_search.specs.XapiStatementStored.{StoredStatement}
use Rattle.xapi_pages.specs.Chains.{chain_passes}
use Rattle.xapi_pages.specs.Listings.{Page, is_listed_at, page_behind, positions_of}
use Rattle.xapi_pages.specs.declared.listing.Page.{Page as Found}

-- ---- what is found

-- the page that was found
abbrev pub seen_page : Found → Page
seen_page page = record { positions = page.positions.items; link = page.link }

-- it is the page after that position in the list as of the first n statements
abbrev pub IsPage : Query → Sought → List StoredStatement → ℕ → Option ℕ → Found → Type 0
IsPage query sought held n after page = (sight : Sight) → TellsSought query sight held sought
    → seen_page page ≡ page_behind query sight (take n held) after

-- The statement at a position is seen, in time and not voided: it is listed if one of its chain passes.
abbrev pub may_be_listed : Query → Sought → List StoredStatement → ℕ → ℕ → Bool
may_be_listed query sought held n position =
    is_seen sought.seen position
    && option_map_or (in_time query) (slice_get held position) false
    && not (option_map_or (is_voided (take n held)) (slice_get held position) false)

-- it tells whether the statement at a position is listed as of the first n
abbrev pub TellsListed : Query → Sought → List StoredStatement → ℕ → ℕ → Bool → Type 0
TellsListed query sought held n position listed = (sight : Sight) → TellsSought query sight held sought
    → listed ≡ is_listed_at query sight (take n held) position

-- ---- where it is looked for

-- What isn't a candidate isn't listed as of the first n statements.
abbrev pub Covers : Query → Sought → List StoredStatement → ℕ → Candidates → Type 0
Covers query sought held n candidates = (sight : Sight) → TellsSought query sight held sought
    → (k : ℕ) → k < n → is_candidate candidates k ≡ false → is_listed_at query sight (take n held) k ≡ false

-- Of the first n positions, each that is seen, and of whose chain one is seen and passes, stands in one of the lists.
abbrev pub HaveAll : Sought → List StoredStatement → ℕ → Lists → Type 0
HaveAll sought held n lists = (k : ℕ) → k < n → is_seen sought.seen k ≡ true
    → chain_passes sought (take n held) k ≡ true → stands_in lists k ≡ true

-- Of the first n positions, the list has each that is seen and passes by itself.
abbrev pub HasDirect : Sought → ℕ → List ℕ → Type 0
HasDirect sought n list = (k : ℕ) → k < n → is_direct_at sought k ≡ true → is_in list k ≡ true

-- In the order of so many positions none that stands from an index on, and before the one that was found, is a
-- candidate.
abbrev pub SkipsNone : Candidates → Bool → ℕ → ℕ → Option ℕ → Type 0
SkipsNone candidates ascending n start found = (i k : ℕ) → start ≤ i → is_before i found ≡ true
    → slice_get (positions_of ascending n) i ≡ Some k → is_candidate candidates k ≡ false
