-- The statements that a query asks for, in their order, and the pages in which they are given (xAPI 1.0.3, part three,
-- section 2.1.3).
use Rattle.std.specs.Prelude.{ℕ, zero, suc, ◌-◌, ◌&&◌, nat_lt, Bool, true, false, not, List, [], ◌∷◌, map, filter}
use Rattle.std.specs.Prelude.{length, reverse, slice_get, take, Option, Some, None, option_and_then, codes}
use Rattle.std.specs.Prelude.{if◌then◌else◌}
use Rattle.std.specs.List.{list_any, range_with_len}
use Rattle.std.specs.Option.{option_map_or}
use Rattle.lrs_json.specs.Json.{Json, array, object, string}
use Rattle.lrs_json.specs.View.{elements_of, members_of, view}
use Rattle.lrs_json.specs.Written.{elements_text, written}
use Rattle.xapi_search.specs.XapiQueryFilters.{direct, in_time, sees}
use Rattle.xapi_search.specs.XapiQueryLinks.{link_text}
use Rattle.xapi_search.specs.XapiQueryQueryQuery.{Query}
use Rattle.xapi_search.specs.XapiQueryQueryTheConstants.{MOST_OF_PAGE}
use Rattle.xapi_search.specs.XapiQuerySightSight.{Sight}
use Rattle.xapi_search.specs.XapiQuerySightSightTheVariants.{All}
use Rattle.xapi_search.specs.XapiStatementStored.{StoredStatement}
use Rattle.xapi_search.specs.XapiStatementShown.{shown_form}
use Rattle.xapi_search.specs.XapiStatementStatement.{target_of}
use Rattle.xapi_format.specs.declared.format.Format.{Format}
use Rattle.xapi_format.specs.declared.format.Format.TheVariants.{Exact}
use Rattle.xapi_search.specs.XapiStatementStatements.{held_under, is_voided}
use Rattle.xapi_search.specs.XapiIndexIndex.{statements_at}

-- ---- references

-- the statement to which this one refers, if it is held
abbrev pub referred : List StoredStatement → StoredStatement → Option StoredStatement
referred statements s = option_and_then (λ id. held_under id statements) (target_of (view s.received))

-- from that one on, with so many steps at most
abbrev pub chain_from : List StoredStatement → ℕ → Option StoredStatement → List StoredStatement
chain_from statements steps None = []
chain_from statements zero (Some s) = s ∷ []
chain_from statements (suc steps) (Some s) = s ∷ chain_from statements steps (referred statements s)

-- A statement, the one to which it refers, the one to which that refers, and so on, as long as they are held. There are
-- no more steps than statements, so a chain that goes round ends, too.
abbrev pub chain : List StoredStatement → StoredStatement → List StoredStatement
chain statements s = chain_from statements (length statements) (Some s)

-- ---- the list

-- One statement of its chain is seen and passes the filters; the times are held against its own stored moment. A voided
-- statement of the chain counts as any.
abbrev pub meets : Query → Sight → List StoredStatement → StoredStatement → Bool
meets query sight statements s = list_any (λ c. sees sight c && direct query c) (chain statements s) && in_time query s

abbrev pub is_listed : Query → Sight → List StoredStatement → StoredStatement → Bool
is_listed query sight statements s = sees sight s && not (is_voided statements s) && meets query sight statements s

-- a statement stands at that position, and is listed
abbrev pub is_listed_at : Query → Sight → List StoredStatement → ℕ → Bool
is_listed_at query sight statements k = option_map_or (is_listed query sight statements) (slice_get statements k) false

-- the positions of so many statements: the oldest first, else the newest
abbrev pub positions_of : Bool → ℕ → List ℕ
positions_of ascending n = if ascending then range_with_len 0 n else reverse (range_with_len 0 n)

-- The positions of the statements that are listed. A list as of an earlier moment is that of the statements that there
-- were.
abbrev pub listing : Query → Sight → List StoredStatement → List ℕ
listing query sight statements =
    filter (is_listed_at query sight statements) (positions_of query.ascending (length statements))

-- ---- pages

-- It comes after that position; after none, where the list begins.
abbrev pub is_behind : Bool → Option ℕ → ℕ → Bool
is_behind ascending None k = true
is_behind true (Some after) k = nat_lt after k
is_behind false (Some after) k = nat_lt k after

-- what is listed after a position
abbrev pub listing_behind : Query → Sight → List StoredStatement → Option ℕ → List ℕ
listing_behind query sight statements after = filter (is_behind query.ascending after) (listing query sight statements)

-- The positions of a page, and the last one of them if something follows it.
pub record Page : Type 0 where
  pub positions : List ℕ
  pub link : Option ℕ

abbrev pub last_of : List ℕ → Option ℕ
last_of ks = slice_get ks (length ks - 1)

-- the first ones, as many as a page has, which is at least one
abbrev pub first_page : ℕ → List ℕ → Page
first_page size ks =
    record { positions = take size ks; link = if nat_lt size (length ks) then last_of (take size ks) else None }

abbrev pub page_behind : Query → Sight → List StoredStatement → Option ℕ → Page
page_behind query sight statements after = first_page query.page (listing_behind query sight statements after)

-- ---- its text

-- the items of an array of the statements at these positions, and the closing bracket
abbrev pub items_text : Format → List StoredStatement → Bool → List ℕ → List ℕ
items_text format statements later ks =
    elements_text later (elements_of (map (shown_form format) (statements_at statements ks)))

-- the link after a position in a list of so many statements; none is empty
abbrev pub more_text : Query → ℕ → Option ℕ → List ℕ
more_text query n None = []
more_text query n (Some after) = link_text (record { query = query; asof = n; after = after })

-- {"statements":[..],"more":M}
abbrev pub list_json : Format → List StoredStatement → List ℕ → Json
list_json format statements more =
    object (members_of ((codes "statements", array (elements_of (map (shown_form format) statements)))
    ∷ (codes "more", string more) ∷ []))

-- of a page, in a list of the first n statements
abbrev pub page_body : Query → ℕ → List StoredStatement → Page → List ℕ
page_body query n statements p =
    written (list_json query.format (statements_at statements p.positions) (more_text query n p.link))

-- ---- all

-- the query that asks nothing
abbrev pub every : Query
every = record {
  agent = None;
  verb = None;
  activity = None;
  registration = None;
  related_agents = false;
  related_activities = false;
  since = None;
  until = None;
  page = MOST_OF_PAGE;
  ascending = false;
  format = Exact;
}

-- how many statements it lists to who sees each
abbrev pub listed_of_all : List StoredStatement → ℕ
listed_of_all statements = length (listing every All statements)
