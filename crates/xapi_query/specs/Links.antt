-- The links from a page of a list to the next one.
use Rattle.std.specs.Prelude.{◌≡◌, ℕ, ◌==◌, Bool, true, false, List, [], ◌∷◌, ◌++◌, Option, Some, None, option_map}
use Rattle.std.specs.Prelude.{codes, if◌then◌else◌}
use Rattle.std.specs.Fmt.{decimal}
use Rattle.form_urlencoded.specs.Form.{extend_pairs}
use Rattle.form_urlencoded.specs.Target.{Target}
use Rattle.lrs_names.specs.Ids.{id_text}
use Rattle.xapi_statement.specs.XapiFormatFormatFormat.{Format}
use Rattle.xapi_statement.specs.XapiFormatFormatFormatTheVariants.{Exact, Ids}
use Rattle.xapi_query.specs.declared.link.MoreLink.{MoreLink}
use Rattle.xapi_query.specs.declared.query.Query.{Query}
use Rattle.xapi_query.specs.declared.query.TheConstants.{MOST_OF_PAGE}

-- the pair of that name, if there is a text to give
abbrev pub pair_if : List ℕ → Option (List ℕ) → List (List ℕ × List ℕ)
pair_if name None = []
pair_if name (Some t) = (name, t) ∷ []

-- stands if it is true, and says so
abbrev pub pair_if_true : List ℕ → Bool → List (List ℕ × List ℕ)
pair_if_true name true = (name, codes "true") ∷ []
pair_if_true name false = []

-- stands if a page isn't as long as it is with no limit
abbrev pub limit_pair : ℕ → List (List ℕ × List ℕ)
limit_pair size = if size == MOST_OF_PAGE then [] else (codes "limit", decimal size) ∷ []

abbrev pub format_pair : Format → List (List ℕ × List ℕ)
format_pair Exact = []
format_pair Ids = (codes "format", codes "ids") ∷ []

-- ---- the parameters of a query: texts as they were given, a registration in lower case

abbrev pub filter_pairs : Query → List (List ℕ × List ℕ)
filter_pairs query =
    pair_if (codes "agent") (option_map (λ g. g.text) query.agent) ++ pair_if (codes "verb") query.verb
    ++ pair_if (codes "activity") query.activity
    ++ pair_if (codes "registration") (option_map id_text query.registration)

abbrev pub related_pairs : Query → List (List ℕ × List ℕ)
related_pairs query =
    pair_if_true (codes "related_activities") query.related_activities
    ++ pair_if_true (codes "related_agents") query.related_agents

abbrev pub time_pairs : Query → List (List ℕ × List ℕ)
time_pairs query =
    pair_if (codes "since") (option_map (λ g. g.text) query.since)
    ++ pair_if (codes "until") (option_map (λ g. g.text) query.until)

abbrev pub page_pairs : Query → List (List ℕ × List ℕ)
page_pairs query = limit_pair query.page ++ pair_if_true (codes "ascending") query.ascending ++ format_pair query.format

-- in this order
abbrev pub query_pairs : Query → List (List ℕ × List ℕ)
query_pairs query = filter_pairs query ++ related_pairs query ++ time_pairs query ++ page_pairs query

abbrev pub link_pairs : MoreLink → List (List ℕ × List ℕ)
link_pairs link = (codes "asof", decimal link.asof) ∷ (codes "after", decimal link.after) ∷ query_pairs link.query

-- as a form is written (URL Standard, section 5.2)
abbrev pub link_query : MoreLink → List ℕ
link_query link = extend_pairs [] (link_pairs link)

-- the text of a form with these pairs more
abbrev pub Appends : Target → Target → List (List ℕ × List ℕ) → Type 0
Appends old new pairs = new ≡ record old { form = extend_pairs old.form pairs }

-- The text of a link. Its path has no `?`, so what follows the first one is the query.
unfoldable pub link_text : MoreLink → List ℕ
link_text link = codes "/xapi/statements/more?" ++ link_query link
