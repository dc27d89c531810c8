-- The link that parameters ask for, and that a link that is written is read as itself.
use Rattle.std.specs.Prelude.{◌≡◌, ◌⊎◌, ◌<◌, ◌^◌, List, None, codes}
use Rattle.xapi_query.specs.Links.{link_query}
use Rattle.xapi_query.specs.declared.link.MoreLink.{MoreLink}
use Rattle.xapi_parameters.specs.Pairs.{AreTexts, pairs_of}
use Rattle.xapi_parameters.specs.Parameters.{LeastOfGet, LeastOfLink, number_under}
use Rattle.xapi_parameters.specs.Queries.{IsQuery}
use Rattle.xapi_parameters.specs.declared.asked.TheConstants.{MOST_LINK_DIGITS}
use Rattle.xapi_parameters.specs.declared.pair.Pair.{Pair}

-- the link that parameters ask for
pub record IsLink (pairs : List Pair) (link : MoreLink) : Type 0 where
  pub query_is : IsQuery pairs link.query
  pub asof_is : link.asof ≡ number_under (codes "asof") pairs
  pub after_is : link.after ≡ number_under (codes "after") pairs

-- ---- written and read

-- It may stand in a page: its query is one that a request for a list or a link asked for, and it goes on within the
-- list.
pub record IsWritable (link : MoreLink) : Type 0 where
  pub pairs : List Pair
  pub texts : AreTexts pairs
  pub unbroken : LeastOfGet None pairs ⊎ LeastOfLink None pairs
  pub asked : IsQuery pairs link.query
  pub within : link.after < link.asof
  pub short : link.asof < 10 ^ MOST_LINK_DIGITS

-- a written link is read as itself
abbrev pub LinksAreReadBack : Type 0
LinksAreReadBack =
    (link : MoreLink) → IsWritable link
    → AreTexts (pairs_of (link_query link)) × LeastOfLink None (pairs_of (link_query link))
    × IsLink (pairs_of (link_query link)) link

-- and as no other
abbrev pub LinksAreReadAlone : Type 0
LinksAreReadAlone = (pairs : List Pair) (a b : MoreLink) → IsLink pairs a → IsLink pairs b → a ≡ b
