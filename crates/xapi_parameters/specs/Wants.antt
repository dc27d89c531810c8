-- What the parameters of a GET of statements ask for.
use Rattle.std.specs.Prelude.{◌≡◌, ◌||◌, false, List, Some, codes}
use Rattle.xapi_parameters.specs.Parameters.{has}
use Rattle.xapi_parameters.specs.Queries.{IsQuery, format_under}
use Rattle.xapi_parameters.specs.declared.pair.Pair.{Pair}
use Rattle.xapi_query.specs.declared.wanted.Wanted.{Wanted}
use Rattle.xapi_query.specs.declared.wanted.Wanted.TheVariants.{One, Voided, Many}
pub use Rattle.xapi_parameters.specs.Queries.{id_under}

-- The statement of that id, or the voided one, in the form that is asked for: if one id is given, the other isn't. With
-- neither, the list of those that the query tells.
abbrev pub IsWanted : List Pair → Wanted → Type 0
IsWanted pairs (One id format) = (id_under (codes "statementId") pairs ≡ Some id) × (format ≡ format_under pairs)
IsWanted pairs (Voided id format) = (id_under (codes "voidedStatementId") pairs ≡ Some id)
    × (format ≡ format_under pairs)
IsWanted pairs (Many query) = ((has (codes "statementId") pairs || has (codes "voidedStatementId") pairs) ≡ false)
    × IsQuery pairs query
