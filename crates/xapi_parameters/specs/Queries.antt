-- What the parameters of a list of statements ask for: each filter as it was given, and what it means.
use Rattle.std.specs.Prelude.{◌≡◌, ℕ, ℤ, ◌==◌, ◌||◌, nat_lt, Bool, false, List, Option, Some, None, option_map}
use Rattle.std.specs.Prelude.{option_and_then, codes, IsTrue, if◌then◌else◌}
use Rattle.std.specs.Option.{option_map_or}
use Rattle.std.specs.Result.{result_ok}
use Rattle.std.specs.Str.{bytes_eq}
use Rattle.std.specs.Str.Parse.{digits_value}
use Rattle.lrs_names.specs.Ids.{id_of}
use Rattle.lrs_agents.specs.declared.identifiers.Ifi.{Ifi}
use Rattle.lrs_time.specs.Reading.{timestamp_at}
use Rattle.xapi_format.specs.declared.format.Format.{Format}
use Rattle.xapi_format.specs.declared.format.Format.TheVariants.{Exact, Ids}
use Rattle.xapi_parameters.specs.Parameters.{Passes, given, has_iris, passes}
use Rattle.xapi_parameters.specs.Values.{IsActor, IsActorOf, is_limit}
use Rattle.xapi_parameters.specs.declared.pair.Pair.{Pair}
use Rattle.xapi_query.specs.declared.query.Given.{Given}
use Rattle.xapi_query.specs.declared.query.Query.{Query}
use Rattle.xapi_query.specs.declared.query.TheConstants.{MOST_OF_PAGE}

-- ---- values

-- the id that is given under that name
abbrev pub id_under : List ℕ → List Pair → Option (List ℕ)
id_under name pairs = option_and_then id_of (given name pairs)

-- the identifier of the agent or group that is given, with the text that was
abbrev pub IsActorGiven : Option (List ℕ) → Option (Given Ifi) → Type 0
IsActorGiven None None = Unit {0}
IsActorGiven None (Some actor) = ⊥
IsActorGiven (Some t) None = ⊥
IsActorGiven (Some t) (Some actor) = (actor.text ≡ t) × IsActorOf t actor.value

-- the instant of a timestamp, with its text
abbrev pub instant_in : List ℕ → Option (Given ℤ)
instant_in t = option_map (λ instant. record { text = t; value = instant }) (result_ok (timestamp_at t))

abbrev pub instant_under : List ℕ → List Pair → Option (Given ℤ)
instant_under name pairs = option_and_then instant_in (given name pairs)

-- `true` is given
abbrev pub is_asked : List ℕ → List Pair → Bool
is_asked name pairs = option_map_or (λ t. bytes_eq t (codes "true")) (given name pairs) false

-- `MOST_OF_PAGE` statements at most, which 0 asks for too
abbrev pub capped : ℕ → ℕ
capped n = if (n == 0) || nat_lt MOST_OF_PAGE n then MOST_OF_PAGE else n

-- how many statements a page has at most
abbrev pub page_size : List Pair → ℕ
page_size pairs = option_map_or (λ t. capped (digits_value 10 t)) (given (codes "limit") pairs) MOST_OF_PAGE

abbrev pub format_named : List ℕ → Format
format_named t = if bytes_eq t (codes "ids") then Ids else Exact

abbrev pub format_under : List Pair → Format
format_under pairs = option_map_or format_named (given (codes "format") pairs) Exact

-- ---- the whole

-- what is given as an actor, as an IRI and as a limit is one
pub record AreFilters (pairs : List Pair) : Type 0 where
  pub actor : Passes IsActor (codes "agent") pairs
  pub iris : IsTrue (has_iris pairs)
  pub limit : IsTrue (passes is_limit (codes "limit") pairs)

-- The query that parameters ask for.
pub record IsQuery (pairs : List Pair) (query : Query) : Type 0 where
  pub agent_is : IsActorGiven (given (codes "agent") pairs) query.agent
  pub verb_is : query.verb ≡ given (codes "verb") pairs
  pub activity_is : query.activity ≡ given (codes "activity") pairs
  pub registration_is : query.registration ≡ id_under (codes "registration") pairs
  pub agents_are : query.related_agents ≡ is_asked (codes "related_agents") pairs
  pub activities_are : query.related_activities ≡ is_asked (codes "related_activities") pairs
  pub since_is : query.since ≡ instant_under (codes "since") pairs
  pub until_is : query.until ≡ instant_under (codes "until") pairs
  pub page_is : query.page ≡ page_size pairs
  pub order_is : query.ascending ≡ is_asked (codes "ascending") pairs
  pub format_is : query.format ≡ format_under pairs
