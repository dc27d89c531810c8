-- Which statements a query asks for, each by itself (xAPI 1.0.3, part three, section 2.1.3), and who sees one.
use Rattle.std.specs.Prelude.{ℕ, ℤ, ◌==◌, ◌&&◌, int_lt, not, Bool, true, false, List}
use Rattle.std.specs.Option.{option_map_or}
use Rattle.std.specs.Str.{bytes_eq}
use Rattle.lrs_json.specs.View.{view}
use Rattle.lrs_time.specs.Timestamp.{instant_of_moment}
use Rattle.xapi_statement.specs.Stored.{StoredStatement}
use Rattle.xapi_statement.specs.Shown.{takes_part}
use Rattle.xapi_statement.specs.Statement.{has_activity, registration_of, verb_of}
use Rattle.xapi_statement.specs.XapiFormatAuthorityAuthority.{Authority}
use Rattle.xapi_statement.specs.XapiFormatAuthorityAuthorityTheVariants as authority
use Rattle.xapi_query.specs.declared.query.Query.{Query}
use Rattle.xapi_query.specs.declared.sight.Sight.{Sight}
use Rattle.xapi_query.specs.declared.sight.Sight.TheVariants.{Nothing, All, Provider, Registration}

-- ---- filters: if one isn't given, every statement passes it

-- the identifier is that of an agent or group that takes part
abbrev pub passes_agent : Query → StoredStatement → Bool
passes_agent query s = option_map_or (λ actor. takes_part actor.value query.related_agents s) query.agent true

abbrev pub passes_verb : Query → StoredStatement → Bool
passes_verb query s = option_map_or (λ id. bytes_eq (verb_of (view s.received)) id) query.verb true

-- it is about that activity
abbrev pub passes_activity : Query → StoredStatement → Bool
passes_activity query s =
    option_map_or (λ id. has_activity id query.related_activities (view s.received)) query.activity true

-- its context names that registration
abbrev pub is_registered : List ℕ → StoredStatement → Bool
is_registered id s = option_map_or (λ own. bytes_eq own id) (registration_of (view s.received)) false

abbrev pub passes_registration : Query → StoredStatement → Bool
passes_registration query s = option_map_or (λ id. is_registered id s) query.registration true

-- It passes each filter that is given, but for the times.
abbrev pub direct : Query → StoredStatement → Bool
direct query s = passes_agent query s && passes_verb query s && passes_activity query s && passes_registration query s

-- ---- times

-- the moment at which it was accepted, in nanoseconds since 1970
abbrev pub stored_instant : StoredStatement → ℤ
stored_instant s = instant_of_moment s.stored

-- stored later than the first instant, and not later than the last
abbrev pub in_time : Query → StoredStatement → Bool
in_time query s =
    option_map_or (λ first. int_lt first.value (stored_instant s)) query.since true
    && option_map_or (λ last. not (int_lt last.value (stored_instant s))) query.until true

-- ---- sight

abbrev pub is_of_provider : ℕ → Authority → Bool
is_of_provider k authority.Admin = false
is_of_provider k (authority.Provider j name) = j == k
is_of_provider k (authority.Session id) = false
is_of_provider k authority.Desk = false

-- nothing, each statement, those under the authority of a provider, or those whose context names a registration
abbrev pub sees : Sight → StoredStatement → Bool
sees Nothing s = false
sees All s = true
sees (Provider k) s = is_of_provider k s.authority
sees (Registration id) s = is_registered id s
