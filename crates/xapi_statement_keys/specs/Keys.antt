-- The keys of a statement: all that lists of statements are searched by (xAPI 1.0.3, part three, section 2.1.3).
use Rattle.std.specs.Prelude.{◌≡◌, ℕ, Bool, true, false, ◌&&◌, List, is_some}
use Rattle.std.specs.BTreeMap.{is_at}
use Rattle.std.specs.List.{list_any}
use Rattle.std.specs.Option.{option_map_or}
use Rattle.std.specs.Str.{bytes_eq}
use Rattle.std.specs.declared.cmp.Ordering.{Ordering}
use Rattle.lrs_json.specs.View.{view}
use Rattle.xapi_query.specs.Filters.{is_of_provider, is_registered}
use Rattle.xapi_query.specs.XapiRulesRules.{is_voiding}
use Rattle.xapi_query.specs.XapiStatementShown.{takes_part}
use Rattle.xapi_query.specs.XapiStatementStatement.{has_activity, target_of, verb_of}
use Rattle.xapi_query.specs.XapiStatementStored.{StoredStatement}
use Rattle.xapi_statement_keys.specs.contracts.key.KeyOrd.TheImpl as key_ord
use Rattle.xapi_statement_keys.specs.declared.key.Key.{Key}
use Rattle.xapi_statement_keys.specs.declared.key.Key.TheVariants as key

-- the order in which keys stand in a map
abbrev pub key_cmp : Key → Key → Ordering
key_cmp = (key_ord.ghosts).cmp

abbrev pub is_same_key : Key → Key → Bool
is_same_key a b = is_at (key_cmp a) b

abbrev pub is_among : Key → List Key → Bool
is_among k keys = list_any (λ other. is_same_key other k) keys

-- the statement refers to the one of that id
abbrev pub refers_to : List ℕ → StoredStatement → Bool
refers_to id s = option_map_or (λ own. bytes_eq own id) (target_of (view s.received)) false

-- ---- the keys that a statement has

abbrev pub has_key : Key → StoredStatement → Bool
has_key (key.Statement id) s = bytes_eq s.id id
has_key (key.Verb id) s = bytes_eq (verb_of (view s.received)) id
has_key (key.Activity id) s = has_activity id false (view s.received)
has_key (key.RelatedActivity id) s = has_activity id true (view s.received)
has_key (key.Agent ifi) s = takes_part ifi false s
has_key (key.RelatedAgent ifi) s = takes_part ifi true s
has_key (key.Registration id) s = is_registered id s
has_key (key.Provider number) s = is_of_provider number s.authority
has_key (key.Reference id) s = refers_to id s
has_key (key.Voiding id) s = is_voiding (view s.received) && refers_to id s
has_key key.AnyReference s = is_some (target_of (view s.received))

-- ---- what the order of keys keeps apart

-- Two keys that the order doesn't tell apart are one.
abbrev pub SameKeysAreOne : Type 0
SameKeysAreOne = (a b : Key) → is_same_key a b ≡ true → a ≡ b
