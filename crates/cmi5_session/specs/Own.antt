-- Statements that cmi5 defines (cmi5 Quartz, section 9.6.2.1), and those of a session's own.
use Rattle.std.specs.Prelude.{ℕ, ◌&&◌, Bool, false, List, codes}
use Rattle.std.specs.List.{list_any}
use Rattle.std.specs.Str.{bytes_eq}
use Rattle.cmi5_launch.specs.Names.{cmi5_category}
use Rattle.lrs_json.specs.Json.{Json}
use Rattle.lrs_json.specs.View.{view}
use Rattle.xapi_format.specs.declared.authority.Authority.{Authority}
use Rattle.xapi_format.specs.declared.authority.Authority.TheVariants.{Admin, Provider, Session, Desk}
use Rattle.cmi5_launch.specs.XapiStatementStatement.{has_context_activity, verb_of}
use Rattle.cmi5_launch.specs.XapiStatementStored.{StoredStatement}

-- cmi5 defines what it means: its category activities hold cmi5's own
abbrev pub is_cmi5_defined : Json → Bool
is_cmi5_defined j = has_context_activity (codes "category") cmi5_category j

-- such a statement of that verb
abbrev pub says : List ℕ → Json → Bool
says verb j = bytes_eq (verb_of j) verb && is_cmi5_defined j

-- it stands under the authority of the session of that id
abbrev pub is_of_session : List ℕ → Authority → Bool
is_of_session id Admin = false
is_of_session id (Provider k name) = false
is_of_session id (Session own) = bytes_eq own id
is_of_session id Desk = false

-- the session's own statement of that verb
abbrev pub is_own : List ℕ → List ℕ → StoredStatement → Bool
is_own id verb s = is_of_session id s.authority && says verb (view s.received)

-- one of these is such a one, voided or not
abbrev pub has_own : List ℕ → List ℕ → List StoredStatement → Bool
has_own id verb statements = list_any (is_own id verb) statements
