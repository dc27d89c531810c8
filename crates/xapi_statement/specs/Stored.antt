-- A statement as the store keeps it, and its completed form (xAPI 1.0.3, part two, section 2.4).
use Rattle.std.specs.Prelude.{ℕ, List}
use Rattle.lrs_json.specs.Json.{Json}
use Rattle.lrs_json.specs.View.{view}
use Rattle.lrs_json.specs.declared.tree.Tree.{Tree}
use Rattle.xapi_received.specs.XapiFormatAuthorities.{authority_json}
use Rattle.xapi_received.specs.XapiFormatCompleted.{completed}
use Rattle.lrs_time.specs.Moments.{moment_text}
use Rattle.xapi_received.specs.XapiFormatAuthorityAuthority.{Authority}

-- A statement as it was received, and what the store adds: its id, the moment at which it was accepted, and under whose
-- authority it stands.
pub record StoredStatement : Type 0 where
  pub received : Tree
  pub id : List ℕ
  pub stored : ℕ
  pub authority : Authority

abbrev pub completed_form : StoredStatement → Json
completed_form held = completed (view held.received) held.id (moment_text held.stored) (authority_json held.authority)
