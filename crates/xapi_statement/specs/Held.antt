-- What stands beside the text of a statement that is held.
use Rattle.std.specs.Prelude.{◌≡◌, ℕ, Bool, List, Option, Some, None, IsTrue}
use Rattle.lrs_json.specs.View.{view}
use Rattle.lrs_json.specs.declared.tree.Tree.{Tree}
use Rattle.xapi_properties.specs.XapiRulesRules.{is_voiding}
use Rattle.xapi_statement.specs.Statement.{is_statement, registration_of, target_of}

-- the statement to which it refers, the registration that it names, and whether it voids; that it breaks no rule
pub record StandsBeside (received : Tree) (referred named : Option (List ℕ)) (voids : Bool) : Type 0 where
  pub target : referred ≡ target_of (view received)
  pub registration : named ≡ registration_of (view received)
  pub voiding : voids ≡ is_voiding (view received)
  pub unbroken : IsTrue (is_statement (view received))

-- the text that was written of a tree, if one was
abbrev pub IsTextOf : Option Tree → Tree → Type 0
IsTextOf None received = Unit {0}
IsTextOf (Some text) received = text ≡ received
