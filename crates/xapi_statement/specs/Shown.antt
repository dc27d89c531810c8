-- How a statement is shown, in the form that is asked for, and who takes part in it as the store keeps it.
use Rattle.std.specs.Prelude.{ℕ, List, Bool, ◌&&◌, ◌||◌, codes}
use Rattle.lrs_json.specs.Json.{Json}
use Rattle.lrs_json.specs.View.{view}
use Rattle.lrs_json.specs.Written.{written}
use Rattle.lrs_names.specs.Members.{has_member_that}
use Rattle.xapi_properties.specs.LrsAgentsIdentifiersIfi.{Ifi}
use Rattle.xapi_received.specs.XapiFormatAuthorities.{authority_json}
use Rattle.xapi_received.specs.XapiFormatParty.{is_party}
use Rattle.xapi_reduced.specs.Reduced.{reduced}
use Rattle.xapi_received.specs.XapiFormatFormatFormat.{Format}
use Rattle.xapi_received.specs.XapiFormatFormatFormatTheVariants.{Exact, Ids}
use Rattle.xapi_statement.specs.Stored.{StoredStatement, completed_form}
use Rattle.xapi_statement.specs.Parties.{has_context_agent, has_direct_agent, nested_has_agent}

-- ---- forms

abbrev pub shown_form : Format → StoredStatement → Json
shown_form Exact held = completed_form held
shown_form Ids held = reduced (completed_form held)

-- its text
abbrev pub shown_text : Format → StoredStatement → List ℕ
shown_text format held = written (shown_form format held)

-- ---- who takes part

-- In one of the related roles: the authority that the store gave it, the context, and those roles of a SubStatement.
abbrev pub related_in : Ifi → StoredStatement → Bool
related_in ifi held =
    is_party ifi (authority_json held.authority) || has_context_agent ifi (view held.received)
    || has_member_that (codes "object") (nested_has_agent ifi) (view held.received)

-- The same as of a statement that was received, but that its authority is the one that the store gave it.
abbrev pub takes_part : Ifi → Bool → StoredStatement → Bool
takes_part ifi related held = has_direct_agent ifi (view held.received) || (related && related_in ifi held)
