-- What the tallies of a course's nodes tell of them, and whether one of some statements is a voiding statement.
use Rattle.std.specs.Prelude.{ℕ, ◌==◌, Bool, List, nat_lt}
use Rattle.std.specs.List.{list_any}
use Rattle.cmi5_running_verdicts.specs.Changes.{tally_of}
use Rattle.cmi5_running_verdicts.specs.Tallies.{said_in_tally}
use Rattle.cmi5_running_verdicts.specs.declared.tally.Tally.{Tally}
use Rattle.cmi5_verdict.specs.declared.said.Said.{Said}
use Rattle.lrs_json.specs.View.{view}
use Rattle.xapi_rules.specs.Rules.{is_voiding}
use Rattle.cmi5_verdict.specs.XapiStatementStored.{StoredStatement}

-- ---- the node of a number

-- no unit under it is unmet
abbrev pub is_all_met_at : List Tally → ℕ → Bool
is_all_met_at tallies index = (tally_of tallies index).unmet == 0

abbrev pub is_waived_at : List Tally → ℕ → Bool
is_waived_at tallies index = nat_lt 0 (tally_of tallies index).waived

-- what was said of it
abbrev pub said_at : List Tally → ℕ → Said
said_at tallies index = said_in_tally (tally_of tallies index)

-- ---- voiding

abbrev pub voids_one : StoredStatement → Bool
voids_one s = is_voiding (view s.received)

abbrev pub any_voids : List StoredStatement → Bool
any_voids statements = list_any voids_one statements
