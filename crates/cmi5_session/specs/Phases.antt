-- How far a session has come (cmi5 Quartz, section 9.3): what its own statements say, voided or not.
use Rattle.std.specs.Prelude.{ℕ, Bool, true, false, List, if◌then◌else◌}
use Rattle.cmi5_launch.specs.Names.{initialized, terminated}
use Rattle.cmi5_session.specs.Own.{has_own, says}
use Rattle.cmi5_session.specs.declared.phase.Phase.{Phase}
use Rattle.cmi5_session.specs.declared.phase.Phase.TheVariants.{Launched, Fetched, Initialized, Terminated, Abandoned}
use Rattle.lrs_json.specs.Json.{Json}
use Rattle.cmi5_launch.specs.XapiStatementStored.{StoredStatement}

-- Of the session of that id. Its token was fetched or not, and it was abandoned or not.
abbrev pub phase_of : List ℕ → Bool → Bool → List StoredStatement → Phase
phase_of id fetched abandoned statements =
    if abandoned then Abandoned
    else (if has_own id terminated statements then Terminated
    else (if has_own id initialized statements then Initialized
    else (if fetched then Fetched else Launched)))

-- Nothing more comes: terminated was said, or it was abandoned.
abbrev pub is_over : Phase → Bool
is_over Launched = false
is_over Fetched = false
is_over Initialized = false
is_over Terminated = true
is_over Abandoned = true

-- behind one statement more of the session's own
abbrev pub phase_behind : Phase → Json → Phase
phase_behind phase j =
    if is_over phase then phase
    else (if says terminated j then Terminated else (if says initialized j then Initialized else phase))
