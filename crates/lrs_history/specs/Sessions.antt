-- Sessions: whether one is closed, and what it may do with documents.
use Rattle.std.specs.Prelude.{ℕ, ◌&&◌, ◌||◌, Bool, true, false, not, List, [], ◌∷◌, Option, Some, None, slice_get}
use Rattle.std.specs.Option.{option_map_or}
use Rattle.std.specs.Str.{bytes_eq}
use Rattle.cmi5_course.specs.declared.launch.Launch.{Launch}
use Rattle.cmi5_verdict.specs.Cmi5LaunchNames.{launch_data_state, terminated}
use Rattle.cmi5_verdict.specs.Cmi5SessionOwn.{has_own}
use Rattle.lrs_agents.specs.Identifiers.{same_ifi}
use Rattle.lrs_agents.specs.declared.identifiers.Ifi.{Ifi}
use Rattle.lrs_ids.specs.Choices.{first_some, when}
use Rattle.lrs_state.specs.Sessions.{is_abandoned_in}
use Rattle.lrs_state.specs.State.{State}
use Rattle.lrs_replies.specs.declared.answered.Refusal.{Refusal}
use Rattle.lrs_replies.specs.declared.answered.Refusal.TheVariants.{Forbidden}
use Rattle.lrs_rules.specs.declared.rule.Rule.TheVariants as rule

-- ---- whether a session is closed

-- the session of the launch of that index was abandoned
abbrev pub is_abandoned : State → ℕ → Bool
is_abandoned st k = is_abandoned_in st.sessions k

-- it said that it ended, voided or not
abbrev pub is_terminated : State → ℕ → Bool
is_terminated st k =
    option_map_or (λ (l : Launch). has_own l.session terminated st.statements) (slice_get st.launches k) false

-- It is closed: it was abandoned, or said that it ended.
abbrev pub is_closed : State → ℕ → Bool
is_closed st k = is_abandoned st k || is_terminated st k

-- ---- what a session may do with documents

-- the agent is its launch's actor, and the registration is its own, if one is given
abbrev pub is_its_own : Launch → Ifi → Option (List ℕ) → Bool
is_its_own launch agent registration =
    same_ifi launch.actor agent && option_map_or (λ own. bytes_eq own launch.registration) registration true

-- A caller that is a session asks for another's documents: A3.
abbrev pub outside : Option Launch → Ifi → Option (List ℕ) → Option Refusal
outside None agent registration = None
outside (Some launch) agent registration = when (not (is_its_own launch agent registration)) (Forbidden (rule.A 3))

-- It would write or drop what its launch wrote (A4), or drop all documents at once (A5).
abbrev pub over_state : Option (List ℕ) → Option Refusal
over_state None = Some (Forbidden (rule.A 5))
over_state (Some state) = when (bytes_eq state launch_data_state) (Forbidden (rule.A 4))

-- why a caller doesn't write, or drop, that state: all are meant where none is given
abbrev pub overstepped : Option Launch → Ifi → Option (List ℕ) → Option (List ℕ) → Option Refusal
overstepped None agent registration state = None
overstepped (Some launch) agent registration state =
    first_some (outside (Some launch) agent registration ∷ over_state state ∷ [])
