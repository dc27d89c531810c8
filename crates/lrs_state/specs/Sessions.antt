-- What the desk knows of the sessions of launches, one for each launch and in their order; and the session ids that
-- enrolments and waivers made, which are those of no launch.
use Rattle.std.specs.Prelude.{◌≤◌, ℕ, Bool, true, false, not, ◌||◌, List, [], ◌∷◌, ◌++◌, Option, Some, None, is_some}
use Rattle.std.specs.Prelude.{map, slice_get, slice_set}
use Rattle.std.specs.Option.{option_map_or}
use Rattle.lrs_state.specs.Counted.{list_after}
use Rattle.lrs_state.specs.declared.sessions.HeldSession.{HeldSession}
use Rattle.lrs_state.specs.declared.sessions.MadeSession.{MadeSession}
use Rattle.lrs_state.specs.declared.sessions.SessionsChange.{SessionsChange}
use Rattle.lrs_register.specs.Changes.{unchanged}
use Rattle.lrs_register.specs.declared.change.Change.{Change}
use Rattle.lrs_time.specs.Reading.{is_empty}

-- the session of the launch of that number was abandoned
abbrev pub is_abandoned_in : List HeldSession → ℕ → Bool
is_abandoned_in sessions number = option_map_or (λ (s : HeldSession). s.abandoned) (slice_get sessions number) false

-- ---- what is changed

abbrev pub unchanged_sessions : SessionsChange
unchanged_sessions = record { abandoned = []; fetched = None; launched = false }

abbrev pub changes_sessions : SessionsChange → Bool
changes_sessions change = not (is_empty change.abandoned) || is_some change.fetched || change.launched

-- the one of that number is changed so, if it is there
abbrev pub with_changed : (HeldSession → HeldSession) → List HeldSession → ℕ → List HeldSession
with_changed change sessions number =
    option_map_or (λ s. slice_set sessions number (change s)) (slice_get sessions number) sessions

abbrev pub as_abandoned : HeldSession → HeldSession
as_abandoned s = record { moment = s.moment; abandoned = true }

abbrev pub as_of : ℕ → HeldSession → HeldSession
as_of moment s = record { moment = moment; abandoned = s.abandoned }

-- those of these numbers are abandoned
abbrev pub with_abandoned : List HeldSession → List ℕ → List HeldSession
with_abandoned sessions [] = sessions
with_abandoned sessions (number ∷ numbers) = with_abandoned (with_changed as_abandoned sessions number) numbers

-- the token of that one is given away at that moment
abbrev pub with_fetched : ℕ → List HeldSession → Option ℕ → List HeldSession
with_fetched moment sessions None = sessions
with_fetched moment sessions (Some number) = with_changed (as_of moment) sessions number

-- one begins at that moment
abbrev pub with_launched : ℕ → List HeldSession → Bool → List HeldSession
with_launched moment sessions false = sessions
with_launched moment sessions true = sessions ++ record { moment = moment; abandoned = false } ∷ []

-- The sessions after an entry of that moment: some are abandoned, a token is given away, one begins.
abbrev pub sessions_after : ℕ → List HeldSession → SessionsChange → List HeldSession
sessions_after moment sessions change =
    with_launched moment (with_fetched moment (with_abandoned sessions change.abandoned) change.fetched) change.launched

-- ---- room

-- What is seen of the sessions: what is known of each, and for how many more there is room.
pub record SeenHeldSessions : Type 0 where
  pub held : List HeldSession
  pub spare : ℕ

abbrev pub HasRoomIf : Bool → ℕ → Type 0
HasRoomIf false spare = Unit {0}
HasRoomIf true spare = 1 ≤ spare

-- there is room for one more, if one begins
abbrev pub HasRoomForSession : SeenHeldSessions → SessionsChange → Type 0
HasRoomForSession sessions change = HasRoomIf change.launched sessions.spare

-- ---- session ids of no launch

abbrev pub made_session_id : MadeSession → List ℕ
made_session_id session = session.id

abbrev pub made_session_ids : List MadeSession → List (List ℕ)
made_session_ids sessions = map made_session_id sessions

-- one that comes
abbrev pub MadeSessionsChange : Type 0
MadeSessionsChange = Change MadeSession

abbrev pub unchanged_made_sessions : MadeSessionsChange
unchanged_made_sessions = unchanged

abbrev pub made_sessions_after : List MadeSession → MadeSessionsChange → List MadeSession
made_sessions_after sessions change = list_after made_session_id sessions change
