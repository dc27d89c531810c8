-- Which sessions are open, since when nothing happened in one, and what is said of one that is abandoned.
use Rattle.std.specs.Prelude.{ℕ, ◌+◌, ◌*◌, ◌-◌, ◌&&◌, Bool, false, not, max, nat_le, List, length}
use Rattle.std.specs.Prelude.{Option, filter, filter_map, is_some, option_and_then, option_map, slice_get}
use Rattle.std.specs.List.{range_with_len}
use Rattle.std.specs.Option.{option_map_or}
use Rattle.std.specs.Str.{bytes_eq}
use Rattle.cmi5_course.specs.declared.launch.Launch.{Launch}
use Rattle.cmi5_verdict.specs.Cmi5LaunchMade.{said_abandoned, saying_json}
use Rattle.cmi5_verdict.specs.Cmi5SessionMoments.{began_at, last_own}
use Rattle.lrs_history.specs.Launches.{Target, activity_at, target}
use Rattle.lrs_history.specs.Sessions.{is_closed}
use Rattle.lrs_json.specs.Json.{Json}
use Rattle.lrs_state.specs.State.{State}
use Rattle.lrs_state.specs.declared.sessions.HeldSession.{HeldSession}
use Rattle.xapi_pages.specs.XapiStatementStored.{StoredStatement}

-- ---- open sessions

-- the session of the launch of that number is there, and not closed
abbrev pub is_open : State → ℕ → Bool
is_open st number = is_some (slice_get st.launches number) && not (is_closed st number)

-- the numbers of the launches, in their order
abbrev pub launch_numbers : State → List ℕ
launch_numbers st = range_with_len 0 (length st.launches)

-- a launch of that activity in that registration
abbrev pub is_launch_of : List ℕ → List ℕ → Launch → Bool
is_launch_of registration activity launch =
    bytes_eq launch.registration registration && bytes_eq launch.activity activity

abbrev pub is_number_of : State → List ℕ → List ℕ → ℕ → Bool
is_number_of st registration activity number =
    option_map_or (is_launch_of registration activity) (slice_get st.launches number) false

-- the open sessions of that activity in that registration
abbrev pub open_of : State → List ℕ → List ℕ → List ℕ
open_of st registration activity =
    filter (λ k. is_number_of st registration activity k && is_open st k) (launch_numbers st)

-- ---- since when nothing happened

-- when the session of the launch of that number was launched or fetched
abbrev pub desk_moment : State → ℕ → ℕ
desk_moment st number = option_map_or (λ (s : HeldSession). s.moment) (slice_get st.sessions number) 0

-- the moment of a session's last event: it was launched, fetched, or said anything
abbrev pub last_event : State → ℕ → ℕ
last_event st number = option_map_or
    (λ (l : Launch). max (desk_moment st number) (last_own l.session 0 st.statements)) (slice_get st.launches number) 0

-- at that moment it lies so many seconds back, or more
abbrev pub is_idle : State → ℕ → ℕ → ℕ → Bool
is_idle st seconds moment number = nat_le (last_event st number + 1000 * seconds) moment

-- the open sessions that are idle for so long, in the order of their launches
abbrev pub idle_ones : State → ℕ → ℕ → List ℕ
idle_ones st seconds moment = filter (λ k. is_idle st seconds moment k && is_open st k) (launch_numbers st)

-- ---- what is said of one

-- how long a session lasted that began then: to the last statement of its own
abbrev pub lasted : List ℕ → List StoredStatement → ℕ → ℕ
lasted id statements began = last_own id began statements - began

abbrev pub abandoned_json : Launch → Target → ℕ → Json
abandoned_json launch t ms = saying_json (said_abandoned ms) t.registration.actor (activity_at t) t.publisher
    t.registration.id launch.session

abbrev pub abandoned_from : State → Launch → ℕ → Option Json
abandoned_from st launch began = option_map
    (λ t. abandoned_json launch t (lasted launch.session st.statements began))
    (target st launch.registration launch.publisher)

-- that a session was abandoned: nothing is said of one that never began
abbrev pub abandoned_of : State → Launch → Option Json
abandoned_of st launch = option_and_then (abandoned_from st launch) (began_at launch.session st.statements)

abbrev pub abandoned_at : State → ℕ → Option Json
abandoned_at st number = option_and_then (abandoned_of st) (slice_get st.launches number)

-- of each of these sessions
abbrev pub abandoned_jsons : State → List ℕ → List Json
abandoned_jsons st numbers = filter_map (abandoned_at st) numbers

-- the ids of the sessions of launches of these numbers
abbrev pub sessions_at : State → List ℕ → List (List ℕ)
sessions_at st numbers = filter_map (λ k. option_map (λ (l : Launch). l.session) (slice_get st.launches k)) numbers
