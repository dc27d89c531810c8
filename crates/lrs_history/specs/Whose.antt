-- Who a caller is, under whose authority its statements stand, and what it sees.
use Rattle.std.specs.Prelude.{ℕ, Bool, true, false, List, Option, Some, None, option_map, slice_get, if◌then◌else◌}
use Rattle.lrs_command.specs.declared.who.Who.{Who}
use Rattle.lrs_command.specs.declared.who.Who.TheVariants as who
use Rattle.cmi5_course.specs.declared.launch.Launch.{Launch}
use Rattle.lrs_state.specs.Launches.{launch_of_token}
use Rattle.lrs_state.specs.Providers.{index_of_token}
use Rattle.lrs_state.specs.Founding.{is_admin}
use Rattle.lrs_state.specs.State.{State}
use Rattle.lrs_record.specs.declared.entry.Caller.{Caller}
use Rattle.lrs_record.specs.declared.entry.Caller.TheVariants.{Nobody, Operator, Token}
use Rattle.xapi_format.specs.declared.authority.Authority.{Authority}
use Rattle.xapi_format.specs.declared.authority.Authority.TheVariants.{Admin, Provider, Session}
use Rattle.xapi_pages.specs.XapiQuerySightSight.{Sight}
use Rattle.xapi_pages.specs.XapiQuerySightSightTheVariants as sight

-- the provider of that index, or the session of that launch
abbrev pub known_as : Option ℕ → Option ℕ → Who
known_as (Some provider) launch = who.Provider provider
known_as None (Some launch) = who.Session launch
known_as None None = who.Unknown

-- whose the token is: the admin's, that of a provider, or that of a session
abbrev pub who_presents : State → List ℕ → Who
who_presents st token = if is_admin st.founding token then who.Admin
    else known_as (index_of_token token st.providers) (launch_of_token token st.tokens)

-- what a store makes of a caller
abbrev pub who_is : State → Caller → Who
who_is st Nobody = who.Unknown
who_is st Operator = who.Admin
who_is st (Token token) = who_presents st token

-- the caller is a session
abbrev pub acts_in_session : Who → Bool
acts_in_session (who.Session k) = true
acts_in_session other = false

-- the launch of a session
abbrev pub launch_of : State → Who → Option Launch
launch_of st who.Unknown = None
launch_of st who.Admin = None
launch_of st (who.Provider k) = None
launch_of st (who.Session k) = slice_get st.launches k

-- under whose authority a caller's statements stand, if it has one
abbrev pub authority_of : State → Who → Option Authority
authority_of st who.Unknown = None
authority_of st who.Admin = Some Admin
authority_of st (who.Provider k) = option_map (λ c. Provider k c.name) (slice_get st.providers k)
authority_of st (who.Session k) = option_map (λ l. Session l.session) (slice_get st.launches k)

-- those of a launch's registration
abbrev pub sight_in : Option Launch → Sight
sight_in None = sight.Nothing
sight_in (Some launch) = sight.Registration launch.registration

-- what a caller sees: an admin each statement, a provider those under its own authority, a session those whose context
-- names its registration
abbrev pub sight_of : State → Who → Sight
sight_of st who.Unknown = sight.Nothing
sight_of st who.Admin = sight.All
sight_of st (who.Provider k) = sight.Provider k
sight_of st (who.Session k) = sight_in (slice_get st.launches k)
