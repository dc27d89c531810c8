-- What follows from the definitions over every history of sessions: a token opens what the session of its launch may
-- see and nothing else, no token is known that no fetch gave away, and of a unit one session is open at most.
use Rattle.std.specs.Prelude.{◌≡◌, ◌+◌, ◌<◌, ◌^◌, ℕ, false, true, List, [], ◌∷◌, ◌++◌, length, Option, Some, None}
use Rattle.std.specs.Prelude.{slice_get}
use Rattle.std.specs.Str.{bytes_eq}
use Rattle.cmi5_course.specs.declared.launch.Launch.{Launch}
use Rattle.cmi5_course.specs.declared.launch.Mode.{Mode}
use Rattle.cmi5_launch.specs.Names.{launch_data_state}
use Rattle.lrs_agents.specs.declared.identifiers.Ifi.{Ifi}
use Rattle.lrs_command.specs.Areas.{command_area}
use Rattle.lrs_command.specs.declared.command.Command.{Command}
use Rattle.lrs_command.specs.declared.command.Command.TheVariants as command
use Rattle.lrs_command.specs.declared.command.Read.TheVariants.{Documents}
use Rattle.lrs_command.specs.declared.who.Who.TheVariants as who
use Rattle.lrs_history.specs.Occasions.{supply_in}
use Rattle.lrs_history.specs.Endings.{abandoned_jsons, open_of}
use Rattle.lrs_history.specs.History.{answer, only, refused, state, IsLegal}
use Rattle.lrs_history.specs.Launches.{Target, activity_at, launched_at, target}
use Rattle.lrs_history.specs.Sessions.{is_closed, is_its_own}
use Rattle.lrs_json.specs.Json.{Json}
use Rattle.lrs_laws.specs.Laws.{IsAccepted, sight_in, who_in}
use Rattle.lrs_names.specs.declared.draw.Draw.{Draw}
use Rattle.lrs_names.specs.declared.id.TheConstants.{WORDS}
use Rattle.lrs_state.specs.Founding.{is_admin}
use Rattle.lrs_state.specs.Launches.{key_under}
use Rattle.lrs_state.specs.Providers.{index_of_token}
use Rattle.lrs_state.specs.State.{State, used_in}
use Rattle.lrs_state.specs.declared.launches.HeldKey.{HeldKey}
use Rattle.lrs_record.specs.declared.entry.Area.TheVariants.{Desk}
use Rattle.lrs_record.specs.declared.entry.Caller.{Caller}
use Rattle.lrs_record.specs.declared.entry.Caller.TheVariants.{Token}
use Rattle.lrs_record.specs.declared.entry.Entry.{Entry}
use Rattle.lrs_record.specs.declared.entry.Write.TheVariants.{Drop, Fetch}
use Rattle.lrs_record.specs.declared.entry.Write.TheVariants as write
use Rattle.lrs_replies.specs.Texts.{token_text}
use Rattle.lrs_replies.specs.declared.answered.Refusal.TheVariants.{Forbidden}
use Rattle.lrs_rules.specs.declared.rule.Rule.TheVariants as rule
use Rattle.xapi_keys.specs.declared.wanted.WantedDocuments.TheVariants.{One, Ids}
use Rattle.xapi_query.specs.Filters.{is_registered, sees}
use Rattle.xapi_statement.specs.Statements.{held_under}
use Rattle.xapi_statement.specs.Stored.{StoredStatement}

-- the caller acts in the session of that launch
pub record ActsInSession (h : List Entry) (caller : Caller) (launch : Launch) : Type 0 where
  pub index : ℕ
  pub known : who_in h caller ≡ who.Session index
  pub launched : slice_get (state h).launches index ≡ Some launch

-- ---- tokens

-- a fetch of the history gave the token away
pub record WasGiven (h : List Entry) (token : List ℕ) : Type 0 where
  pub before : List Entry
  pub fetch : Entry
  pub behind : List Entry
  pub whole : h ≡ before ++ fetch ∷ behind
  pub key : List ℕ
  pub fetches : fetch.write ≡ Fetch key
  pub told : token ≡ token_text (length before) fetch.draw.secret

-- the launch that made the key, in a history that holds the key
pub record IsKeyOf (h : List Entry) (key : List ℕ) (launch : Launch) : Type 0 where
  pub held : HeldKey
  pub found : key_under key (state h).keys ≡ Some held
  pub launched : slice_get (state h).launches held.launch ≡ Some launch

-- The launch is that of an entry of the history, which gave the key away: the key tells its index, and the session has
-- the first id that it made.
pub record WasLaunched (h : List Entry) (key : List ℕ) (launch : Launch) : Type 0 where
  pub before : List Entry
  pub entry : Entry
  pub behind : List Entry
  pub whole : h ≡ before ++ entry ∷ behind
  pub told : key ≡ token_text (length before) entry.draw.secret
  pub session : launch.session ≡ supply_in (state before) entry.write entry.draw 0

-- A key that is held is that of the launch whose entry gave it away.
abbrev pub KeysAreTheirLaunches : Type 0
KeysAreTheirLaunches =
    (h : List Entry) (key : List ℕ) (launch : Launch) → IsKeyOf h key launch → WasLaunched h key launch

-- Each session is that of a launch.
abbrev pub SessionsAreLaunched : Type 0
SessionsAreLaunched =
    (h : List Entry) (caller : Caller) (k : ℕ) → who_in h caller ≡ who.Session k → (launch : Launch)
    × ActsInSession h caller launch

-- Whoever acts in a session presents a token that a fetch gave away.
abbrev pub SessionTokensWereGiven : Type 0
SessionTokensWereGiven =
    (h : List Entry) (token : List ℕ) (launch : Launch) → ActsInSession h (Token token) launch → WasGiven h token

-- A token that a fetch gave away acts in the session of the launch that made the fetch's key, for good. A store counts
-- its entries in 64 bits.
abbrev pub GivenTokensAct : Type 0
GivenTokensAct =
    (limit : ℕ) (before behind : List Entry) (e : Entry) (key : List ℕ) → IsLegal limit (before ++ e ∷ behind)
    → length (before ++ e ∷ behind) < 2 ^ 64 → e.write ≡ Fetch key
    → (launch : Launch) × IsKeyOf before key launch
    × ActsInSession (before ++ e ∷ behind) (Token (token_text (length before) e.draw.secret)) launch

-- A token that is neither the admin's nor a provider's, and that no fetch gave away, is nobody's.
abbrev pub OtherTokensAreUnknown : Type 0
OtherTokensAreUnknown =
    (h : List Entry) (token : List ℕ) → is_admin (state h).founding token ≡ false
    → index_of_token token (state h).providers ≡ None → (WasGiven h token → ⊥) → who_in h (Token token) ≡ who.Unknown

-- ---- what a launch leaves

-- what is said of the sessions that a launch of the unit abandons
abbrev pub said_first : State → Target → List Json
said_first st t = abandoned_jsons st (open_of st t.registration.id (activity_at t))

-- The entry leaves the launched statement under that id. The session has the first id that it made.
pub record LeavesStatement (h : List Entry) (e : Entry) (mode : Mode) (t : Target) (id : List ℕ) : Type 0 where
  pub statement : StoredStatement
  pub made : launched_at t mode (supply_in (state h) e.write e.draw 0) id e.moment ≡ statement ∷ []
  pub held : held_under id (state (h ++ e ∷ [])).statements ≡ Some statement

-- An entry that launches a unit leaves the launched statement. Its id comes behind those of what is said of the
-- sessions that the entry abandons. There are fewer ids in use than can be made.
abbrev pub LaunchesLeaveStatements : Type 0
LaunchesLeaveStatements =
    (limit : ℕ) (h : List Entry) (e : Entry) (registration unit : List ℕ) (mode : Mode)
    (return_url : Option (List ℕ))
    → (answer limit h e.caller (command.Write e.write) e.moment e.draw).entry ≡ Some e
    → e.write ≡ write.Launch registration unit mode return_url
    → (t : Target) × (target (state h) registration unit ≡ Some t)
    × ((used_in (state h)).count + length (said_first (state h) t) + 2 < WORDS
    → LeavesStatement h e mode t (supply_in (state h) e.write e.draw (length (said_first (state h) t) + 1)))

-- ---- what a session sees and does

-- It sees the statements whose context names its launch's registration, and no others.
abbrev pub SessionsSeeTheirRegistration : Type 0
SessionsSeeTheirRegistration =
    (h : List Entry) (caller : Caller) (launch : Launch) → ActsInSession h caller launch
    → (s : StoredStatement) → sees (sight_in h caller) s ≡ is_registered launch.registration s

-- It is let in at no command of the desk.
abbrev pub SessionsAreBarredFromTheDesk : Type 0
SessionsAreBarredFromTheDesk =
    (limit : ℕ) (h : List Entry) (caller : Caller) (launch : Launch) (c : Command) (clock : ℕ) (draw : Draw)
    → ActsInSession h caller launch → command_area c ≡ Desk
    → answer limit h caller c clock draw ≡ only (refused (Forbidden (rule.A 2)))

-- whose documents a command reads, writes or drops
abbrev pub documents_asked : Command → Option (Ifi × Option (List ℕ))
documents_asked (command.Write (write.State how key media bytes)) = Some (key.agent, key.registration)
documents_asked (command.Write (Drop activity agent registration chosen)) = Some (agent, registration)
documents_asked (command.Read (Documents (One key))) = Some (key.agent, key.registration)
documents_asked (command.Read (Documents (Ids activity agent registration since))) = Some (agent, registration)
documents_asked other = None

-- Documents that it reads, writes or drops without being refused are those of its launch's actor, and of its launch's
-- registration or of none.
abbrev pub SessionsKeepToTheirDocuments : Type 0
SessionsKeepToTheirDocuments =
    (limit : ℕ) (h : List Entry) (caller : Caller) (launch : Launch) (c : Command) (clock : ℕ) (draw : Draw)
    (agent : Ifi) (registration : Option (List ℕ))
    → ActsInSession h caller launch → documents_asked c ≡ Some (agent, registration)
    → IsAccepted (answer limit h caller c clock draw) → is_its_own launch agent registration ≡ true

-- the state of the document that a command writes or drops: none where it drops all of them
abbrev pub state_changed : Command → Option (Option (List ℕ))
state_changed (command.Write (write.State how key media bytes)) = Some (Some key.state)
state_changed (command.Write (Drop activity agent registration chosen)) = Some chosen
state_changed other = None

-- What its launch wrote it doesn't change, nor all documents at once.
abbrev pub SessionsKeepLaunchData : Type 0
SessionsKeepLaunchData =
    (limit : ℕ) (h : List Entry) (caller : Caller) (launch : Launch) (c : Command) (clock : ℕ) (draw : Draw)
    (chosen : Option (List ℕ)) → ActsInSession h caller launch → state_changed c ≡ Some chosen
    → IsAccepted (answer limit h caller c clock draw)
    → (state : List ℕ) × (chosen ≡ Some state) × (bytes_eq state launch_data_state ≡ false)

-- ---- which are open

-- the session of the launch of that number is open, and the launch is of that unit in that registration
pub record IsOpenOf (st : State) (registration activity : List ℕ) (number : ℕ) : Type 0 where
  pub launch : Launch
  pub launched : slice_get st.launches number ≡ Some launch
  pub registered : launch.registration ≡ registration
  pub about : launch.activity ≡ activity
  pub unclosed : is_closed st number ≡ false

-- In a registration at most one session of a unit is open: any two are the same. The store knows the unit under that
-- id.
abbrev pub OneSessionIsOpen : Type 0
OneSessionIsOpen =
    (h : List Entry) (registration activity : List ℕ) (first second : ℕ)
    → IsOpenOf (state h) registration activity first → IsOpenOf (state h) registration activity second
    → first ≡ second
