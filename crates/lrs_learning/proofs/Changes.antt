-- What the desk's entries change, where what they speak of is there.
use Rattle.std.proofs.Common.{◌≡◌, ℕ, List, [], ◌∷◌, ◌++◌, length, true, false, Option, Some, sym, ap, ◌∙◌}
use Rattle.std.specs.Prelude.{if◌then◌else◌}
use Rattle.cmi5_course.specs.declared.launch.Mode.{Mode}
use Rattle.cmi5_course.specs.declared.reason.Reason.{Reason}
use Rattle.lrs_agents.specs.declared.agents.Agent.{Agent}
use Rattle.lrs_command.specs.declared.who.Who.{Who}
use Rattle.lrs_sessions.specs.LrsHistoryDeskEffects.{session_begun, coming, enrolling, fetching, giving, launching, made_session, telling}
use Rattle.lrs_sessions.specs.LrsHistoryDeskEffects.{abandoning_each, abandoning_one, is_waived, sweeping, waiving, waiving_as}
use Rattle.lrs_sessions.specs.LrsHistoryEndings.{abandoned_jsons, idle_ones, is_open, open_of, sessions_at}
use Rattle.lrs_sessions.specs.LrsHistoryEnrolments.{Enrolled, enrolled_as}
use Rattle.lrs_sessions.specs.LrsHistoryLaunches.{Target, activity_at, address_at, data_at, data_key, launch_at, launched_at}
use Rattle.lrs_sessions.specs.LrsHistoryMade.{left_behind, made_under, owed_made, waived_at, waived_json}
use Rattle.lrs_sessions.specs.LrsHistoryOccasions.{Occasion}
use Rattle.lrs_sessions.specs.LrsHistorySessions.{is_closed}
use Rattle.lrs_ids.specs.Ids.{Supply, rest_of}
use Rattle.lrs_ids.specs.IdSupply.{GiveSame}
use Rattle.lrs_json.specs.Json.{Json}
use Rattle.lrs_learning.specs.Occasions.{occasion_at, supply_at}
use Rattle.lrs_sessions.specs.LrsMadeSameProofs.{made_same, owed_same, rest_same}
use Rattle.lrs_names.specs.declared.draw.Draw.{Draw}
use Rattle.lrs_sessions.specs.LrsStateState.{State, no_change}
use Rattle.lrs_sessions.specs.LrsStateAcceptanceAcceptanceTheVariants as acceptance
use Rattle.lrs_sessions.specs.LrsStateEffectEffect.{Effect}
use Rattle.lrs_sessions.specs.LrsStateLaunchesHeldKey.{HeldKey}
use Rattle.lrs_sessions.specs.LrsStateRegistrationsHeldRegistration.{HeldRegistration}
use Rattle.lrs_replies.specs.Texts.{token_text}
use Rattle.xapi_docs.specs.declared.changes.DocumentsChange.TheVariants.{Written}
use Rattle.xapi_statement.specs.Stored.{StoredStatement}

pub given_is : (st : State) (at : Occasion) (key : HeldKey) (o : Option HeldKey) → o ≡ Some key → key.fetched ≡ false → is_closed st key.launch ≡ false → giving at key ≡ fetching st at o
given_is st at key o is fresh open_yet =
    sym (ap (λ b. if b then telling at.moment acceptance.KeyUsed else (if is_closed st key.launch then telling at.moment acceptance.SessionClosed else giving at key)) fresh
    ∙ ap (λ b. if b then telling at.moment acceptance.SessionClosed else giving at key) open_yet)
    ∙ ap (λ p. fetching st at p) (sym is)

pub launched_is : (st : State) (at : Occasion) (mode : Mode) (return_url : Option (List ℕ)) (t : Target) (o : Option Target) (x : Effect) → o ≡ Some t → x ≡ launching st at mode return_url (Some t)
    → x ≡ launching st at mode return_url o
launched_is st at mode return_url t o x is made = made ∙ ap (λ p. launching st at mode return_url p) (sym is)

-- ---- enrolments

abbrev pub registered : List ℕ → ℕ → Agent → HeldRegistration
registered id edition actor = record { id = id; edition = edition; actor = actor }

abbrev pub enrolled_with : ℕ → HeldRegistration → List ℕ → List StoredStatement → Effect
enrolled_with moment r session owed = record (no_change moment) {
  statements = owed;
  registrations = coming r;
  made_sessions = made_session session owed;
  acceptance = acceptance.Registration r.id;
}

abbrev pub enrolled_under : State → ℕ → HeldRegistration → List ℕ → Supply → Effect
enrolled_under st moment r session s =
    enrolled_with moment r session (owed_made st session s moment [] (enrolled_as st r))

pub enrolled_is : (st : State) (by : Who) (moment : ℕ) (draw : Draw) (edition : ℕ) (actor : Agent) (id session : List ℕ) (s : Supply) → id ≡ supply_at st draw 0 → session ≡ supply_at st draw 1
    → GiveSame s (rest_of (rest_of (supply_at st draw))) → enrolled_under st moment (registered id edition actor) session s ≡ enrolling st (occasion_at st by moment draw) actor (Some edition)
enrolled_is st by moment draw edition actor id session s first second left =
    let supply = supply_at st draw in
    let r = registered (supply 0) edition actor in
    ap (λ i. enrolled_under st moment (registered i edition actor) session s) first
    ∙ (ap (λ i. enrolled_under st moment r i s) second
    ∙ ap (λ o. enrolled_with moment r (supply 1) o) (owed_same st (supply 1) s (rest_of (rest_of supply)) moment [] (enrolled_as st r) left))

-- ---- waivers

abbrev pub waived_with : ℕ → List ℕ → List StoredStatement → Effect
waived_with moment session made = record (no_change moment) {
  statements = made;
  made_sessions = coming (record { id = session });
}

abbrev pub behind_waived : State → Target → List ℕ → ℕ → List StoredStatement → Supply → List StoredStatement
behind_waived st t session moment waived left =
    waived ++ owed_made st session left moment waived (enrolled_as st t.registration)

-- what is made of a waiver is its effect
pub waived_is : (st : State) (by : Who) (moment : ℕ) (draw : Draw) (t : Target) (why : Reason) (session : List ℕ) (said : Json) (s : Supply) → session ≡ supply_at st draw 0
    → said ≡ waived_json t why session → GiveSame s (rest_of (supply_at st draw))
    → waived_with moment session (behind_waived st t session moment (made_under s moment (said ∷ [])) (rest_of s))
    ≡ waiving_as st (occasion_at st by moment draw) t (waived_at t why (supply_at st draw 0) (rest_of (supply_at st draw)) moment)
waived_is st by moment draw t why session said s first is left =
    let supply = supply_at st draw in
    ap (λ j. waived_with moment session (behind_waived st t session moment (made_under s moment (j ∷ [])) (rest_of s))) is
    ∙ (ap (λ i. waived_with moment i (behind_waived st t i moment (made_under s moment (waived_json t why i ∷ [])) (rest_of s))) first
    ∙ (ap (λ w. waived_with moment (supply 0) (behind_waived st t (supply 0) moment w (rest_of s))) (made_same s (rest_of supply) moment (waived_json t why (supply 0) ∷ []) left)
    ∙ ap (λ o. waived_with moment (supply 0) (waived_at t why (supply 0) (rest_of supply) moment ++ o))
    (owed_same st (supply 0) (rest_of s) (rest_of (rest_of supply)) moment (waived_at t why (supply 0) (rest_of supply) moment) (enrolled_as st t.registration) (rest_same s (rest_of supply) left))))

-- what is owed behind the waived statement, under a supply that gives the same ids
pub owed_behind_waived : (st : State) (session : List ℕ) (s t : Supply) (moment : ℕ) (xs old waived : List StoredStatement) (o e : Option Enrolled) → old ≡ waived → GiveSame s t → o ≡ e
    → xs ≡ old ++ owed_made st session s moment old o → xs ≡ waived ++ owed_made st session t moment waived e
owed_behind_waived st session s t moment xs old waived o e same left known is =
    is ∙ (ap (λ (ys : List StoredStatement). ys ++ owed_made st session s moment ys o) same
    ∙ (ap (λ (p : Option Enrolled). waived ++ owed_made st session s moment waived p) known
    ∙ ap (λ (ys : List StoredStatement). waived ++ ys) (owed_same st session s t moment waived e left)))

pub waiver_is : (st : State) (at : Occasion) (why : Reason) (t : Target) (o : Option Target) → o ≡ Some t → is_waived st t ≡ false
    → waiving_as st at t (waived_at t why (at.supply 0) (rest_of at.supply) at.moment) ≡ waiving st at why o
waiver_is st at why t o is unwaived =
    sym (ap (λ (p : Option Target). waiving st at why p) is
    ∙ ap (λ b. if b then no_change at.moment else waiving_as st at t (waived_at t why (at.supply 0) (rest_of at.supply) at.moment)) unwaived)

-- ---- launches

abbrev pub launched_with : State → ℕ → Draw → Mode → Option (List ℕ) → Target → List ℕ → List ℕ → List StoredStatement → Effect
launched_with st moment draw mode return_url t session numbers made = record (no_change moment) {
  statements = made;
  documents = Written (data_key t) (data_at t mode return_url session moment);
  launches = coming (launch_at t mode session);
  sessions = session_begun numbers;
  keys = coming (record { key = token_text st.length draw.secret; launch = length st.launches; fetched = false });
  acceptance = acceptance.Launch session t.unit.method (address_at t (token_text st.length draw.secret));
}

-- what is said first, and the launched statement of that session behind it
abbrev pub made_with : State → ℕ → Draw → Mode → Target → List ℕ → List Json → List StoredStatement
made_with st moment draw mode t session said =
    made_under (rest_of (supply_at st draw)) moment said ++ launched_at t mode session (left_behind (rest_of (supply_at st draw)) said 0) moment

abbrev pub launched_behind : State → ℕ → Draw → Mode → Option (List ℕ) → Target → List ℕ → List ℕ → List Json → Effect
launched_behind st moment draw mode return_url t session numbers said =
    launched_with st moment draw mode return_url t session numbers (made_with st moment draw mode t session said)

pub launched_over : (st : State) (by : Who) (moment : ℕ) (draw : Draw) (mode : Mode) (return_url : Option (List ℕ)) (t : Target) (session numbers : List ℕ) (said : List Json) (made : List StoredStatement) (x : Effect)
    → session ≡ supply_at st draw 0 → made ≡ made_with st moment draw mode t session said → numbers ≡ open_of st t.registration.id (activity_at t) → said ≡ abandoned_jsons st numbers
    → x ≡ launched_with st moment draw mode return_url t session numbers made → x ≡ launching st (occasion_at st by moment draw) mode return_url (Some t)
launched_over st by moment draw mode return_url t session numbers said made x first under found is built =
    built ∙ (ap (λ m. launched_with st moment draw mode return_url t session numbers m) under
    ∙ (ap (λ i. launched_behind st moment draw mode return_url t i numbers said) first
    ∙ (ap (λ js. launched_behind st moment draw mode return_url t (supply_at st draw 0) numbers js) is
    ∙ ap (λ ns. launched_behind st moment draw mode return_url t (supply_at st draw 0) ns (abandoned_jsons st ns)) found)))

-- ---- statements under the next ids

-- what is made first, under a supply that gives the same ids
pub first_made : (xs old : List StoredStatement) (s t : Supply) (moment : ℕ) (js ks : List Json) → old ≡ [] → js ≡ ks → GiveSame s t → xs ≡ old ++ made_under s moment js → xs ≡ made_under t moment ks
first_made xs old s t moment js ks none same left is =
    is ∙ (ap (λ (o : List StoredStatement). o ++ made_under s moment js) none ∙ (ap (λ (ys : List Json). made_under s moment ys) same ∙ made_same s t moment ks left))

-- ---- abandonments

pub one_is : (st : State) (at : Occasion) (numbers : List ℕ) (number : ℕ) (o : Option ℕ) → numbers ≡ number ∷ [] → o ≡ Some number → is_open st number ≡ true
    → abandoning_each st at numbers ≡ abandoning_one st at o
one_is st at numbers number o alone is still =
    ap (λ (ns : List ℕ). abandoning_each st at ns) alone
    ∙ sym (ap (λ (p : Option ℕ). abandoning_one st at p) is ∙ ap (λ b. if b then abandoning_each st at (number ∷ []) else no_change at.moment) still)

pub swept_is : (st : State) (at : Occasion) (seconds : ℕ) (numbers : List ℕ) (ids told : List (List ℕ)) (x : Effect) → x ≡ abandoning_each st at numbers → numbers ≡ idle_ones st seconds at.moment
    → ids ≡ sessions_at st numbers → told ≡ ids → record x { acceptance = acceptance.Swept told } ≡ sweeping st at seconds
swept_is st at seconds numbers ids told x is found those same =
    ap (λ (y : Effect). record y { acceptance = acceptance.Swept told }) is
    ∙ (ap (λ (t : List (List ℕ)). record (abandoning_each st at numbers) { acceptance = acceptance.Swept t }) (same ∙ those)
    ∙ ap (λ (ns : List ℕ). record (abandoning_each st at ns) { acceptance = acceptance.Swept (sessions_at st ns) }) found)
