-- What the store says of its own: that units were launched and waived and sessions abandoned, and behind new statements
-- which nodes are satisfied.
use Rattle.std.proofs.Common.{◌≡◌, ℕ, List, [], ◌∷◌, ◌++◌, true, false, Option, Some, None, IfSome, refl, sym, ap, subst, ◌∙◌, append-nil}
use Rattle.std.specs.Prelude.{filter_map, slice_get}
use Rattle.std.specs.List.{AllByRecursion}
use Rattle.std.specs.Str.{bytes_eq}
use Rattle.std.proofs.lemmas.Cmp.{nat_list_eq_equiv}
use Rattle.cmi5_course.specs.Courses.{node_at}
use Rattle.cmi5_course.specs.declared.launch.Launch.{Launch}
use Rattle.cmi5_course.specs.declared.launch.Mode.{Mode}
use Rattle.cmi5_course.specs.declared.reason.Reason.{Reason}
use Rattle.cmi5_launch.specs.Made.{Saying, launched_json, said_abandoned, said_launched, said_satisfied, said_waived, saying_json}
use Rattle.cmi5_launch.specs.Names.{abandoned, launched, satisfied, waived}
use Rattle.cmi5_session.specs.Moments.{began_at}
use Rattle.cmi5_verdict.specs.Nodes.{activity_of_node}
use Rattle.lrs_agents.specs.declared.agents.Agent.{Agent}
use Rattle.lrs_history.specs.DeskEffects.{abandoning_each, abandoning_one, enrolling, fetching, giving, launching, sweeping, telling, waiving}
use Rattle.lrs_history.specs.Effects.{owed_in_session}
use Rattle.lrs_history.specs.Endings.{abandoned_at, abandoned_from, abandoned_json, abandoned_jsons, abandoned_of, idle_ones, lasted, open_of}
use Rattle.lrs_history.specs.Enrolments.{Enrolled, enrolled, enrolled_as, enrolment_of, owed_behind}
use Rattle.lrs_history.specs.Launches.{Target, activity_at, launched_at, target}
use Rattle.lrs_history.specs.Made.{left_behind, made_under, owed_jsons, owed_made, satisfied_at, satisfied_json, waived_at, waived_json}
use Rattle.lrs_history.specs.Occasions.{Occasion}
use Rattle.lrs_ids.specs.Ids.{Supply, rest_of}
use Rattle.lrs_json.proofs.SeenTrees.{seen_tree}
use Rattle.lrs_json.specs.Json.{Json}
use Rattle.lrs_json.specs.View.{view}
use Rattle.lrs_laws.proofs.DeskKinds.{launched_by, of_ending, of_enrolment, of_fetch, of_launch, of_waiver, waived_by}
use Rattle.lrs_laws.proofs.Lists.{all_mapped, all_then, each_append, each_given}
use Rattle.lrs_laws.proofs.NewIds.{differs}
use Rattle.lrs_laws.proofs.Registered.{AreIds, IsEnrolled, MakesIds, is_enrolled, is_enrolled_as, target_id}
use Rattle.lrs_names.specs.Members.{is_one_of}
use Rattle.lrs_state.specs.State.{State, no_change}
use Rattle.lrs_state.specs.declared.effect.Effect.{Effect}
use Rattle.lrs_state.specs.declared.launches.HeldKey.{HeldKey}
use Rattle.lrs_state.specs.declared.registrations.HeldRegistration.{HeldRegistration}
use Rattle.xapi_format.specs.declared.authority.Authority.TheVariants.{Desk}
use Rattle.xapi_statement.specs.Statement.{verb_of}
use Rattle.xapi_statement.specs.Stored.{StoredStatement}

-- ---- verbs

-- that a unit was launched or waived, or a session abandoned
abbrev pub deeds : List (List ℕ)
deeds = launched ∷ abandoned ∷ waived ∷ []

-- and that a node is satisfied
abbrev pub own_verbs : List (List ℕ)
own_verbs = satisfied ∷ deeds

abbrev pub HasVerb : List (List ℕ) → Json → Type 0
HasVerb verbs j = is_one_of verbs (verb_of j) ≡ true

-- it stands under the store's own authority, with one of these verbs
abbrev pub IsOfDesk : List (List ℕ) → StoredStatement → Type 0
IsOfDesk verbs s = (s.authority ≡ Desk) × HasVerb verbs (view s.received)

-- any other verb is none of theirs
pub other_verb : (verbs : List (List ℕ)) (s : StoredStatement) (id : List ℕ) → IsOfDesk verbs s → is_one_of verbs id ≡ false → bytes_eq (verb_of (view s.received)) id ≡ false
other_verb verbs s id of other = nat_list_eq_equiv.symm (verb_of (view s.received)) id ∙ differs verbs id (verb_of (view s.received)) other of.1

-- ---- made statements

verb_said : (s : Saying) (actor : Agent) (activity publisher registration session : List ℕ) → verb_of (saying_json s actor activity publisher registration session) ≡ s.verb
unfolding verb_of
verb_said s actor activity publisher registration session = refl

pub has_verb : (verbs : List (List ℕ)) (s : Saying) (actor : Agent) (activity publisher registration session : List ℕ) → is_one_of verbs s.verb ≡ true
    → HasVerb verbs (saying_json s actor activity publisher registration session)
has_verb verbs s actor activity publisher registration session is = ap (λ v. is_one_of verbs v) (verb_said s actor activity publisher registration session) ∙ is

pub of_desk : (verbs : List (List ℕ)) (supply : Supply) (moment : ℕ) (js : List Json) → AllByRecursion (HasVerb verbs) js → AllByRecursion (IsOfDesk verbs) (made_under supply moment js)
of_desk verbs supply moment [] each = tt
of_desk verbs supply moment (j ∷ js) each =
    ((refl, ap (λ k. is_one_of verbs (verb_of k)) (seen_tree j) ∙ each.0), of_desk verbs (rest_of supply) moment js each.1)

pub abandoned_each : (verbs : List (List ℕ)) → is_one_of verbs abandoned ≡ true → (st : State) (numbers : List ℕ) → AllByRecursion (HasVerb verbs) (abandoned_jsons st numbers)
abandoned_each verbs among st numbers = each_given (HasVerb verbs) (abandoned_at st) one numbers
  where
    one : (number : ℕ) → IfSome (abandoned_at st number) (HasVerb verbs)
    one number =
        all_then (HasVerb verbs) (abandoned_of st) (slice_get st.launches number)
        (λ (l : Launch). all_then (HasVerb verbs) (abandoned_from st l) (began_at l.session st.statements)
        (λ began. let ms : ℕ = lasted l.session st.statements began in
        all_mapped (HasVerb verbs) (λ (t : Target). abandoned_json l t ms) (target st l.registration l.publisher)
        (λ t. has_verb verbs (said_abandoned ms) t.registration.actor (activity_at t) t.publisher t.registration.id l.session among)))

pub satisfied_each : (verbs : List (List ℕ)) → is_one_of verbs satisfied ≡ true → (e : Enrolled) (session : List ℕ) (indices : List ℕ) → AllByRecursion (HasVerb verbs) (filter_map (satisfied_at e session) indices)
satisfied_each verbs among e session indices = each_given (HasVerb verbs) (satisfied_at e session) one indices
  where
    one : (index : ℕ) → IfSome (satisfied_at e session index) (HasVerb verbs)
    one index =
        all_mapped (HasVerb verbs) (satisfied_json e session index) (node_at index e.edition.course)
        (λ node. has_verb verbs (said_satisfied node.kind) e.registration.actor (activity_of_node (enrolment_of e) index) node.id e.registration.id session among)

-- ---- what is owed

-- It is what is to be said behind these new statements.
pub record Owes (st : State) (new owed : List StoredStatement) : Type 0 where
  pub session : List ℕ
  pub supply : Supply
  pub moment : ℕ
  pub whose : Option Enrolled
  pub known : IsEnrolled st whose
  pub are : owed ≡ owed_made st session supply moment new whose

owes_nothing : (st : State) (new : List StoredStatement) → Owes st new []
owes_nothing st new = record { session = []; supply = λ k. []; moment = 0; whose = None; known = tt; are = refl }

pub owes_in_session : (st : State) (supply : Supply) (moment : ℕ) (new : List StoredStatement) (o : Option Launch) → AreIds st.registrations → Owes st new (owed_in_session st supply moment new o)
owes_in_session st supply moment [] o ids = owes_nothing st []
owes_in_session st supply moment (s ∷ ss) None ids = owes_nothing st (s ∷ ss)
owes_in_session st supply moment (s ∷ ss) (Some l) ids = record {
  session = l.session;
  supply = supply;
  moment = moment;
  whose = enrolled st l.registration;
  known = is_enrolled st l.registration ids;
  are = refl;
}

pub owed_of_desk : (st : State) (new owed : List StoredStatement) → Owes st new owed → AllByRecursion (IsOfDesk own_verbs) owed
owed_of_desk st new owed owes = subst (AllByRecursion (IsOfDesk own_verbs)) (sym owes.are) (by_whose owes.whose)
  where
    by_whose : (o : Option Enrolled) → AllByRecursion (IsOfDesk own_verbs) (owed_made st owes.session owes.supply owes.moment new o)
    by_whose None = tt
    by_whose (Some e) = of_desk own_verbs owes.supply owes.moment (owed_jsons st owes.session new e) (satisfied_each own_verbs refl e owes.session (owed_behind st new e))

-- ---- what an entry brings that is no statement of its caller

-- deeds, and behind them what is owed
pub record TellsDeeds (st : State) (x : Effect) : Type 0 where
  pub told : List StoredStatement
  pub owed : List StoredStatement
  pub by_desk : AllByRecursion (IsOfDesk deeds) told
  pub owes : Owes st told owed
  pub whole : x.statements ≡ told ++ owed

tells_deeds : (st : State) (x : Effect) → AllByRecursion (IsOfDesk deeds) x.statements → TellsDeeds st x
tells_deeds st x each = record { told = x.statements; owed = []; by_desk = each; owes = owes_nothing st x.statements; whole = sym (append-nil x.statements) }

pub tells_nothing : (st : State) (moment : ℕ) → TellsDeeds st (no_change moment)
tells_nothing st moment = tells_deeds st (no_change moment) tt

pub tells_enrolment : (st : State) (at : Occasion) (actor : Agent) (o : Option ℕ) → MakesIds at → TellsDeeds st (enrolling st at actor o)
tells_enrolment st at actor o made = of_enrolment (TellsDeeds st) st at (tells_nothing st at.moment) actor o enrols
  where
    enrols : (edition : ℕ) → TellsDeeds st (enrolling st at actor (Some edition))
    enrols edition =
        let r : HeldRegistration = record { id = at.supply 0; edition = edition; actor = actor } in
        let supply : Supply = rest_of (rest_of at.supply) in
        record {
          told = [];
          owed = owed_made st (at.supply 1) supply at.moment [] (enrolled_as st r);
          by_desk = tt;
          owes = record { session = at.supply 1; supply = supply; moment = at.moment; whose = enrolled_as st r; known = is_enrolled_as st r (made 0); are = refl };
          whole = refl;
        }

pub tells_waiver : (st : State) (at : Occasion) (why : Reason) (registration unit : List ℕ) → AreIds st.registrations → TellsDeeds st (waiving st at why (target st registration unit))
tells_waiver st at why registration unit ids = of_waiver (TellsDeeds st) st at (tells_nothing st at.moment) why (target st registration unit) waives
  where
    waives : (t : Target) → target st registration unit ≡ Some t → TellsDeeds st (waived_by st at why t)
    waives t is =
        let new : List StoredStatement = waived_at t why (at.supply 0) (rest_of at.supply) at.moment in
        let supply : Supply = rest_of (rest_of at.supply) in
        record {
          told = new;
          owed = owed_made st (at.supply 0) supply at.moment new (enrolled_as st t.registration);
          by_desk = of_desk deeds (rest_of at.supply) at.moment (waived_json t why (at.supply 0) ∷ [])
              (has_verb deeds (said_waived why) t.registration.actor (activity_at t) t.publisher t.registration.id (at.supply 0) refl, tt);
          owes = record {
            session = at.supply 0;
            supply = supply;
            moment = at.moment;
            whose = enrolled_as st t.registration;
            known = is_enrolled_as st t.registration (target_id st registration unit t ids is);
            are = refl;
          };
          whole = refl;
        }

pub tells_ending : (st : State) (at : Occasion) (o : Option ℕ) → TellsDeeds st (abandoning_one st at o)
tells_ending st at o =
    of_ending (TellsDeeds st) st at (tells_nothing st at.moment) o
    (λ numbers. tells_deeds st (abandoning_each st at numbers) (of_desk deeds at.supply at.moment (abandoned_jsons st numbers) (abandoned_each deeds refl st numbers)))

pub tells_sweep : (st : State) (at : Occasion) (idle : ℕ) → TellsDeeds st (sweeping st at idle)
tells_sweep st at idle =
    let numbers : List ℕ = idle_ones st idle at.moment in
    tells_deeds st (sweeping st at idle) (of_desk deeds at.supply at.moment (abandoned_jsons st numbers) (abandoned_each deeds refl st numbers))

pub launched_of_desk : (verbs : List (List ℕ)) → is_one_of verbs launched ≡ true → (t : Target) (mode : Mode) (session id : List ℕ) (moment : ℕ) → AllByRecursion (IsOfDesk verbs) (launched_at t mode session id moment)
launched_of_desk verbs among t mode session id moment = (
  (
    refl,
    ap (λ k. is_one_of verbs (verb_of k)) (seen_tree (launched_json mode t.unit t.registration.actor (activity_at t) t.publisher t.registration.id session))
        ∙ has_verb verbs (said_launched mode t.unit) t.registration.actor (activity_at t) t.publisher t.registration.id session among,
  ),
  tt,
)

pub tells_launch : (st : State) (at : Occasion) (mode : Mode) (return_url : Option (List ℕ)) (o : Option Target) → TellsDeeds st (launching st at mode return_url o)
tells_launch st at mode return_url o = of_launch (TellsDeeds st) st at (tells_nothing st at.moment) mode return_url o launches
  where
    launches : (t : Target) → TellsDeeds st (launched_by st at mode return_url t)
    launches t =
        let said : List Json = abandoned_jsons st (open_of st t.registration.id (activity_at t)) in
        let id : List ℕ = left_behind (rest_of at.supply) said 0 in
        tells_deeds st (launched_by st at mode return_url t)
        (each_append (IsOfDesk deeds) (made_under (rest_of at.supply) at.moment said) (launched_at t mode (at.supply 0) id at.moment)
        (of_desk deeds (rest_of at.supply) at.moment said (abandoned_each deeds refl st (open_of st t.registration.id (activity_at t)))) (launched_of_desk deeds refl t mode (at.supply 0) id at.moment))

pub tells_fetch : (st : State) (at : Occasion) (o : Option HeldKey) → TellsDeeds st (fetching st at o)
tells_fetch st at o =
    of_fetch (TellsDeeds st) st at (tells_nothing st at.moment) o (λ told. tells_deeds st (telling at.moment told) tt) (λ key is unused still. tells_deeds st (giving at key) tt)
