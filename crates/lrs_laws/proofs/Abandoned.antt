-- An abandoned session stays so, and says nothing more.
use Rattle.std.proofs.Common.{◌≡◌, ℕ, zero, suc, List, [], ◌∷◌, ◌++◌, Bool, true, false, Option, Some, None, refl, sym, ap, subst, ◌∙◌}
use Rattle.std.specs.Prelude.{option_and_then, option_map, slice_get, slice_set}
use Rattle.std.specs.Option.{option_map_or}
use Rattle.cmi5_course.specs.declared.launch.Launch.{Launch}
use Rattle.cmi5_session.specs.Rules.{broken_rule}
use Rattle.cmi5_session.specs.Views.{view_of}
use Rattle.lrs_command.specs.declared.who.Who.TheVariants as who
use Rattle.lrs_history.specs.Effects.{effect, effect_of, new_by, with_owed}
use Rattle.lrs_history.specs.History.{ComesNext, state, state_from, step}
use Rattle.lrs_history.specs.Occasions.{Occasion, occasion}
use Rattle.lrs_history.specs.Refusals.{bad_form, barred_document, barred, broken_by, conflict, forbidden, missing, unmergeable}
use Rattle.lrs_history.specs.Sessions.{is_abandoned}
use Rattle.lrs_json.specs.Json.{Json}
use Rattle.lrs_json.specs.View.{view}
use Rattle.lrs_laws.proofs.Accepting.{accepted}
use Rattle.lrs_laws.proofs.Again.{no_reason}
use Rattle.lrs_laws.proofs.DeskKinds.{of_fetch}
use Rattle.lrs_laws.proofs.Fetching.{legal_from}
use Rattle.lrs_laws.proofs.Keepers.{state_from-append}
use Rattle.lrs_laws.proofs.Launched.{after_one}
use Rattle.lrs_laws.proofs.Permitted.{permitted}
use Rattle.lrs_laws.proofs.Walking.{Met, met_post, met_put, none_told}
use Rattle.lrs_laws.specs.Speaking.{AbandonedSessionsAreSilent}
use Rattle.lrs_state.specs.Launches.{key_under}
use Rattle.lrs_state.specs.Sessions.{as_abandoned, as_of, is_abandoned_in, sessions_after, with_abandoned, with_changed, with_fetched, with_launched}
use Rattle.lrs_state.specs.State.{State, nothing}
use Rattle.lrs_state.specs.declared.effect.Effect.{Effect}
use Rattle.lrs_state.specs.declared.sessions.HeldSession.{HeldSession}
use Rattle.lrs_state.specs.declared.sessions.SessionsChange.{SessionsChange}
use Rattle.lrs_record.specs.Writes.{write_area}
use Rattle.lrs_record.specs.declared.entry.Area.TheVariants.{Desk}
use Rattle.lrs_record.specs.declared.entry.Entry.{Entry}
use Rattle.lrs_record.specs.declared.entry.Write.{Write}
use Rattle.lrs_record.specs.declared.entry.Write.TheVariants.{Put, Post, Enrol, Fetch, Waive, Abandon, Sweep}
use Rattle.lrs_record.specs.declared.entry.Write.TheVariants as write
use Rattle.lrs_replies.specs.declared.answered.Refusal.TheVariants.{Forbidden}
use Rattle.lrs_rules.specs.declared.rule.Rule.TheVariants as rule
use Rattle.xapi_index.specs.Batches.{WithId, kept_by, supply_after, with_ids}
use Rattle.xapi_statement.specs.Statements.{add_each, new_ones}
use Rattle.xapi_format.specs.declared.authority.Authority.TheVariants.{Session}
use Rattle.xapi_statement.specs.Stored.{StoredStatement}

-- ---- it stays so

-- such a change takes no abandonment back
abbrev KeepsEnd : (HeldSession → HeldSession) → Type 0
KeepsEnd change = (s : HeldSession) → s.abandoned ≡ true → (change s).abandoned ≡ true

set_still : (change : HeldSession → HeldSession) → KeepsEnd change → (sessions : List HeldSession) (n k : ℕ) (s : HeldSession) → slice_get sessions n ≡ Some s → is_abandoned_in sessions k ≡ true
    → is_abandoned_in (slice_set sessions n (change s)) k ≡ true
set_still change keeps [] n k s found gone = cc found
set_still change keeps (x ∷ sessions) zero zero s found gone = let same : x ≡ s = cc found in keeps s (subst (λ (y : HeldSession). y.abandoned ≡ true) same gone)
set_still change keeps (x ∷ sessions) zero (suc k) s found gone = gone
set_still change keeps (x ∷ sessions) (suc n) zero s found gone = gone
set_still change keeps (x ∷ sessions) (suc n) (suc k) s found gone = set_still change keeps sessions n k s found gone

changed_still : (change : HeldSession → HeldSession) → KeepsEnd change → (sessions : List HeldSession) (n k : ℕ) → is_abandoned_in sessions k ≡ true → is_abandoned_in (with_changed change sessions n) k ≡ true
changed_still change keeps sessions n k gone = by_there (slice_get sessions n) refl
  where
    by_there : (o : Option HeldSession) → slice_get sessions n ≡ o → is_abandoned_in (option_map_or (λ s. slice_set sessions n (change s)) o sessions) k ≡ true
    by_there None found = gone
    by_there (Some s) found = set_still change keeps sessions n k s found gone

pub each_still : (sessions : List HeldSession) (numbers : List ℕ) (k : ℕ) → is_abandoned_in sessions k ≡ true → is_abandoned_in (with_abandoned sessions numbers) k ≡ true
each_still sessions [] k gone = gone
each_still sessions (number ∷ numbers) k gone =
    each_still (with_changed as_abandoned sessions number) numbers k (changed_still as_abandoned (λ s is. refl) sessions number k gone)

fetched_still : (moment : ℕ) (sessions : List HeldSession) (o : Option ℕ) (k : ℕ) → is_abandoned_in sessions k ≡ true → is_abandoned_in (with_fetched moment sessions o) k ≡ true
fetched_still moment sessions None k gone = gone
fetched_still moment sessions (Some number) k gone = changed_still (as_of moment) (λ s is. is) sessions number k gone

longer_still : (sessions more : List HeldSession) (k : ℕ) → is_abandoned_in sessions k ≡ true → is_abandoned_in (sessions ++ more) k ≡ true
longer_still [] more k gone = cc gone
longer_still (x ∷ sessions) more zero gone = gone
longer_still (x ∷ sessions) more (suc k) gone = longer_still sessions more k gone

pub launched_still : (moment : ℕ) (sessions : List HeldSession) (b : Bool) (k : ℕ) → is_abandoned_in sessions k ≡ true → is_abandoned_in (with_launched moment sessions b) k ≡ true
launched_still moment sessions false k gone = gone
launched_still moment sessions true k gone = longer_still sessions (record { moment = moment; abandoned = false } ∷ []) k gone

pub gone_after : (moment : ℕ) (sessions : List HeldSession) (change : SessionsChange) (k : ℕ) → is_abandoned_in sessions k ≡ true → is_abandoned_in (sessions_after moment sessions change) k ≡ true
gone_after moment sessions change k gone =
    launched_still moment (with_fetched moment (with_abandoned sessions change.abandoned) change.fetched) change.launched k
    (fetched_still moment (with_abandoned sessions change.abandoned) change.fetched k (each_still sessions change.abandoned k gone))

gone_from : (st : State) (more : List Entry) (k : ℕ) → is_abandoned st k ≡ true → is_abandoned (state_from st more) k ≡ true
gone_from st [] k gone = gone
gone_from st (e ∷ more) k gone = gone_from (step st e) more k (gone_after (effect st e).moment st.sessions (effect st e).sessions k gone)

-- ---- it says nothing

-- the caller acts in a session that was abandoned
record IsGone (st : State) (at : Occasion) : Type 0 where
  pub index : ℕ
  pub acts : at.by ≡ who.Session index
  pub gone : is_abandoned st index ≡ true

-- whatever it says is forbidden
all_forbidden : (st : State) (at : Occasion) (gone : IsGone st at) (l : Launch) → slice_get st.launches gone.index ≡ Some l → (before : List StoredStatement) (j : Json) → forbidden st at.by before j ≡ None → ⊥
all_forbidden st at gone l there before j free =
    let unbroken : broken_rule (view_of l true true before) j ≡ None =
    sym (ap (λ by. broken_by st by before j) gone.acts
    ∙ (ap (λ o. option_and_then (λ (x : Launch). broken_rule (view_of x true (is_abandoned st gone.index) before) j) o) there
    ∙ ap (λ b. broken_rule (view_of l true b before) j) gone.gone))
    ∙ none_told (broken_by st at.by before j) free in
    let told : Some 5 ≡ None = (permitted (view_of l true true before) j unbroken).in_phase in
    cc told

none_new : (st : State) (at : Occasion) (gone : IsGone st at) (ns : List WithId) → Met st at ns → new_by st at.by at.moment ns ≡ []
none_new st at gone ns met = by_launch (slice_get st.launches gone.index) refl
  where
    by_launch : (o : Option Launch) → slice_get st.launches gone.index ≡ o → new_by st at.by at.moment ns ≡ []
    by_launch None there =
        ap (λ by. new_by st by at.moment ns) gone.acts ∙ ap (λ o. new_ones st.statements (kept_by at.moment (option_map (λ (l : Launch). Session l.session) o) ns)) there
    by_launch (Some l) there = met (λ xs. xs ≡ []) (λ more n free so_far. absurd (all_forbidden st at gone l there (st.statements ++ more) (view n.tree) free)) refl

not_at_desk : (st : State) (at : Occasion) → IsGone st at → barred Desk at.by ≡ None → ⊥
not_at_desk st at gone let_in = let told : Some (Forbidden (rule.A 2)) ≡ None = sym (ap (barred Desk) gone.acts) ∙ let_in in cc told

-- so its write adds no statement
silent : (st : State) (at : Occasion) → IsGone st at → (w : Write) → barred (write_area w) at.by ≡ None → conflict st at w ≡ None → add_each st.statements (effect_of st at w).statements ≡ st.statements
silent st at gone (Put id statement) let_in free =
    ap (λ xs. add_each st.statements (with_owed st at at.supply xs)) (none_new st at gone (record { id = id; tree = statement } ∷ []) (met_put st at id statement free))
silent st at gone (Post statements) let_in free =
    ap (λ xs. add_each st.statements (with_owed st at (supply_after at.supply statements) xs)) (none_new st at gone (with_ids at.supply statements) (met_post st at statements free))
silent st at gone (Enrol course actor edition) let_in free = absurd (not_at_desk st at gone let_in)
silent st at gone (write.Launch registration unit mode return_url) let_in free = absurd (not_at_desk st at gone let_in)
silent st at gone (Fetch key) let_in free = of_fetch (λ (x : Effect). add_each st.statements x.statements ≡ st.statements) st at refl (key_under key st.keys) (λ told. refl) (λ held is unused still. refl)
silent st at gone (Waive registration unit reason) let_in free = absurd (not_at_desk st at gone let_in)
silent st at gone (Abandon session) let_in free = absurd (not_at_desk st at gone let_in)
silent st at gone (Sweep idle) let_in free = absurd (not_at_desk st at gone let_in)
silent st at gone other let_in free = refl

-- ---- the law

silent_next : (limit : ℕ) (h : List Entry) (e : Entry) → ComesNext limit h e → IsGone (state h) (occasion (state h) e) → (state (h ++ e ∷ [])).statements ≡ (state h).statements
silent_next limit [] e next gone = absurd (cc gone.gone)
silent_next limit (first ∷ more) e next gone =
    let st : State = state (first ∷ more) in
    let at : Occasion = occasion st e in
    let reasons = no_reason (barred (write_area e.write) at.by ∷ bad_form e.write ∷ barred_document st at.by e.write ∷ missing st e.write ∷ unmergeable st e.write ∷ conflict st at e.write ∷ [])
    (accepted limit (first ∷ more) e next).free in
    ap (λ (su : State). su.statements) (after_one (first ∷ more) e) ∙ silent st at gone e.write reasons.0 reasons.1.1.1.1.1.0

pub abandoned_sessions_are_silent : AbandonedSessionsAreSilent
abandoned_sessions_are_silent limit h more e k legal gone acts =
    silent_next limit (h ++ more) e (legal_from limit [] (h ++ more) [] e legal.1)
    (record { index = k; acts = acts; gone = subst (λ (su : State). is_abandoned su k ≡ true) (sym (state_from-append nothing h more)) (gone_from (state h) more k gone) })
