-- Each launch has one session, and one that is closed stays so.
use Rattle.std.proofs.Common.{◌≡◌, ◌⊎◌, inl, inr, ℕ, zero, suc, ◌+◌, List, [], ◌∷◌, length, Bool, true, false, ◌||◌, Option, Some, None, refl, sym, ap, subst, ◌∙◌, length-append, true≢false}
use Rattle.std.specs.Prelude.{slice_get, slice_set}
use Rattle.std.specs.Option.{option_map_or}
use Rattle.std.proofs.lemmas.Bool.{or_right}
use Rattle.std.proofs.lemmas.List.Folds.{list_any-append}
use Rattle.cmi5_course.specs.declared.launch.Launch.{Launch}
use Rattle.cmi5_course.specs.declared.launch.Mode.{Mode}
use Rattle.cmi5_launch.specs.Names.{terminated}
use Rattle.cmi5_session.specs.Own.{has_own, is_own}
use Rattle.lrs_history.specs.Effects.{effect_of}
use Rattle.lrs_history.specs.Launches.{Target, launch_at, target}
use Rattle.lrs_history.specs.Occasions.{Occasion}
use Rattle.lrs_history.specs.Sessions.{is_abandoned, is_closed, is_terminated}
use Rattle.lrs_laws.proofs.Abandoned.{gone_after}
use Rattle.lrs_laws.proofs.DeskKinds.{launched_by, of_ending, of_enrolment, of_fetch, of_launch, of_waiver}
use Rattle.lrs_laws.proofs.Lists.{item_still}
use Rattle.lrs_state.specs.Courses.{index_meant}
use Rattle.lrs_state.specs.Launches.{index_of_session, key_under, launches_after, unchanged_launches}
use Rattle.lrs_state.specs.Sessions.{as_abandoned, as_of, with_abandoned, with_changed, with_fetched, with_launched}
use Rattle.lrs_state.specs.State.{State, apply}
use Rattle.lrs_state.specs.declared.effect.Effect.{Effect}
use Rattle.lrs_state.specs.declared.sessions.HeldSession.{HeldSession}
use Rattle.lrs_record.specs.declared.entry.Write.{Write}
use Rattle.lrs_record.specs.declared.entry.Write.TheVariants.{Enrol, Fetch, Waive, Abandon}
use Rattle.lrs_record.specs.declared.entry.Write.TheVariants as write
use Rattle.xapi_index.proofs.Adding.{extends}
use Rattle.xapi_statement.specs.Statements.{add_each}
use Rattle.xapi_statement.specs.Stored.{StoredStatement}

-- ---- what an entry does to launches

-- none comes
pub record BringsNone (x : Effect) : Type 0 where
  pub launches : x.launches ≡ unchanged_launches
  pub begins_none : x.sessions.launched ≡ false

-- a unit is launched
pub record Begins (st : State) (at : Occasion) (x : Effect) : Type 0 where
  pub mode : Mode
  pub return_url : Option (List ℕ)
  pub unit : Target
  pub is : x ≡ launched_by st at mode return_url unit

abbrev pub MovesLaunches : State → Occasion → Effect → Type 0
MovesLaunches st at x = BringsNone x ⊎ Begins st at x

pub moves_launches : (st : State) (at : Occasion) (w : Write) → MovesLaunches st at (effect_of st at w)
moves_launches st at (Enrol course actor edition) =
    of_enrolment (MovesLaunches st at) st at (inl (record { launches = refl; begins_none = refl })) actor (index_meant course edition st.courses st.editions) (λ k. inl (record { launches = refl; begins_none = refl }))
moves_launches st at (write.Launch registration unit mode return_url) =
    of_launch (MovesLaunches st at) st at (inl (record { launches = refl; begins_none = refl })) mode return_url (target st registration unit)
    (λ t. inr (record { mode = mode; return_url = return_url; unit = t; is = refl }))
moves_launches st at (Fetch name) =
    of_fetch (MovesLaunches st at) st at (inl (record { launches = refl; begins_none = refl })) (key_under name st.keys) (λ told. inl (record { launches = refl; begins_none = refl }))
    (λ key is unused still. inl (record { launches = refl; begins_none = refl }))
moves_launches st at (Waive registration unit reason) =
    of_waiver (MovesLaunches st at) st at (inl (record { launches = refl; begins_none = refl })) reason (target st registration unit) (λ t is. inl (record { launches = refl; begins_none = refl }))
moves_launches st at (Abandon session) =
    of_ending (MovesLaunches st at) st at (inl (record { launches = refl; begins_none = refl })) (index_of_session session st.launches) (λ numbers. inl (record { launches = refl; begins_none = refl }))
moves_launches st at other = inl (record { launches = refl; begins_none = refl })

-- ---- what is known of sessions is of one for each launch

length_set : (sessions : List HeldSession) (n : ℕ) (s : HeldSession) → length (slice_set sessions n s) ≡ length sessions
length_set [] n s = refl
length_set (x ∷ sessions) zero s = refl
length_set (x ∷ sessions) (suc n) s = ap suc (length_set sessions n s)

pub length_changed : (change : HeldSession → HeldSession) (sessions : List HeldSession) (n : ℕ) → length (with_changed change sessions n) ≡ length sessions
length_changed change sessions n = by_there (slice_get sessions n)
  where
    by_there : (o : Option HeldSession) → length (option_map_or (λ s. slice_set sessions n (change s)) o sessions) ≡ length sessions
    by_there None = refl
    by_there (Some s) = length_set sessions n (change s)

length_abandoned : (sessions : List HeldSession) (numbers : List ℕ) → length (with_abandoned sessions numbers) ≡ length sessions
length_abandoned sessions [] = refl
length_abandoned sessions (number ∷ numbers) = length_abandoned (with_changed as_abandoned sessions number) numbers ∙ length_changed as_abandoned sessions number

length_fetched : (moment : ℕ) (sessions : List HeldSession) (o : Option ℕ) → length (with_fetched moment sessions o) ≡ length sessions
length_fetched moment sessions None = refl
length_fetched moment sessions (Some number) = length_changed (as_of moment) sessions number

abbrev pub AreMatched : State → Type 0
AreMatched st = length st.sessions ≡ length st.launches

pub matched_after : (st : State) (at : Occasion) (x : Effect) → MovesLaunches st at x → AreMatched st → AreMatched (apply st x)
matched_after st at x (inl quiet) matched =
    let before : List HeldSession = with_abandoned st.sessions x.sessions.abandoned in
    let now : List HeldSession = with_fetched x.moment before x.sessions.fetched in
    ap (λ b. length (with_launched x.moment now b)) quiet.begins_none
    ∙ (length_fetched x.moment before x.sessions.fetched ∙ (length_abandoned st.sessions x.sessions.abandoned ∙ (matched ∙ sym (ap (λ c. length (launches_after st.launches c)) quiet.launches))))
matched_after st at x (inr begins) matched =
    let y : Effect = launched_by st at begins.mode begins.return_url begins.unit in
    let l : Launch = launch_at begins.unit begins.mode (at.supply 0) in
    let before : List HeldSession = with_abandoned st.sessions y.sessions.abandoned in
    subst (λ z. AreMatched (apply st z)) (sym begins.is)
    (length-append before (record { moment = y.moment; abandoned = false } ∷ [])
    ∙ (ap (λ n. n + 1) (length_abandoned st.sessions y.sessions.abandoned ∙ matched) ∙ sym (length-append st.launches (l ∷ []))))

-- ---- what is closed stays so

still_there : (st : State) (at : Occasion) (x : Effect) → MovesLaunches st at x → (k : ℕ) (l : Launch) → slice_get st.launches k ≡ Some l → slice_get (launches_after st.launches x.launches) k ≡ Some l
still_there st at x (inl quiet) k l is = ap (λ c. slice_get (launches_after st.launches c) k) quiet.launches ∙ is
still_there st at x (inr begins) k l is =
    ap (λ (y : Effect). slice_get (launches_after st.launches y.launches) k) begins.is ∙ item_still st.launches (launch_at begins.unit begins.mode (at.supply 0) ∷ []) k l is

own_still : (id verb : List ℕ) (held xs : List StoredStatement) → has_own id verb held ≡ true → has_own id verb (add_each held xs) ≡ true
own_still id verb held xs is =
    let behind = extends held xs in
    ap (λ l. has_own id verb l) behind.1 ∙ (list_any-append (is_own id verb) held behind.0 ∙ ap (λ b. b || has_own id verb behind.0) is)

terminated_still : (st : State) (at : Occasion) (x : Effect) → MovesLaunches st at x → (k : ℕ) → is_terminated st k ≡ true → is_terminated (apply st x) k ≡ true
terminated_still st at x moves k is = by_launch (slice_get st.launches k) refl is
  where
    by_launch : (o : Option Launch) → slice_get st.launches k ≡ o → option_map_or (λ (l : Launch). has_own l.session terminated st.statements) o false ≡ true → is_terminated (apply st x) k ≡ true
    by_launch None there said = cc said
    by_launch (Some l) there said =
        ap (λ o. option_map_or (λ (y : Launch). has_own y.session terminated (add_each st.statements x.statements)) o false) (still_there st at x moves k l there)
        ∙ own_still l.session terminated st.statements x.statements said

closed_still : (st : State) (at : Occasion) (x : Effect) → MovesLaunches st at x → (k : ℕ) → is_closed st k ≡ true → is_closed (apply st x) k ≡ true
closed_still st at x moves k is = by_end (is_abandoned st k) refl is
  where
    by_end : (b : Bool) → is_abandoned st k ≡ b → b || is_terminated st k ≡ true → is_closed (apply st x) k ≡ true
    by_end true gone either = ap (λ b. b || is_terminated (apply st x) k) (gone_after x.moment st.sessions x.sessions k gone)
    by_end false still ended = or_right (is_abandoned (apply st x) k) (is_terminated (apply st x) k) (terminated_still st at x moves k ended)

-- so what is open was so before
pub was_open : (st : State) (at : Occasion) (x : Effect) → MovesLaunches st at x → (k : ℕ) → is_closed (apply st x) k ≡ false → is_closed st k ≡ false
was_open st at x moves k still = by_test (is_closed st k) refl
  where
    by_test : (b : Bool) → is_closed st k ≡ b → b ≡ false
    by_test true is = absurd (true≢false (sym (closed_still st at x moves k is) ∙ still))
    by_test false is = refl
