-- The statements that a legal history takes up, one after the other: none of them was refused.
use Rattle.std.proofs.Common.{◌≡◌, ℕ, List, [], ◌∷◌, ◌++◌, Bool, true, false, ◌&&◌, Option, Some, None, refl, sym, ap, subst, ◌∙◌, append_assoc, append-nil}
use Rattle.std.specs.Prelude.{is_some, option_and_then, option_map, slice_get, if◌then◌else◌}
use Rattle.std.specs.List.{AllByRecursion}
use Rattle.std.specs.Str.{bytes_eq}
use Rattle.std.specs.Cmp.{second_so}
use Rattle.std.proofs.lemmas.Bool.{or_right}
use Rattle.cmi5_course.specs.declared.launch.Launch.{Launch}
use Rattle.cmi5_launch.specs.Names.{satisfied}
use Rattle.cmi5_session.specs.Own.{is_cmi5_defined}
use Rattle.cmi5_session.specs.Rules.{broken_outside, broken_rule}
use Rattle.cmi5_session.specs.Views.{view_of}
use Rattle.lrs_command.specs.declared.who.Who.{Who}
use Rattle.lrs_command.specs.declared.who.Who.TheVariants as who
use Rattle.lrs_history.specs.Effects.{effect_of, new_by, owed_in_session, with_owed}
use Rattle.lrs_history.specs.Occasions.{Occasion, occasion}
use Rattle.lrs_history.specs.DeskEffects.{abandoning_one, enrolling, fetching, launching, sweeping, waiving}
use Rattle.lrs_history.specs.History.{ComesNext, IsLegal, IsLegalFrom, founds, is_operator, is_zero, state}
use Rattle.lrs_history.specs.Launches.{target}
use Rattle.lrs_history.specs.Refusals.{bad_form, barred_document, barred, before_next, broken_by, conflict, forbidden, missing, refused_in, refused_over, refused_under, told_forbidden, unmergeable}
use Rattle.lrs_history.specs.Sessions.{is_abandoned}
use Rattle.lrs_history.specs.Whose.{authority_of, launch_of}
use Rattle.lrs_ids.specs.Choices.{when}
use Rattle.lrs_ids.specs.Ids.{Supply}
use Rattle.lrs_json.specs.Json.{Json}
use Rattle.lrs_json.specs.View.{view}
use Rattle.lrs_json.specs.declared.tree.Tree.{Tree}
use Rattle.lrs_laws.proofs.Accepting.{accepted}
use Rattle.lrs_laws.proofs.Again.{first_none, no_reason, old_one}
use Rattle.lrs_laws.proofs.DeskStatements.{IsOfDesk, Owes, TellsDeeds, deeds, owed_of_desk, owes_in_session, own_verbs, tells_ending, tells_enrolment, tells_fetch, tells_launch, tells_sweep, tells_waiver}
use Rattle.lrs_laws.proofs.Launched.{after_one}
use Rattle.lrs_laws.proofs.Lists.{each_append, each_weaker}
use Rattle.lrs_laws.proofs.Permitted.{permitted, when_none}
use Rattle.lrs_laws.proofs.Registered.{AreIds, MakesIds, all_ids, makes_ids}
use Rattle.lrs_names.specs.Members.{is_one_of}
use Rattle.lrs_state.specs.Courses.{index_meant}
use Rattle.lrs_state.specs.Launches.{key_under, index_of_session}
use Rattle.lrs_state.specs.State.{State, nothing}
use Rattle.lrs_state.specs.declared.effect.Effect.{Effect}
use Rattle.lrs_record.specs.Writes.{write_area}
use Rattle.lrs_record.specs.declared.entry.Entry.{Entry}
use Rattle.lrs_record.specs.declared.entry.Write.{Write}
use Rattle.lrs_record.specs.declared.entry.Write.TheVariants.{Found, Put, Post, Enrol, Fetch, Waive, Abandon, Sweep}
use Rattle.lrs_record.specs.declared.entry.Write.TheVariants as write
use Rattle.xapi_format.specs.declared.authority.Authority.{Authority}
use Rattle.xapi_format.specs.declared.authority.Authority.TheVariants.{Session}
use Rattle.xapi_index.specs.Batches.{WithId, held_of, id_for, kept_by, supply_after, supply_behind, with_ids}
use Rattle.xapi_index.proofs.Adding.{add_each-append}
use Rattle.xapi_statement.specs.Statements.{add_each, held_under, is_held, new_ones}
use Rattle.xapi_statement.specs.Statement.{own_id, verb_of}
use Rattle.xapi_statement.specs.Stored.{StoredStatement}

-- ---- the new ones

none_kept : (moment : ℕ) (o : Option Authority) (held : List StoredStatement) → new_ones held (kept_by moment o []) ≡ []
none_kept moment None held = refl
none_kept moment (Some by) held = refl

new_first : (moment : ℕ) (o : Option Authority) (held : List StoredStatement) (n : WithId) (ns : List WithId)
    → new_ones held (kept_by moment o (n ∷ [])) ++ new_ones held (kept_by moment o ns) ≡ new_ones held (kept_by moment o (n ∷ ns))
new_first moment None held n ns = refl
new_first moment (Some by) held n ns = by_held (is_held n.id held)
  where
    rest : List StoredStatement
    rest = new_ones held (kept_by moment (Some by) ns)

    by_held : (b : Bool) → (if b then [] else held_of moment by n ∷ []) ++ rest ≡ (if b then rest else held_of moment by n ∷ rest)
    by_held true = refl
    by_held false = refl

-- ---- one after the other

-- What holds of the new ones so far holds with one more that isn't forbidden behind them.
abbrev pub Steps : State → Occasion → (List StoredStatement → Type 0) → Type 0
Steps st at P =
    (more : List StoredStatement) (n : WithId) → forbidden st at.by (st.statements ++ more) (view n.tree) ≡ None → P more → P (more ++ new_by st at.by at.moment (n ∷ []))

-- None of them is refused.
abbrev pub Met : State → Occasion → List WithId → Type 1
Met st at ns = (P : List StoredStatement → Type 0) → Steps st at P → P [] → P (new_by st at.by at.moment ns)

-- one that isn't refused, under its own id or a made one
met_one : (st : State) (at : Occasion) (P : List StoredStatement → Type 0) → Steps st at P → (more : List StoredStatement) (made : List ℕ) (o : Option (List ℕ)) (t : Tree)
    → refused_under st (forbidden st at.by (st.statements ++ more) (view t)) o (view t) ≡ None → P more → P (more ++ new_by st at.by at.moment (record { id = id_for made o; tree = t } ∷ []))
met_one st at P steps more made None t free so_far = steps more (record { id = made; tree = t }) free so_far
met_one st at P steps more made (Some id) t free so_far = by_held (held_under id st.statements) refl free
  where
    by_held : (o : Option StoredStatement) → held_under id st.statements ≡ o → refused_over (forbidden st at.by (st.statements ++ more) (view t)) id (view t) o ≡ None
        → P (more ++ new_by st at.by at.moment (record { id = id; tree = t } ∷ []))
    by_held None is unforbidden = steps more (record { id = id; tree = t }) unforbidden so_far
    by_held (Some s) is same =
        subst (λ xs. P (more ++ xs)) (sym (old_one at.moment (authority_of st at.by) st.statements (record { id = id; tree = t }) (ap (λ o. is_some o) is))) (subst P (sym (append-nil more)) so_far)

met_from : (st : State) (at : Occasion) (P : List StoredStatement → Type 0) → Steps st at P → (more : List StoredStatement) (supply : Supply) (ts : List Tree)
    → refused_in st at (st.statements ++ more) (with_ids supply ts) ≡ None → P more → P (more ++ new_by st at.by at.moment (with_ids supply ts))
met_from st at P steps more supply [] free so_far =
    subst (λ xs. P (more ++ xs)) (sym (none_kept at.moment (authority_of st at.by) st.statements)) (subst P (sym (append-nil more)) so_far)
met_from st at P steps more supply (t ∷ ts) free so_far =
    let n : WithId = record { id = id_for (supply 0) (own_id (view t)); tree = t } in
    let later : Supply = supply_behind supply (own_id (view t)) in
    let one : List StoredStatement = new_by st at.by at.moment (n ∷ []) in
    let both = first_none (refused_under st (forbidden st at.by (st.statements ++ more) (view t)) (own_id (view t)) (view t))
    (refused_in st at (before_next st at (st.statements ++ more) n) (with_ids later ts)) free in
    let rest : refused_in st at (st.statements ++ (more ++ one)) (with_ids later ts) ≡ None =
    sym (ap (λ l. refused_in st at l (with_ids later ts)) (append_assoc st.statements more one)) ∙ both.1 in
    subst P (append_assoc more one (new_by st at.by at.moment (with_ids later ts)) ∙ ap (λ xs. more ++ xs) (new_first at.moment (authority_of st at.by) st.statements n (with_ids later ts)))
    (met_from st at P steps (more ++ one) later ts rest (met_one st at P steps more (supply 0) (own_id (view t)) t both.0 so_far))

pub met_put : (st : State) (at : Occasion) (id : List ℕ) (t : Tree) → conflict st at (Put id t) ≡ None → Met st at (record { id = id; tree = t } ∷ [])
met_put st at id t free P steps none =
    met_one st at P steps [] [] (Some id) t (ap (λ l. refused_under st (forbidden st at.by l (view t)) (Some id) (view t)) (append-nil st.statements) ∙ free) none

pub met_post : (st : State) (at : Occasion) (ts : List Tree) → conflict st at (Post ts) ≡ None → Met st at (with_ids at.supply ts)
met_post st at ts free P steps none =
    met_from st at P steps [] at.supply ts (ap (λ l. refused_in st at l (with_ids at.supply ts)) (append-nil st.statements) ∙ free) none

-- ---- an entry

-- what a write brings that isn't refused keeps what holds of the statements
abbrev pub KeptByWrites : (List StoredStatement → Type 0) → Type 1
KeptByWrites Q = (st : State) (at : Occasion) (ns : List WithId) → Met st at ns → Q st.statements → Q (add_each st.statements (new_by st at.by at.moment ns))

-- and so does what the store says of its own by one of these verbs
abbrev pub KeptByDesk : List (List ℕ) → (List StoredStatement → Type 0) → Type 0
KeptByDesk verbs Q = (held ss : List StoredStatement) → AllByRecursion (IsOfDesk verbs) ss → Q held → Q (add_each held ss)

-- and what is owed behind new statements
abbrev pub KeptByOwed : State → (List StoredStatement → Type 0) → Type 0
KeptByOwed st Q = (new owed : List StoredStatement) → Owes st new owed → Q (add_each st.statements new) → Q (add_each (add_each st.statements new) owed)

module _ (Q : List StoredStatement → Type 0) (writes : KeptByWrites Q) (deed : KeptByDesk deeds Q) (st : State) (owed : KeptByOwed st Q) (is : Q st.statements) (at : Occasion) where
  kept_by_caller : (supply : Supply) (ns : List WithId) → AreIds st.registrations → Met st at ns → Q (add_each st.statements (with_owed st at supply (new_by st at.by at.moment ns)))
  kept_by_caller supply ns ids met =
      let new : List StoredStatement = new_by st at.by at.moment ns in
      let more : List StoredStatement = owed_in_session st supply at.moment new (launch_of st at.by) in
      subst Q (sym (add_each-append st.statements new more)) (owed new more (owes_in_session st supply at.moment new (launch_of st at.by) ids) (writes st at ns met is))

  kept_by_store : (x : Effect) → TellsDeeds st x → Q (add_each st.statements x.statements)
  kept_by_store x tells =
      subst (λ ss. Q (add_each st.statements ss)) (sym tells.whole)
      (subst Q (sym (add_each-append st.statements tells.told tells.owed)) (owed tells.told tells.owed tells.owes (deed st.statements tells.told tells.by_desk is)))

  pub kept_by_entry : (w : Write) → AreIds st.registrations → MakesIds at → conflict st at w ≡ None → Q (add_each st.statements (effect_of st at w).statements)
  kept_by_entry (Put id statement) ids made free = kept_by_caller at.supply (record { id = id; tree = statement } ∷ []) ids (met_put st at id statement free)
  kept_by_entry (Post statements) ids made free = kept_by_caller (supply_after at.supply statements) (with_ids at.supply statements) ids (met_post st at statements free)
  kept_by_entry (Enrol course actor edition) ids made free =
      kept_by_store (enrolling st at actor (index_meant course edition st.courses st.editions)) (tells_enrolment st at actor (index_meant course edition st.courses st.editions) made)
  kept_by_entry (write.Launch registration unit mode return_url) ids made free =
      kept_by_store (launching st at mode return_url (target st registration unit)) (tells_launch st at mode return_url (target st registration unit))
  kept_by_entry (Fetch key) ids made free = kept_by_store (fetching st at (key_under key st.keys)) (tells_fetch st at (key_under key st.keys))
  kept_by_entry (Waive registration unit reason) ids made free =
      kept_by_store (waiving st at reason (target st registration unit)) (tells_waiver st at reason registration unit ids)
  kept_by_entry (Abandon session) ids made free =
      kept_by_store (abandoning_one st at (index_of_session session st.launches)) (tells_ending st at (index_of_session session st.launches))
  kept_by_entry (Sweep idle) ids made free = kept_by_store (sweeping st at idle) (tells_sweep st at idle)
  kept_by_entry other ids made free = is

-- an entry of a legal history was in no conflict
pub unopposed : (limit : ℕ) (h : List Entry) (e : Entry) → ComesNext limit h e → conflict (state h) (occasion (state h) e) e.write ≡ None
unopposed limit [] e next = by_write e.write (second_so (is_operator e.caller && is_zero e.draw) (founds e.write) next)
  where
    by_write : (w : Write) → founds w ≡ true → conflict nothing (occasion nothing e) w ≡ None
    by_write (Found admin base) is = refl
    by_write other is = absurd (cc is)
unopposed limit (first ∷ more) e next =
    let st : State = state (first ∷ more) in
    let at : Occasion = occasion st e in
    (no_reason (barred (write_area e.write) at.by ∷ bad_form e.write ∷ barred_document st at.by e.write ∷ missing st e.write ∷ unmergeable st e.write ∷ conflict st at e.write ∷ [])
    (accepted limit (first ∷ more) e next).free).1.1.1.1.1.0

-- What holds of no entry, and of one more that may come next, holds of every legal history.
pub over_entries : (limit : ℕ) (P : List Entry → Type 0) → P [] → ((h : List Entry) (e : Entry) → ComesNext limit h e → P h → P (h ++ e ∷ [])) → (h : List Entry) → IsLegal limit h → P h
over_entries limit P none more h legal = behind [] h legal.1 none
  where
    behind : (before entries : List Entry) → IsLegalFrom limit before entries → P before → P (before ++ entries)
    behind before [] legal_behind is = subst P (sym (append-nil before)) is
    behind before (e ∷ entries) legal_behind is =
        subst P (append_assoc before (e ∷ []) entries) (behind (before ++ e ∷ []) entries legal_behind.2 (more before e legal_behind.1 is))

-- What holds of no statement, and is kept by each entry, holds over every legal history.
pub over_legal : (Q : List StoredStatement → Type 0) → KeptByWrites Q → KeptByDesk own_verbs Q → Q [] → (limit : ℕ) (h : List Entry) → IsLegal limit h → Q (state h).statements
over_legal Q writes desk none limit =
    over_entries limit (λ h. Q (state h).statements) none
    (λ h e next is. subst (λ (su : State). Q su.statements) (sym (after_one h e))
    (kept_by_entry Q writes deed (state h) (λ new owed owes. desk (add_each (state h).statements new) owed (owed_of_desk (state h) new owed owes)) is (occasion (state h) e) e.write (all_ids h) (makes_ids (state h) e) (unopposed limit h e next)))
  where
    deed : KeptByDesk deeds Q
    deed held ss each =
        desk held ss (each_weaker (IsOfDesk deeds) (IsOfDesk own_verbs) (λ s of. (of.0, or_right (bytes_eq satisfied (verb_of (view s.received))) (is_one_of deeds (verb_of (view s.received))) of.1)) ss each)

-- ---- a session

-- the caller acts in the session of that launch
pub record SpeaksIn (st : State) (at : Occasion) (l : Launch) : Type 0 where
  pub index : ℕ
  pub acts : at.by ≡ who.Session index
  pub launched : slice_get st.launches index ≡ Some l

pub its_authority : (st : State) (at : Occasion) (l : Launch) → SpeaksIn st at l → authority_of st at.by ≡ Some (Session l.session)
its_authority st at l speaks = ap (authority_of st) speaks.acts ∙ ap (λ o. option_map (λ (x : Launch). Session x.session) o) speaks.launched

pub none_told : (o : Option ℕ) → told_forbidden o ≡ None → o ≡ None
none_told None free = refl
none_told (Some n) free = cc free

-- It isn't abandoned, and breaks none of the rules.
pub its_rule : (st : State) (at : Occasion) (l : Launch) (before : List StoredStatement) (j : Json) → SpeaksIn st at l → forbidden st at.by before j ≡ None → broken_rule (view_of l true false before) j ≡ None
its_rule st at l before j speaks free = by_end (is_abandoned st speaks.index) unbroken
  where
    unbroken : broken_rule (view_of l true (is_abandoned st speaks.index) before) j ≡ None
    unbroken =
        sym (ap (λ by. broken_by st by before j) speaks.acts
        ∙ ap (λ o. option_and_then (λ (x : Launch). broken_rule (view_of x true (is_abandoned st speaks.index) before) j) o) speaks.launched)
        ∙ none_told (broken_by st at.by before j) free

    by_end : (b : Bool) → broken_rule (view_of l true b before) j ≡ None → broken_rule (view_of l true false before) j ≡ None
    by_end true none = let told : Some 5 ≡ None = (permitted (view_of l true true before) j none).in_phase in cc told
    by_end false none = none

-- what is new of one statement: nothing if it is held
abbrev pub new_said : State → Occasion → Launch → WithId → List StoredStatement
new_said st at l n = if is_held n.id st.statements then [] else held_of at.moment (Session l.session) n ∷ []

pub its_new : (st : State) (at : Occasion) (l : Launch) (n : WithId) → SpeaksIn st at l → new_by st at.by at.moment (n ∷ []) ≡ new_said st at l n
its_new st at l n speaks = ap (λ o. new_ones st.statements (kept_by at.moment o (n ∷ []))) (its_authority st at l speaks)

-- ---- whoever the caller is

-- It is a session, or it isn't. Nothing is kept of one whose launch isn't there.
pub by_speaker : (R : List StoredStatement → Type 0) (st : State) (at : Occasion) (ns : List WithId)
    → ((admin : Bool) → ((before : List StoredStatement) (j : Json) → broken_by st at.by before j ≡ broken_outside admin j) → R (new_by st at.by at.moment ns))
    → ((l : Launch) → SpeaksIn st at l → R (new_by st at.by at.moment ns)) → R [] → R (new_by st at.by at.moment ns)
by_speaker R st at ns outside inside none = by_caller at.by refl
  where
    by_launch : (k : ℕ) (o : Option Launch) → at.by ≡ who.Session k → slice_get st.launches k ≡ o → R (new_by st at.by at.moment ns)
    by_launch k None acts there =
        let none_new : new_by st at.by at.moment ns ≡ [] =
        ap (λ by. new_by st by at.moment ns) acts ∙ ap (λ o. new_ones st.statements (kept_by at.moment (option_map (λ (l : Launch). Session l.session) o) ns)) there in
        subst R (sym none_new) none
    by_launch k (Some l) acts there = inside l (record { index = k; acts = acts; launched = there })

    by_caller : (by : Who) → at.by ≡ by → R (new_by st at.by at.moment ns)
    by_caller who.Unknown is = outside false (λ before j. ap (λ by. broken_by st by before j) is)
    by_caller who.Admin is = outside true (λ before j. ap (λ by. broken_by st by before j) is)
    by_caller (who.Provider k) is = outside false (λ before j. ap (λ by. broken_by st by before j) is)
    by_caller (who.Session k) is = by_launch k (slice_get st.launches k) is refl

-- one that is no session says nothing that cmi5 defines
pub undefined_outside : (st : State) (at : Occasion) (admin : Bool) → ((before : List StoredStatement) (j : Json) → broken_by st at.by before j ≡ broken_outside admin j)
    → (before : List StoredStatement) (j : Json) → forbidden st at.by before j ≡ None → is_cmi5_defined j ≡ false
undefined_outside st at admin outside before j free =
    let unbroken : broken_outside admin j ≡ None = sym (outside before j) ∙ none_told (broken_by st at.by before j) free in
    when_none (is_cmi5_defined j) 1 (first_none (when (is_cmi5_defined j) 1) _ unbroken).0

-- ---- what nobody says

-- none of them is such a value
abbrev pub NonePass : (Json → Bool) → List StoredStatement → Type 0
NonePass test ss = AllByRecursion (λ (s : StoredStatement). test (view s.received) ≡ false) ss

one_new : (test : Json → Bool) (moment : ℕ) (o : Option Authority) (held : List StoredStatement) (n : WithId) → test (view n.tree) ≡ false → NonePass test (new_ones held (kept_by moment o (n ∷ [])))
one_new test moment None held n none = tt
one_new test moment (Some by) held n none = by_held (is_held n.id held)
  where
    by_held : (b : Bool) → NonePass test (if b then [] else held_of moment by n ∷ [])
    by_held true = tt
    by_held false = (none, tt)

-- such as a caller may not say isn't among what it says
pub none_pass : (test : Json → Bool) (st : State) (at : Occasion) → ((before : List StoredStatement) (j : Json) → forbidden st at.by before j ≡ None → test j ≡ false) → Steps st at (NonePass test)
none_pass test st at never more n free so_far =
    each_append (λ (s : StoredStatement). test (view s.received) ≡ false) more (new_by st at.by at.moment (n ∷ [])) so_far
    (one_new test at.moment (authority_of st at.by) st.statements n (never (st.statements ++ more) (view n.tree) free))
