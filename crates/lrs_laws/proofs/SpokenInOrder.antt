-- A session speaks in order: no entry adds to its statements but its own, and what these add was permitted.
use Rattle.std.proofs.Common.{◌≡◌, ℕ, List, [], ◌∷◌, ◌++◌, Bool, true, false, ◌&&◌, Option, Some, None, cond, refl, sym, ap, subst, ◌∙◌, append_assoc, append-nil}
use Rattle.std.specs.Prelude.{option_map, slice_get, if◌then◌else◌}
use Rattle.std.specs.List.{AllByRecursion}
use Rattle.std.specs.Str.{bytes_eq}
use Rattle.std.specs.Cmp.Lexicographic.{same_text}
use Rattle.std.specs.Cmp.{first_so, second_so}
use Rattle.std.proofs.lemmas.Cmp.{nat_list_eq_equiv}
use Rattle.std.proofs.lemmas.Bool.{and_from}
use Rattle.cmi5_course.specs.declared.launch.Launch.{Launch}
use Rattle.cmi5_launch.specs.Names.{initialized, terminated}
use Rattle.cmi5_session.specs.Own.{is_of_session, says}
use Rattle.lrs_command.specs.declared.who.Who.{Who}
use Rattle.lrs_command.specs.declared.who.Who.TheVariants as who
use Rattle.lrs_history.specs.Effects.{new_by}
use Rattle.lrs_history.specs.Occasions.{Occasion}
use Rattle.lrs_json.specs.View.{view}
use Rattle.lrs_laws.proofs.DeskStatements.{IsOfDesk, own_verbs}
use Rattle.lrs_laws.proofs.Lists.{each_weaker}
use Rattle.lrs_laws.proofs.MayFollow.{AreInOrder, follows, own_append, own_push}
use Rattle.lrs_laws.proofs.Walking.{KeptByDesk, KeptByWrites, SpeaksIn, Steps, its_authority, its_new, its_rule, over_legal}
use Rattle.lrs_laws.specs.Speaking.{SessionsSpeakInOrder, are_in_order, goes_on, is_between, own_statements}
use Rattle.lrs_state.specs.State.{State, is_empty}
use Rattle.lrs_state.specs.declared.providers.HeldProvider.{HeldProvider}
use Rattle.xapi_format.specs.declared.authority.Authority.{Authority}
use Rattle.xapi_format.specs.declared.authority.Authority.TheVariants.{Admin, Provider, Session}
use Rattle.xapi_index.proofs.Adding.{add-new}
use Rattle.xapi_index.specs.Batches.{WithId, held_of, kept_by}
use Rattle.xapi_statement.specs.Statements.{add, add_each, is_held, new_ones}
use Rattle.xapi_statement.specs.Stored.{StoredStatement}

-- ---- what others say

-- what isn't the session's own changes nothing
same_own : (session : List ℕ) (held xs : List StoredStatement) → AllByRecursion (λ (x : StoredStatement). is_of_session session x.authority ≡ false) xs
    → own_statements session (add_each held xs) ≡ own_statements session held
same_own session held [] others = refl
same_own session held (x ∷ xs) others = same_own session (add held x) xs others.1 ∙ by_held (is_held x.id held)
  where
    by_held : (b : Bool) → own_statements session (if b then held else held ++ x ∷ []) ≡ own_statements session held
    by_held true = refl
    by_held false = own_push session held x false others.0 ∙ append-nil (own_statements session held)

-- statements of another authority
of_another : (session : List ℕ) (held : List StoredStatement) (moment : ℕ) (by : Authority) (ns : List WithId) → is_of_session session by ≡ false
    → AllByRecursion (λ (x : StoredStatement). is_of_session session x.authority ≡ false) (new_ones held (kept_by moment (Some by) ns))
of_another session held moment by [] other = tt
of_another session held moment by (n ∷ ns) other = by_held (is_held n.id held) (of_another session held moment by ns other)
  where
    rest : List StoredStatement
    rest = new_ones held (kept_by moment (Some by) ns)

    by_held : (b : Bool) → AllByRecursion (λ (x : StoredStatement). is_of_session session x.authority ≡ false) rest
        → AllByRecursion (λ (x : StoredStatement). is_of_session session x.authority ≡ false) (if b then rest else held_of moment by n ∷ rest)
    by_held true more = more
    by_held false more = (other, more)

spared : (session : List ℕ) (held : List StoredStatement) (moment : ℕ) (by : Authority) (ns : List WithId) → is_of_session session by ≡ false → AreInOrder session held
    → AreInOrder session (add_each held (new_ones held (kept_by moment (Some by) ns)))
spared session held moment by ns other order =
    ap are_in_order (same_own session held (new_ones held (kept_by moment (Some by) ns)) (of_another session held moment by ns other)) ∙ order

-- ---- a list in order without some of its statements

some_behind : (front : List StoredStatement) (x : StoredStatement) (behind : List StoredStatement) → is_empty (front ++ x ∷ behind) ≡ false
some_behind [] x behind = refl
some_behind (f ∷ front) x behind = refl

goes_without : (front : List StoredStatement) (x : StoredStatement) (behind : List StoredStatement) → goes_on (front ++ x ∷ behind) ≡ true → goes_on (front ++ behind) ≡ true
goes_without [] x behind on = by_end (says terminated (view x.received)) on
  where
    nothing_left : (ss : List StoredStatement) → is_empty ss ≡ true → goes_on ss ≡ true
    nothing_left [] none = refl
    nothing_left (s ∷ ss) none = cc none

    by_end : (b : Bool) → (if b then is_empty behind else is_between (view x.received) && goes_on behind) ≡ true → goes_on behind ≡ true
    by_end true none = nothing_left behind none
    by_end false more = second_so (is_between (view x.received)) (goes_on behind) more
goes_without (f ∷ front) x behind on = by_end (says terminated (view f.received)) on (λ rest. goes_without front x behind rest)
  where
    by_end : (b : Bool) → (if b then is_empty (front ++ x ∷ behind) else is_between (view f.received) && goes_on (front ++ x ∷ behind)) ≡ true
        → (goes_on (front ++ x ∷ behind) ≡ true → goes_on (front ++ behind) ≡ true)
        → (if b then is_empty (front ++ behind) else is_between (view f.received) && goes_on (front ++ behind)) ≡ true
    by_end true none more = cc (sym (some_behind front x behind) ∙ none)
    by_end false both more =
        and_from (is_between (view f.received)) (goes_on (front ++ behind)) (first_so (is_between (view f.received)) (goes_on (front ++ x ∷ behind)) both)
        (more (second_so (is_between (view f.received)) (goes_on (front ++ x ∷ behind)) both))

order_without : (ss : List StoredStatement) (x : StoredStatement) (behind : List StoredStatement) → is_empty ss ≡ false → are_in_order (ss ++ x ∷ behind) ≡ true → are_in_order (ss ++ behind) ≡ true
order_without [] x behind some order = cc some
order_without (s ∷ ss) x behind some order =
    and_from (says initialized (view s.received)) (goes_on (ss ++ behind)) (first_so (says initialized (view s.received)) (goes_on (ss ++ x ∷ behind)) order)
    (goes_without ss x behind (second_so (says initialized (view s.received)) (goes_on (ss ++ x ∷ behind)) order))

some_on : (ss more : List StoredStatement) → is_empty ss ≡ false → is_empty (ss ++ more) ≡ false
some_on [] more some = cc some
some_on (s ∷ ss) more some = refl

-- Where a session has said something, those that aren't added are missed at no index.
each_in_order : (session : List ℕ) (held xs : List StoredStatement) → is_empty (own_statements session held) ≡ false → AreInOrder session (held ++ xs) → AreInOrder session (add_each held xs)
each_in_order session held [] some order = subst (AreInOrder session) (append-nil held) order
each_in_order session held (x ∷ xs) some order = by_held (is_held x.id held) (λ l said rest. each_in_order session l xs said rest)
  where
    said : List StoredStatement
    said = own_statements session held

    by_own : (b : Bool) → are_in_order (said ++ cond b (x ∷ own_statements session xs) (own_statements session xs)) ≡ true → are_in_order (said ++ own_statements session xs) ≡ true
    by_own true is = order_without said x (own_statements session xs) some is
    by_own false is = is

    without : AreInOrder session (held ++ xs)
    without =
        ap are_in_order (own_append session held xs) ∙ by_own (is_of_session session x.authority) (sym (ap are_in_order (own_append session held (x ∷ xs))) ∙ order)

    by_held : (b : Bool) → ((l : List StoredStatement) → is_empty (own_statements session l) ≡ false → AreInOrder session (l ++ xs) → AreInOrder session (add_each l xs))
        → AreInOrder session (add_each (if b then held else held ++ x ∷ []) xs)
    by_held true more = more held some without
    by_held false more =
        more (held ++ x ∷ []) (ap is_empty (own_append session held (x ∷ [])) ∙ some_on said (own_statements session (x ∷ [])) some) (subst (AreInOrder session) (sym (append_assoc held (x ∷ []) xs)) order)

-- What is added is the first of each id: of a session's new statements the first one is.
news_in_order : (session : List ℕ) (held : List StoredStatement) (moment : ℕ) (by : Authority) (ns : List WithId) → is_of_session session by ≡ true
    → AreInOrder session (held ++ new_ones held (kept_by moment (Some by) ns)) → AreInOrder session (add_each held (new_ones held (kept_by moment (Some by) ns)))
news_in_order session held moment by [] own order = subst (AreInOrder session) (append-nil held) order
news_in_order session held moment by (n ∷ ns) own order = by_held (is_held n.id held) refl (λ rest. news_in_order session held moment by ns own rest) order
  where
    x : StoredStatement
    x = held_of moment by n

    rest : List StoredStatement
    rest = new_ones held (kept_by moment (Some by) ns)

    by_held : (b : Bool) → is_held n.id held ≡ b → (AreInOrder session (held ++ rest) → AreInOrder session (add_each held rest)) → AreInOrder session (held ++ (if b then rest else x ∷ rest))
        → AreInOrder session (add_each held (if b then rest else x ∷ rest))
    by_held true there more is = more is
    by_held false new more is =
        subst (λ l. AreInOrder session (add_each l rest)) (sym (add-new held x new))
        (each_in_order session (held ++ x ∷ []) rest (ap is_empty (own_push session held x true own) ∙ some_behind (own_statements session held) x [])
        (subst (AreInOrder session) (sym (append_assoc held (x ∷ []) rest)) is))

-- ---- what a session says

-- the session's statements are in order with the new ones so far
abbrev Spoken : State → Launch → List StoredStatement → Type 0
Spoken st l more = AreInOrder l.session (st.statements ++ more)

said_next : (st : State) (at : Occasion) (l : Launch) → SpeaksIn st at l → Steps st at (Spoken st l)
said_next st at l speaks more n free order =
    subst (λ xs. AreInOrder l.session (st.statements ++ (more ++ xs))) (sym (its_new st at l n speaks))
    (subst (AreInOrder l.session) (append_assoc st.statements more (if is_held n.id st.statements then [] else x ∷ [])) (by_held (is_held n.id st.statements)))
  where
    x : StoredStatement
    x = held_of at.moment (Session l.session) n

    before : List StoredStatement
    before = st.statements ++ more

    by_held : (b : Bool) → AreInOrder l.session (before ++ (if b then [] else x ∷ []))
    by_held true = subst (AreInOrder l.session) (sym (append-nil before)) order
    by_held false = follows l before x (nat_list_eq_equiv.refl l.session) (its_rule st at l before (view n.tree) speaks free) order

-- ---- the law

kept_by_writes : (session : List ℕ) → KeptByWrites (AreInOrder session)
kept_by_writes session st at ns met order = by_caller at.by refl
  where
    held : List StoredStatement
    held = st.statements

    by_provider : (k : ℕ) (o : Option HeldProvider) → AreInOrder session (add_each held (new_ones held (kept_by at.moment (option_map (λ (c : HeldProvider). Provider k c.name) o) ns)))
    by_provider k None = order
    by_provider k (Some c) = spared session held at.moment (Provider k c.name) ns refl order

    by_session : (l : Launch) (b : Bool) → SpeaksIn st at l → bytes_eq l.session session ≡ b → AreInOrder session (add_each held (new_ones held (kept_by at.moment (Some (Session l.session)) ns)))
    by_session l false speaks other = spared session held at.moment (Session l.session) ns other order
    by_session l true speaks own =
        let same : l.session ≡ session = same_text l.session session (sym own) in
        let so_far : Spoken st l [] = subst (AreInOrder l.session) (sym (append-nil held)) (subst (λ id. AreInOrder id held) (sym same) order) in
        news_in_order session held at.moment (Session l.session) ns own
        (subst (λ id. AreInOrder id (held ++ new_ones held (kept_by at.moment (Some (Session l.session)) ns))) same
        (subst (λ o. AreInOrder l.session (held ++ new_ones held (kept_by at.moment o ns))) (its_authority st at l speaks) (met (Spoken st l) (said_next st at l speaks) so_far)))

    by_launch : (k : ℕ) (o : Option Launch) → at.by ≡ who.Session k → slice_get st.launches k ≡ o
        → AreInOrder session (add_each held (new_ones held (kept_by at.moment (option_map (λ (l : Launch). Session l.session) o) ns)))
    by_launch k None acts launched = order
    by_launch k (Some l) acts launched = by_session l (bytes_eq l.session session) (record { index = k; acts = acts; launched = launched }) refl

    by_caller : (by : Who) → at.by ≡ by → AreInOrder session (add_each held (new_by st by at.moment ns))
    by_caller who.Unknown is = order
    by_caller who.Admin is = spared session held at.moment Admin ns refl order
    by_caller (who.Provider k) is = by_provider k (slice_get st.providers k)
    by_caller (who.Session k) is = by_launch k (slice_get st.launches k) is refl

kept_by_desk : (session : List ℕ) → KeptByDesk own_verbs (AreInOrder session)
kept_by_desk session held ss each order =
    ap are_in_order (same_own session held ss
    (each_weaker (IsOfDesk own_verbs) (λ (x : StoredStatement). is_of_session session x.authority ≡ false) (λ x of. ap (is_of_session session) of.0) ss each)) ∙ order

pub sessions_speak_in_order : SessionsSpeakInOrder
sessions_speak_in_order limit h session legal = over_legal (AreInOrder session) (kept_by_writes session) (kept_by_desk session) refl limit h legal
