-- What a session's own statements said, as of one statement more.
use Rattle.std.proofs.Common.{◌≡◌, ℕ, Bool, true, false, cond, if◌then◌else◌, ◌&&◌, ◌||◌, List, [], ◌∷◌, ◌++◌, Option, Some, None, is_some, refl, sym, ap, subst, ◌∙◌, unwrap_or}
use Rattle.std.proofs.Math.Bool.{or-false}
use Rattle.std.specs.Prelude.{find, option_map}
use Rattle.std.specs.Map.{lookup}
use Rattle.std.specs.Option.{option_or}
use Rattle.std.proofs.lemmas.Bool.{false≢true}
use Rattle.std.proofs.lemmas.List.Folds.{find-append, list_any-append}
use Rattle.cmi5_session.specs.Cmi5LaunchNames.{initialized, terminated}
use Rattle.cmi5_running_sessions.specs.Maps.{ChangesAt, kept_in, own_behind}
use Rattle.cmi5_running_sessions.specs.Kept.{SeenSessions, is_same, last_said, nothing_said, own_of, own_said}
use Rattle.cmi5_running_sessions.specs.Room.{needs_own}
use Rattle.cmi5_running_sessions.specs.declared.own.OwnSaid.{OwnSaid}
use Rattle.cmi5_running_sessions.proofs.Altering.{by_bytes, one_key}
use Rattle.cmi5_running_sessions.proofs.Making.{said_of}
use Rattle.cmi5_session.specs.Marked.{MarkedStatement, mark, marked, marked_by, statements_of}
use Rattle.cmi5_session.specs.Moments.{began_at, last_own}
use Rattle.cmi5_session.specs.Own.{has_own, is_of_session, is_own, says}
use Rattle.lrs_json.specs.View.{view}
use Rattle.xapi_format.specs.declared.authority.Authority.{Authority}
use Rattle.cmi5_session.specs.XapiStatementStatements.{is_that_id}
use Rattle.cmi5_session.specs.XapiStatementStored.{StoredStatement}
use Rattle.cmi5_session.proofs.Behind.{one_item}

-- ---- options

or_none : {X : Type 0} (o : Option X) → o ≡ option_or o None
or_none None = refl
or_none (Some x) = refl

or_assoc : {X : Type 0} (a b c : Option X) → option_or (option_or a b) c ≡ option_or a (option_or b c)
or_assoc None b c = refl
or_assoc (Some x) b c = refl

-- ---- one statement more

began_more : (id : List ℕ) (xs : List StoredStatement) (s : StoredStatement) → began_at id (xs ++ s ∷ []) ≡ option_or (began_at id xs) (if is_own id initialized s then Some s.stored else None)
began_more id xs s =
    ap (λ (o : Option StoredStatement). option_map (λ (t : StoredStatement). t.stored) o) (find-append (is_own id initialized) xs (s ∷ [])) ∙ by_case (find (is_own id initialized) xs) (is_own id initialized s)
  where
    by_case : (o : Option StoredStatement) (b : Bool) → option_map (λ (t : StoredStatement). t.stored) (option_or o (cond b (Some s) None))
        ≡ option_or (option_map (λ (t : StoredStatement). t.stored) o) (if b then Some s.stored else None)
    by_case (Some x) b = refl
    by_case None true = refl
    by_case None false = refl

ended_more : (id : List ℕ) (xs : List StoredStatement) (s : StoredStatement) → has_own id terminated (xs ++ s ∷ []) ≡ has_own id terminated xs || is_own id terminated s
ended_more id xs s = list_any-append (is_own id terminated) xs (s ∷ []) ∙ one_item (has_own id terminated xs) (is_own id terminated s)

last_more : (id : List ℕ) (xs : List StoredStatement) (s : StoredStatement) → last_said id (xs ++ s ∷ []) ≡ option_or (if is_of_session id s.authority then Some s.stored else None) (last_said id xs)
last_more id [] s = or_none (if is_of_session id s.authority then Some s.stored else None)
last_more id (x ∷ xs) s =
    ap (λ (o : Option ℕ). option_or o (if is_of_session id x.authority then Some x.stored else None)) (last_more id xs s)
    ∙ or_assoc (if is_of_session id s.authority then Some s.stored else None) (last_said id xs) (if is_of_session id x.authority then Some x.stored else None)

-- ---- the whole

pub same_parts : (a b : Option ℕ) (c d : Bool) (e f : Option ℕ) → a ≡ b → c ≡ d → e ≡ f → said_of a c e ≡ said_of b d f
same_parts a b c d e f began ended last = ap (λ x. said_of x c e) began ∙ (ap (λ x. said_of b x e) ended ∙ ap (λ x. said_of b d x) last)

-- one of the session's own
own_more : (id : List ℕ) (xs : List StoredStatement) (s : StoredStatement) → is_of_session id s.authority ≡ true → own_said id (xs ++ s ∷ []) ≡ own_behind s (own_said id xs)
own_more id xs s own =
    same_parts _ _ _ _ _ _
    (began_more id xs s ∙ ap (λ b. option_or (began_at id xs) (if b && says initialized (view s.received) then Some s.stored else None)) own)
    (ended_more id xs s ∙ ap (λ b. has_own id terminated xs || (b && says terminated (view s.received))) own)
    (last_more id xs s ∙ ap (λ b. option_or (if b then Some s.stored else None) (last_said id xs)) own)

-- one of another's
other_more : (id : List ℕ) (xs : List StoredStatement) (s : StoredStatement) → is_of_session id s.authority ≡ false → own_said id (xs ++ s ∷ []) ≡ own_said id xs
other_more id xs s other =
    same_parts _ _ _ _ _ _
    (began_more id xs s ∙ (ap (λ b. option_or (began_at id xs) (if b && says initialized (view s.received) then Some s.stored else None)) other ∙ sym (or_none (began_at id xs))))
    (ended_more id xs s ∙ (ap (λ b. has_own id terminated xs || (b && says terminated (view s.received))) other ∙ or-false (has_own id terminated xs)))
    (last_more id xs s ∙ ap (λ b. option_or (if b then Some s.stored else None) (last_said id xs)) other)

-- ---- marks

statements-more : (those : List MarkedStatement) (s : StoredStatement) (voided : Bool) → statements_of (those ++ mark s voided ∷ []) ≡ statements_of those ++ s ∷ []
statements-more [] s voided = refl
statements-more (m ∷ those) s voided = ap (λ (xs : List StoredStatement). m.statement ∷ xs) (statements-more those s voided)

-- a mark changes no statement
statements-marked : (before behind : List MarkedStatement) (s : StoredStatement) → statements_of (before ++ mark s false ∷ behind) ≡ statements_of (before ++ mark s true ∷ behind)
statements-marked [] behind s = refl
statements-marked (m ∷ before) behind s = ap (λ (xs : List StoredStatement). m.statement ∷ xs) (statements-marked before behind s)

pub marked_back : (those xs : List StoredStatement) → statements_of (marked_by those xs) ≡ xs
marked_back those [] = refl
marked_back those (x ∷ xs) = ap (λ (ys : List StoredStatement). x ∷ ys) (marked_back those xs)

-- the statements behind marks are those that were marked
pub statements-of-marked : (statements : List StoredStatement) → statements_of (marked statements) ≡ statements
statements-of-marked statements = marked_back statements statements

-- ---- what is kept

kept_changed : (change : OwnSaid → OwnSaid) (o : Option OwnSaid) → is_some o ≡ true → kept_in nothing_said (option_map change o) ≡ change (kept_in nothing_said o)
kept_changed change None there = absurd (false≢true there)
kept_changed change (Some said) there = refl

-- it stands for the statements with the one that is taken in
pub heard : (s : StoredStatement) (old new : SeenSessions) → ChangesAt (λ id. needs_own id s) (option_map (own_behind s)) old.own new.own
    → ((id : List ℕ) → needs_own id s ≡ true → is_some (lookup (is_same id) old.own) ≡ true) → (those : List MarkedStatement) (voided : Bool)
    → ((id : List ℕ) → own_of id old ≡ own_said id (statements_of those)) → (id : List ℕ) → own_of id new ≡ own_said id (statements_of (those ++ mark s voided ∷ []))
heard s old new changed there those voided stands id = by_test (needs_own id s) refl (changed id) ∙ ap (λ (xs : List StoredStatement). own_said id xs) (sym (statements-more those s voided))
  where
    by_test : (b : Bool) → needs_own id s ≡ b → lookup (is_same id) new.own ≡ (if needs_own id s then option_map (own_behind s) (lookup (is_same id) old.own) else lookup (is_same id) old.own)
        → own_of id new ≡ own_said id (statements_of those ++ s ∷ [])
    by_test true own is =
        ap (λ (o : Option OwnSaid). kept_in nothing_said o) (is ∙ ap (λ b. if b then option_map (own_behind s) (lookup (is_same id) old.own) else lookup (is_same id) old.own) own)
        ∙ (kept_changed (own_behind s) (lookup (is_same id) old.own) (there id own)
        ∙ (ap (λ (said : OwnSaid). own_behind s said) (stands id) ∙ sym (own_more id (statements_of those) s own)))
    by_test false other is =
        ap (λ (o : Option OwnSaid). kept_in nothing_said o) (is ∙ ap (λ b. if b then option_map (own_behind s) (lookup (is_same id) old.own) else lookup (is_same id) old.own) other)
        ∙ (stands id ∙ sym (other_more id (statements_of those) s other))

-- it stands for the same of the sessions where a statement is voided
pub voided_same : (s : StoredStatement) (old new : SeenSessions) → new.own ≡ old.own → (before behind : List MarkedStatement)
    → ((id : List ℕ) → own_of id old ≡ own_said id (statements_of (before ++ mark s false ∷ behind))) → (id : List ℕ) → own_of id new ≡ own_said id (statements_of (before ++ mark s true ∷ behind))
voided_same s old new same before behind stands id =
    ap (λ (own : List (List ℕ × OwnSaid)). kept_in nothing_said (lookup (is_same id) own)) same ∙ (stands id ∙ ap (λ (xs : List StoredStatement). own_said id xs) (statements-marked before behind s))

-- ---- whose own it is

-- the session of an authority, and that there is none
pub of_session : (authority given : Authority) (o : Option (List ℕ)) (session : List ℕ) → given ≡ authority → o ≡ Some session → ((id : List ℕ) → is_of_session id given ≡ is_that_id id o)
    → (id : List ℕ) → is_same session id ≡ is_of_session id authority
of_session authority given o session same is told id =
    by_bytes session id ∙ (sym (ap (λ (p : Option (List ℕ)). is_that_id id p) is) ∙ (sym (told id) ∙ ap (λ (a : Authority). is_of_session id a) same))

pub of_none : (authority given : Authority) (o : Option (List ℕ)) → given ≡ authority → o ≡ None → ((id : List ℕ) → is_of_session id given ≡ is_that_id id o)
    → (id : List ℕ) → is_of_session id authority ≡ false
of_none authority given o same is told id =
    ap (λ (a : Authority). is_of_session id a) (sym same) ∙ (told id ∙ ap (λ (p : Option (List ℕ)). is_that_id id p) is)

-- a slot of the session is one of each that passes
pub own_there : (session : List ℕ) (passes : List ℕ → Bool) (own : List (List ℕ × OwnSaid)) → ((id : List ℕ) → is_same session id ≡ passes id)
    → is_some (lookup (is_same session) own) ≡ true → (id : List ℕ) → passes id ≡ true → is_some (lookup (is_same id) own) ≡ true
own_there session passes own same there id needed =
    subst (λ (q : List ℕ). is_some (lookup (is_same q) own) ≡ true) (one_key session id (same id ∙ needed)) there

-- ---- the last one

-- the last moment, or another one if there is none
pub last_by : (id : List ℕ) (moment : ℕ) (xs : List StoredStatement) → last_own id moment xs ≡ unwrap_or (last_said id xs) moment
last_by id moment [] = refl
last_by id moment (x ∷ xs) = last_by id (if is_of_session id x.authority then x.stored else moment) xs ∙ by_case (last_said id xs) (is_of_session id x.authority)
  where
    by_case : (o : Option ℕ) (b : Bool) → unwrap_or o (if b then x.stored else moment) ≡ unwrap_or (option_or o (if b then Some x.stored else None)) moment
    by_case (Some k) b = refl
    by_case None true = refl
    by_case None false = refl

-- the session began exactly where a statement says so
pub began_is : (id : List ℕ) (xs : List StoredStatement) → is_some (began_at id xs) ≡ has_own id initialized xs
began_is id [] = refl
began_is id (x ∷ xs) = by_test (is_own id initialized x) (began_is id xs)
  where
    by_test : (b : Bool) → is_some (began_at id xs) ≡ has_own id initialized xs
        → is_some (option_map (λ (t : StoredStatement). t.stored) (cond b (Some x) (find (is_own id initialized) xs))) ≡ b || has_own id initialized xs
    by_test true more = refl
    by_test false more = more
