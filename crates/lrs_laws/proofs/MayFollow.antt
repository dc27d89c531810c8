-- What a session may say next stands in order behind what it said.
use Rattle.std.proofs.Common.{◌≡◌, ℕ, List, [], ◌∷◌, ◌++◌, Bool, true, false, not, ◌&&◌, ◌||◌, Some, None, cond, refl, sym, ap, subst, ◌∙◌, true≢false}
use Rattle.std.specs.Prelude.{if◌then◌else◌}
use Rattle.std.specs.List.{list_any}
use Rattle.std.specs.Cmp.Lexicographic.{same_text}
use Rattle.std.specs.Str.{bytes_eq}
use Rattle.std.specs.Cmp.{first_so, second_so}
use Rattle.std.proofs.lemmas.List.Elements.{filter-append}
use Rattle.std.proofs.lemmas.Bool.{and_from, or_left, or_right}
use Rattle.cmi5_course.specs.declared.launch.Launch.{Launch}
use Rattle.cmi5_launch.specs.Names.{completed, failed, initialized, passed, terminated}
use Rattle.cmi5_session.specs.Own.{has_own, is_cmi5_defined, is_of_session, says}
use Rattle.cmi5_session.specs.Rules.{broken_by_phase, broken_defined, broken_rule, verb_named}
use Rattle.cmi5_session.specs.Views.{SeenSession, view_of}
use Rattle.cmi5_session.specs.declared.phase.Phase.{Phase}
use Rattle.cmi5_session.specs.declared.phase.Phase.TheVariants as phase
use Rattle.lrs_json.specs.Json.{Json}
use Rattle.lrs_json.specs.View.{view}
use Rattle.lrs_laws.proofs.Keepers.{left_false, or_false, right_false}
use Rattle.lrs_laws.proofs.Permitted.{broken_as, permitted, spoken, unless_none}
use Rattle.lrs_laws.specs.Speaking.{are_in_order, goes_on, is_between, own_statements}
use Rattle.lrs_state.specs.State.{is_empty}
use Rattle.xapi_statement.specs.Statement.{verb_of}
use Rattle.xapi_statement.specs.Stored.{StoredStatement}

-- ---- what may stand

-- no verb of a session has another id
none_named : (id : List ℕ) → bytes_eq id initialized ≡ false → bytes_eq id completed ≡ false → bytes_eq id passed ≡ false → bytes_eq id failed ≡ false → bytes_eq id terminated ≡ false
    → verb_named id ≡ None
none_named id first second third fourth fifth = rw (first, second, third, fourth, fifth) refl

-- a session that has begun doesn't begin
begun_once : (v : SeenSession) (j : Json) → v.phase ≡ phase.Initialized → broken_defined v (verb_named initialized) j ≡ None → ⊥
begun_once v j at free =
    let begun : SeenSession = record v { phase = phase.Initialized } in
    let free_still : broken_defined begun (verb_named initialized) j ≡ None = sym (ap (λ p. broken_defined (record v { phase = p }) (verb_named initialized) j) at) ∙ free in
    let told : Some 12 ≡ None = (spoken begun j (broken_as begun initialized j) free_still).1 in
    cc told

-- it may stand behind initialized
abbrev MayStand : Json → Type 0
MayStand j = is_between j || says terminated j ≡ true

-- a session that has begun
said : (v : SeenSession) (j : Json) → v.phase ≡ phase.Initialized → (if is_cmi5_defined j then broken_defined v (verb_named (verb_of j)) j else None) ≡ None → MayStand j
said v j at free = by_defined (is_cmi5_defined j) refl free
  where
    undefined : Bool
    undefined = not (is_cmi5_defined j)

    stands : is_between j ≡ true → MayStand j
    stands is = or_left (is_between j) (says terminated j) is

    by_verb : (verb : List ℕ) → bytes_eq (verb_of j) verb ≡ true → is_cmi5_defined j ≡ true → says verb j ≡ true
    by_verb verb is defined = and_from (bytes_eq (verb_of j) verb) (is_cmi5_defined j) is defined

    by_id : (a b c d e : Bool) → bytes_eq (verb_of j) initialized ≡ a → bytes_eq (verb_of j) completed ≡ b → bytes_eq (verb_of j) passed ≡ c → bytes_eq (verb_of j) failed ≡ d → bytes_eq (verb_of j) terminated ≡ e
        → is_cmi5_defined j ≡ true → broken_defined v (verb_named (verb_of j)) j ≡ None → MayStand j
    by_id true b c d e is second third fourth fifth defined none =
        absurd (begun_once v j at (sym (ap (λ x. broken_defined v (verb_named x) j) (same_text (verb_of j) initialized (sym is))) ∙ none))
    by_id false true c d e first is third fourth fifth defined none =
        stands (or_left (undefined || says completed j || says passed j) (says failed j) (or_left (undefined || says completed j) (says passed j) (or_right undefined (says completed j) (by_verb completed is defined))))
    by_id false false true d e first second is fourth fifth defined none =
        stands (or_left (undefined || says completed j || says passed j) (says failed j) (or_right (undefined || says completed j) (says passed j) (by_verb passed is defined)))
    by_id false false false true e first second third is fifth defined none =
        stands (or_right (undefined || says completed j || says passed j) (says failed j) (by_verb failed is defined))
    by_id false false false false true first second third fourth is defined none = or_right (is_between j) (says terminated j) (by_verb terminated is defined)
    by_id false false false false false first second third fourth fifth defined none =
        let told : Some 8 ≡ None = sym (ap (λ o. broken_defined v o j) (none_named (verb_of j) first second third fourth fifth)) ∙ none in
        cc told

    by_defined : (b : Bool) → is_cmi5_defined j ≡ b → (if b then broken_defined v (verb_named (verb_of j)) j else None) ≡ None → MayStand j
    by_defined true defined none =
        by_id (bytes_eq (verb_of j) initialized) (bytes_eq (verb_of j) completed) (bytes_eq (verb_of j) passed) (bytes_eq (verb_of j) failed) (bytes_eq (verb_of j) terminated) refl refl refl refl refl defined none
    by_defined false other none =
        stands (or_left (undefined || says completed j || says passed j) (says failed j) (or_left (undefined || says completed j) (says passed j)
        (or_left undefined (says completed j) (ap (λ b. not b) other))))

-- ---- lists in order

abbrev one_says : List ℕ → List StoredStatement → Bool
one_says verb ss = list_any (λ (s : StoredStatement). says verb (view s.received)) ss

-- what a session said is among its own statements
own_says : (session verb : List ℕ) (ss : List StoredStatement) → has_own session verb ss ≡ one_says verb (own_statements session ss)
own_says session verb [] = refl
own_says session verb (s ∷ ss) = by_session (is_of_session session s.authority) (own_says session verb ss)
  where
    by_session : (b : Bool) → has_own session verb ss ≡ one_says verb (own_statements session ss)
        → (b && says verb (view s.received)) || has_own session verb ss ≡ one_says verb (cond b (s ∷ own_statements session ss) (own_statements session ss))
    by_session true same = ap (λ c. says verb (view s.received) || c) same
    by_session false same = same

none_said : (ss : List StoredStatement) → are_in_order ss ≡ true → one_says initialized ss ≡ false → ss ≡ []
none_said [] order none = refl
none_said (s ∷ ss) order none =
    absurd (true≢false (sym (first_so (says initialized (view s.received)) (goes_on ss) order) ∙ left_false (says initialized (view s.received)) (one_says initialized ss) none))

goes_after : (ss : List StoredStatement) (s : StoredStatement) → MayStand (view s.received) → one_says terminated ss ≡ false → goes_on ss ≡ true → goes_on (ss ++ s ∷ []) ≡ true
goes_after [] s may none on = by_end (says terminated (view s.received)) may
  where
    by_end : (b : Bool) → is_between (view s.received) || b ≡ true → (if b then is_empty {A = StoredStatement} [] else is_between (view s.received) && true) ≡ true
    by_end true is = refl
    by_end false is = and_from (is_between (view s.received)) true (sym (or_false (is_between (view s.received))) ∙ is) refl
goes_after (x ∷ ss) s may none on =
    by_end (says terminated (view x.received)) refl on (λ rest. goes_after ss s may (right_false (says terminated (view x.received)) (one_says terminated ss) none) rest)
  where
    by_end : (b : Bool) → says terminated (view x.received) ≡ b → (if b then is_empty ss else is_between (view x.received) && goes_on ss) ≡ true → (goes_on ss ≡ true → goes_on (ss ++ s ∷ []) ≡ true)
        → (if b then is_empty (ss ++ s ∷ []) else is_between (view x.received) && goes_on (ss ++ s ∷ [])) ≡ true
    by_end true ends at more = absurd (true≢false (sym ends ∙ left_false (says terminated (view x.received)) (one_says terminated ss) none))
    by_end false ends at more =
        and_from (is_between (view x.received)) (goes_on (ss ++ s ∷ [])) (first_so (is_between (view x.received)) (goes_on ss) at) (more (second_so (is_between (view x.received)) (goes_on ss) at))

order_after : (ss : List StoredStatement) (s : StoredStatement) → MayStand (view s.received) → one_says initialized ss ≡ true → one_says terminated ss ≡ false → are_in_order ss ≡ true → are_in_order (ss ++ s ∷ []) ≡ true
order_after [] s may begun none order = cc begun
order_after (x ∷ ss) s may begun none order =
    and_from (says initialized (view x.received)) (goes_on (ss ++ s ∷ [])) (first_so (says initialized (view x.received)) (goes_on ss) order)
    (goes_after ss s may (right_false (says terminated (view x.received)) (one_says terminated ss) none) (second_so (says initialized (view x.received)) (goes_on ss) order))

-- ---- a session's own statements

abbrev pub AreInOrder : List ℕ → List StoredStatement → Type 0
AreInOrder session statements = are_in_order (own_statements session statements) ≡ true

pub own_append : (session : List ℕ) (xs ys : List StoredStatement) → own_statements session (xs ++ ys) ≡ own_statements session xs ++ own_statements session ys
own_append session xs ys = filter-append (λ (s : StoredStatement). is_of_session session s.authority) xs ys

pub own_push : (session : List ℕ) (xs : List StoredStatement) (s : StoredStatement) (b : Bool) → is_of_session session s.authority ≡ b
    → own_statements session (xs ++ s ∷ []) ≡ own_statements session xs ++ cond b (s ∷ []) []
own_push session xs s b is = own_append session xs (s ∷ []) ∙ ap (λ c. own_statements session xs ++ cond c (s ∷ []) []) is

abbrev phase_by : Bool → Bool → Phase
phase_by ended begun = if ended then phase.Terminated else (if begun then phase.Initialized else phase.Fetched)

-- What the rules permit stands in order behind what was said.
pub follows : (l : Launch) (before : List StoredStatement) (s : StoredStatement) → is_of_session l.session s.authority ≡ true
    → broken_rule (view_of l true false before) (view s.received) ≡ None → AreInOrder l.session before → AreInOrder l.session (before ++ s ∷ [])
follows l before s own free order =
    subst (λ ss. are_in_order ss ≡ true) (sym (own_push l.session before s true own))
    (by_phase (has_own l.session terminated before) (has_own l.session initialized before) refl refl)
  where
    j : Json
    j = view s.received

    v : SeenSession
    v = view_of l true false before

    said_before : List StoredStatement
    said_before = own_statements l.session before

    phase_is : (ended begun : Bool) → has_own l.session terminated before ≡ ended → has_own l.session initialized before ≡ begun → v.phase ≡ phase_by ended begun
    phase_is ended begun is_ended is_begun = ap (λ b. phase_by b (has_own l.session initialized before)) is_ended ∙ ap (λ b. phase_by ended b) is_begun

    by_phase : (ended begun : Bool) → has_own l.session terminated before ≡ ended → has_own l.session initialized before ≡ begun → are_in_order (said_before ++ s ∷ []) ≡ true
    by_phase true begun is_ended is_begun =
        let told : Some 6 ≡ None = sym (ap (λ p. broken_by_phase p j) (phase_is true begun is_ended is_begun)) ∙ (permitted v j free).in_phase in
        cc told
    by_phase false true is_ended is_begun =
        order_after said_before s (said v j (phase_is false true is_ended is_begun) (permitted v j free).as_defined) (sym (own_says l.session initialized before) ∙ is_begun)
        (sym (own_says l.session terminated before) ∙ is_ended) order
    by_phase false false is_ended is_begun =
        let first : says initialized j ≡ true = unless_none (says initialized j) 7 (sym (ap (λ p. broken_by_phase p j) (phase_is false false is_ended is_begun)) ∙ (permitted v j free).in_phase) in
        ap (λ ss. are_in_order (ss ++ s ∷ [])) (none_said said_before order (sym (own_says l.session initialized before) ∙ is_begun)) ∙ and_from (says initialized j) true first refl
