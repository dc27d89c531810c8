-- An id names one statement, for good.
use Rattle.std.proofs.Common.{◌≡◌, ℕ, List, [], ◌∷◌, ◌++◌, Bool, true, false, not, ◌&&◌, ◌||◌, Option, Some, cond, refl, sym, ap, ◌∙◌}
use Rattle.std.specs.Prelude.{is_some, if◌then◌else◌}
use Rattle.std.specs.Option.{option_or}
use Rattle.std.specs.Str.{bytes_eq}
use Rattle.std.proofs.lemmas.Cmp.{nat_list_eq_equiv}
use Rattle.std.proofs.lemmas.List.{map-append}
use Rattle.std.proofs.lemmas.List.Folds.{find-append, list_any-append}
use Rattle.lrs_json.specs.View.{view}
use Rattle.lrs_names.specs.Members.{is_one_of}
use Rattle.lrs_record.specs.declared.entry.Entry.{Entry}
use Rattle.xapi_rules.specs.Rules.{is_voiding}
use Rattle.xapi_statement.specs.Stored.{StoredStatement}
use Rattle.lrs_history.specs.Effects.{effect}
use Rattle.lrs_history.specs.History.{state, state_from, step}
use Rattle.lrs_state.specs.State.{State, nothing}
use Rattle.lrs_ids.specs.Ids.{are_distinct}
use Rattle.xapi_statement.specs.Statements.{add, add_each, held_under, ids_of, is_held, is_target, is_voided, voids}
use Rattle.lrs_laws.specs.Laws.{NamesForGood, NamesOne, StaysVoided}

-- ---- one list

held_cond : (b : Bool) (x : StoredStatement) (o : Option StoredStatement) → is_some (cond b (Some x) o) ≡ b || is_some o
held_cond true x o = refl
held_cond false x o = refl

-- an id is held where it is one of the ids
pub held_one : (id : List ℕ) (held : List StoredStatement) → is_held id held ≡ is_one_of (ids_of held) id
held_one id [] = refl
held_one id (x ∷ held) = held_cond (bytes_eq x.id id) x (held_under id held) ∙ ap (λ b. bytes_eq x.id id || b) (held_one id held)

pub or_false : (b : Bool) → b || false ≡ b
or_false true = refl
or_false false = refl

pub left_false : (a b : Bool) → a || b ≡ false → a ≡ false
left_false true b is = is
left_false false b is = refl

pub right_false : (a b : Bool) → a || b ≡ false → b ≡ false
right_false true b is = cc is
right_false false b is = is

-- one more that is none of them
pub distinct_push : (ids : List (List ℕ)) (id : List ℕ) → is_one_of ids id ≡ false → are_distinct (ids ++ id ∷ []) ≡ are_distinct ids
distinct_push [] id is = refl
distinct_push (x ∷ ids) id is =
    ap (λ b. not b && are_distinct (ids ++ id ∷ []))
    (list_any-append (λ name. bytes_eq name x) ids (id ∷ [])
    ∙ (ap (λ b. is_one_of ids x || b) (or_false (bytes_eq id x) ∙ (nat_list_eq_equiv.symm id x ∙ left_false (bytes_eq x id) (is_one_of ids id) is)) ∙ or_false (is_one_of ids x)))
    ∙ ap (λ b. not (is_one_of ids x) && b) (distinct_push ids id (right_false (bytes_eq x id) (is_one_of ids id) is))

-- ---- one statement more

pub distinct_add : (held : List StoredStatement) (s : StoredStatement) → are_distinct (ids_of held) ≡ true → are_distinct (ids_of (add held s)) ≡ true
distinct_add held s is = by_held (is_held s.id held) refl
  where
    by_held : (b : Bool) → is_held s.id held ≡ b → are_distinct (ids_of (if b then held else held ++ s ∷ [])) ≡ true
    by_held true there = is
    by_held false new =
        ap are_distinct (map-append (λ (x : StoredStatement). x.id) held (s ∷ [])) ∙ (distinct_push (ids_of held) s.id (sym (held_one s.id held) ∙ new) ∙ is)

pub stays_behind : (id : List ℕ) (held more : List StoredStatement) (x : StoredStatement) → held_under id held ≡ Some x → held_under id (held ++ more) ≡ Some x
stays_behind id held more x is = find-append (λ (s : StoredStatement). bytes_eq s.id id) held more ∙ ap (λ o. option_or o (held_under id more)) is

stays_add : (id : List ℕ) (held : List StoredStatement) (s x : StoredStatement) → held_under id held ≡ Some x → held_under id (add held s) ≡ Some x
stays_add id held s x is = by_held (is_held s.id held)
  where
    by_held : (b : Bool) → held_under id (if b then held else held ++ s ∷ []) ≡ Some x
    by_held true = is
    by_held false = stays_behind id held (s ∷ []) x is

target_add : (id : List ℕ) (held : List StoredStatement) (s : StoredStatement) → is_target id held ≡ true → is_target id (add held s) ≡ true
target_add id held s is = by_held (is_held s.id held)
  where
    by_held : (b : Bool) → is_target id (if b then held else held ++ s ∷ []) ≡ true
    by_held true = is
    by_held false = list_any-append (voids id) held (s ∷ []) ∙ ap (λ b. b || is_target id (s ∷ [])) is

-- ---- more statements

pub distinct_each : (held more : List StoredStatement) → are_distinct (ids_of held) ≡ true → are_distinct (ids_of (add_each held more)) ≡ true
distinct_each held [] is = is
distinct_each held (s ∷ more) is = distinct_each (add held s) more (distinct_add held s is)

pub stays_each : (id : List ℕ) (held more : List StoredStatement) (x : StoredStatement) → held_under id held ≡ Some x → held_under id (add_each held more) ≡ Some x
stays_each id held [] x is = is
stays_each id held (s ∷ more) x is = stays_each id (add held s) more x (stays_add id held s x is)

target_each : (id : List ℕ) (held more : List StoredStatement) → is_target id held ≡ true → is_target id (add_each held more) ≡ true
target_each id held [] is = is
target_each id held (s ∷ more) is = target_each id (add held s) more (target_add id held s is)

-- ---- more entries

distinct_from : (st : State) (h : List Entry) → are_distinct (ids_of st.statements) ≡ true → are_distinct (ids_of (state_from st h).statements) ≡ true
distinct_from st [] is = is
distinct_from st (e ∷ h) is = distinct_from (step st e) h (distinct_each st.statements (effect st e).statements is)

stays_from : (st : State) (h : List Entry) (id : List ℕ) (x : StoredStatement) → held_under id st.statements ≡ Some x → held_under id (state_from st h).statements ≡ Some x
stays_from st [] id x is = is
stays_from st (e ∷ h) id x is = stays_from (step st e) h id x (stays_each id st.statements (effect st e).statements x is)

target_from : (st : State) (h : List Entry) (id : List ℕ) → is_target id st.statements ≡ true → is_target id (state_from st h).statements ≡ true
target_from st [] id is = is
target_from st (e ∷ h) id is = target_from (step st e) h id (target_each id st.statements (effect st e).statements is)

pub state_from-append : (st : State) (h more : List Entry) → state_from st (h ++ more) ≡ state_from (state_from st h) more
state_from-append st [] more = refl
state_from-append st (e ∷ h) more = state_from-append (step st e) h more

-- ---- the laws

pub names_one : NamesOne
names_one h = distinct_from nothing h refl

pub names_for_good : NamesForGood
names_for_good h more id s is = ap (λ st. held_under id st.statements) (state_from-append nothing h more) ∙ stays_from (state h) more id s is

voided_still : (b old new : Bool) → (old ≡ true → new ≡ true) → not b && old ≡ true → not b && new ≡ true
voided_still true old new still is = is
voided_still false old new still is = still is

pub stays_voided : StaysVoided
stays_voided h more s is =
    ap (λ st. is_voided st.statements s) (state_from-append nothing h more)
    ∙ voided_still (is_voiding (view s.received)) (is_target s.id (state h).statements) (is_target s.id (state_from (state h) more).statements) (target_from (state h) more s.id) is
