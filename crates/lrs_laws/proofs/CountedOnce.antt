-- That a unit was completed, and that it was passed, counts once in a registration.
use Rattle.std.proofs.Common.{◌≡◌, ℕ, List, [], ◌∷◌, ◌++◌, Bool, true, false, not, ◌&&◌, ◌||◌, Option, Some, None, refl, sym, ap, subst, ◌∙◌, append_assoc, append-nil}
use Rattle.std.specs.Prelude.{codes, if◌then◌else◌}
use Rattle.std.specs.List.{list_any}
use Rattle.std.specs.Option.{option_map_or}
use Rattle.std.specs.Str.{bytes_eq}
use Rattle.std.specs.Cmp.Lexicographic.{same_text}
use Rattle.std.specs.Cmp.{first_so, second_so}
use Rattle.std.proofs.lemmas.List.Folds.{list_any-append}
use Rattle.std.proofs.lemmas.Bool.{and_from}
use Rattle.cmi5_course.specs.declared.launch.Launch.{Launch}
use Rattle.cmi5_launch.specs.Names.{completed, move_on_category, passed}
use Rattle.cmi5_session.specs.Counting.{counts}
use Rattle.cmi5_session.specs.Own.{is_cmi5_defined, says}
use Rattle.cmi5_session.specs.Rules.{begins_again, broken_by_values, broken_defined, broken_rule, is_normal, tells_result, verb_named}
use Rattle.cmi5_session.specs.Views.{SeenSession, counts_still, has_counting, view_of}
use Rattle.lrs_history.specs.Effects.{new_by}
use Rattle.lrs_history.specs.Occasions.{Occasion}
use Rattle.lrs_history.specs.Refusals.{forbidden}
use Rattle.lrs_ids.specs.Choices.{first_some, when}
use Rattle.lrs_json.specs.Json.{Json}
use Rattle.lrs_json.specs.View.{view}
use Rattle.lrs_laws.proofs.Again.{no_reason}
use Rattle.lrs_laws.proofs.DeskStatements.{IsOfDesk, other_verb, own_verbs}
use Rattle.lrs_laws.proofs.Keepers.{left_false, or_false, right_false}
use Rattle.lrs_laws.proofs.Lists.{each_weaker}
use Rattle.lrs_laws.proofs.Permitted.{broken_as, permitted, spoken, when_none}
use Rattle.lrs_laws.proofs.Walking.{KeptByDesk, KeptByWrites, NonePass, SpeaksIn, Steps, by_speaker, its_new, its_rule, none_pass, over_legal, undefined_outside}
use Rattle.lrs_laws.specs.Speaking.{ResultsCountOnce, count_once, counts_again}
use Rattle.lrs_names.specs.Members.{is_one_of}
use Rattle.lrs_state.specs.State.{State}
use Rattle.xapi_format.specs.declared.authority.Authority.TheVariants.{Session}
use Rattle.xapi_index.specs.Batches.{held_of}
use Rattle.xapi_index.proofs.Adding.{add_each-append}
use Rattle.xapi_statement.specs.Statements.{add, add_each, is_held, is_target, is_that_id, voids}
use Rattle.xapi_rules.specs.Rules.{is_voiding}
use Rattle.xapi_statement.specs.Statement.{activity_of, has_context_activity, registration_of, target_of, verb_of}
use Rattle.xapi_statement.specs.Stored.{StoredStatement}

-- ---- one list

abbrev CountsOnce : Launch → List ℕ → List StoredStatement → Type 0
CountsOnce launch verb statements = count_once launch verb [] statements ≡ true

once_push : (launch : Launch) (verb : List ℕ) (before ss : List StoredStatement) (s : StoredStatement) → count_once launch verb before ss ≡ true → counts_again launch verb (before ++ ss) s ≡ false
    → count_once launch verb before (ss ++ s ∷ []) ≡ true
once_push launch verb before [] s once new =
    and_from (not (counts_again launch verb before s)) true (ap (λ b. not b) (sym (ap (λ l. counts_again launch verb l s) (append-nil before)) ∙ new)) refl
once_push launch verb before (x ∷ ss) s once new =
    and_from (not (counts_again launch verb before x)) (count_once launch verb (before ++ x ∷ []) (ss ++ s ∷ []))
    (first_so (not (counts_again launch verb before x)) (count_once launch verb (before ++ x ∷ []) ss) once)
    (once_push launch verb (before ++ x ∷ []) ss s (second_so (not (counts_again launch verb before x)) (count_once launch verb (before ++ x ∷ []) ss) once)
    (ap (λ l. counts_again launch verb l s) (append_assoc before (x ∷ []) ss) ∙ new))

-- none of these counts
abbrev NoneCounts : Launch → List ℕ → List StoredStatement → Type 0
NoneCounts launch verb statements = NonePass (counts launch.registration launch.activity verb) statements

once_each : (launch : Launch) (verb : List ℕ) (held xs : List StoredStatement) → NoneCounts launch verb xs → CountsOnce launch verb held → CountsOnce launch verb (add_each held xs)
once_each launch verb held [] others once = once
once_each launch verb held (x ∷ xs) others once = once_each launch verb (add held x) xs others.1 (by_held (is_held x.id held))
  where
    by_held : (b : Bool) → CountsOnce launch verb (if b then held else held ++ x ∷ [])
    by_held true = once
    by_held false = once_push launch verb [] held x once (ap (λ b. b && has_counting launch verb held) others.0)

-- ---- a list with fewer statements

-- The new list has none that the old one hasn't, and what the old one voids it voids, too.
record Fewer (old new : List StoredStatement) : Type 0 where
  pub none : (p : StoredStatement → Bool) → list_any p old ≡ false → list_any p new ≡ false
  pub targets : (id : List ℕ) → is_target id new ≡ is_target id old

not_fewer : (held : List StoredStatement) → Fewer held held
not_fewer held = record { none = λ p is. is; targets = λ id. refl }

fewer_skip : (old new : List StoredStatement) (x : StoredStatement) → is_voiding (view x.received) ≡ false → Fewer old new → Fewer (old ++ x ∷ []) new
fewer_skip old new x voids_none fewer = record {
  none = λ p is. fewer.none p (left_false (list_any p old) (list_any p (x ∷ [])) (sym (list_any-append p old (x ∷ [])) ∙ is));
  targets = λ id. fewer.targets id
      ∙ (sym (or_false (is_target id old)) ∙ (ap (λ b. is_target id old || (is_that_id id (if b then target_of (view x.received) else None) || false)) (sym voids_none)
      ∙ sym (list_any-append (voids id) old (x ∷ []))));
}

fewer_push : (old new : List StoredStatement) (x : StoredStatement) → Fewer old new → Fewer (old ++ x ∷ []) (new ++ x ∷ [])
fewer_push old new x fewer = record {
  none = λ p is.
      let both : list_any p old || list_any p (x ∷ []) ≡ false = sym (list_any-append p old (x ∷ [])) ∙ is in
      list_any-append p new (x ∷ [])
      ∙ (ap (λ b. b || list_any p (x ∷ [])) (fewer.none p (left_false (list_any p old) (list_any p (x ∷ [])) both)) ∙ right_false (list_any p old) (list_any p (x ∷ [])) both);
  targets = λ id. list_any-append (voids id) new (x ∷ []) ∙ (ap (λ b. b || is_target id (x ∷ [])) (fewer.targets id) ∙ sym (list_any-append (voids id) old (x ∷ [])));
}

same_tests : (p q : StoredStatement → Bool) → ((x : StoredStatement) → p x ≡ q x) → (xs : List StoredStatement) → list_any p xs ≡ list_any q xs
same_tests p q same [] = refl
same_tests p q same (x ∷ xs) = ap (λ b. b || list_any p xs) (same x) ∙ ap (λ b. q x || b) (same_tests p q same xs)

-- none counts still where none did
none_still : (launch : Launch) (verb : List ℕ) (old new : List StoredStatement) → Fewer old new → has_counting launch verb old ≡ false → has_counting launch verb new ≡ false
none_still launch verb old new fewer none =
    same_tests (counts_still launch verb new) (counts_still launch verb old)
    (λ x. ap (λ b. counts launch.registration launch.activity verb (view x.received) && not (not (is_voiding (view x.received)) && b)) (fewer.targets x.id)) new
    ∙ fewer.none (counts_still launch verb old) none

-- ---- what the rules permit

-- Behind the mode, the category and what the result tells comes the rule that it counts once.
one_result : (v : SeenSession) (j : Json) (begins tells again : Bool) (number : ℕ) (values : Option ℕ)
    → first_some (when begins 12
    ∷ when (not (is_normal v.launch.mode)) 13
    ∷ when (not (has_context_activity (codes "category") move_on_category j)) 14
    ∷ when (not tells) 15
    ∷ when again number
    ∷ values ∷ []) ≡ None → again ≡ false
one_result v j begins tells again number values free =
    let each = no_reason (when begins 12
    ∷ when (not (is_normal v.launch.mode)) 13
    ∷ when (not (has_context_activity (codes "category") move_on_category j)) 14
    ∷ when (not tells) 15
    ∷ when again number
    ∷ values ∷ []) free in
    when_none again number each.1.1.1.1.0

abbrev begins_as : SeenSession → List ℕ → Bool
begins_as v verb = option_map_or (begins_again v.phase) (verb_named verb) false

abbrev tells_as : List ℕ → Json → Bool
tells_as verb j = option_map_or tells_result (verb_named verb) (λ x. true) j

abbrev values_as : SeenSession → List ℕ → Json → Option ℕ
values_as v verb j = option_map_or (broken_by_values v.launch.mastery) (verb_named verb) (λ x. None) j

-- the id of a verb whose statements count once
record IsResult (id : List ℕ) : Type 0 where
  pub about : (v : SeenSession) (j : Json) → broken_defined v (verb_named id) j ≡ None → is_that_id v.launch.activity (activity_of j) ≡ true
  pub first : (l : Launch) (before : List StoredStatement) (j : Json) → broken_defined (view_of l true false before) (verb_named id) j ≡ None → has_counting l id before ≡ false
  pub other : is_one_of own_verbs id ≡ false

completed_counts : IsResult completed
completed_counts = record {
  about = λ v j free. (spoken v j (broken_as v completed j) free).0;
  first = λ l before j free.
      let v : SeenSession = view_of l true false before in
      one_result v j (begins_as v completed) (tells_as completed j) v.completed 16 (values_as v completed j) (spoken v j (broken_as v completed j) free).1;
  other = refl;
}

passed_counts : IsResult passed
passed_counts = record {
  about = λ v j free. (spoken v j (broken_as v passed j) free).0;
  first = λ l before j free.
      let v : SeenSession = view_of l true false before in
      one_result v j (begins_as v passed) (tells_as passed j) v.passed 17 (values_as v passed j) (spoken v j (broken_as v passed j) free).1;
  other = refl;
}

same_id : (a b : List ℕ) (o : Option (List ℕ)) → is_that_id a o ≡ true → is_that_id b o ≡ true → a ≡ b
same_id a b None here there = cc here
same_id a b (Some id) here there = sym (same_text id a (sym here)) ∙ same_text id b (sym there)

-- what counts for a registration and an activity
abbrev counting_in : List ℕ → List ℕ → List ℕ → List StoredStatement → Bool
counting_in registration activity id ss =
    list_any (λ (s : StoredStatement).
    counts registration activity id (view s.received)
    && not (not (is_voiding (view s.received)) && is_target s.id ss)) ss

same_counting : (launch l : Launch) (id : List ℕ) (ss : List StoredStatement) → launch.registration ≡ l.registration → launch.activity ≡ l.activity → has_counting launch id ss ≡ has_counting l id ss
same_counting launch l id ss registration activity = ap (λ r. counting_in r launch.activity id ss) registration ∙ ap (λ a. counting_in l.registration a id ss) activity

-- what counts is permitted where none counts still
counts_first : (id : List ℕ) → IsResult id → (launch l : Launch) (before : List StoredStatement) (j : Json) → broken_rule (view_of l true false before) j ≡ None → counts launch.registration launch.activity id j ≡ true
    → has_counting launch id before ≡ false
counts_first id result launch l before j free is =
    let v : SeenSession = view_of l true false before in
    let is_verb : Bool = bytes_eq (verb_of j) id in
    let registered : Bool = is_that_id launch.registration (registration_of j) in
    let about : Bool = is_that_id launch.activity (activity_of j) in
    let said : Bool = says id j in
    let registered_too : said && registered ≡ true = first_so (said && registered) about is in
    let said_so : said ≡ true = first_so said registered registered_too in
    let defined : is_cmi5_defined j ≡ true = second_so is_verb (is_cmi5_defined j) said_so in
    let same : verb_of j ≡ id = same_text (verb_of j) id (sym (first_so is_verb (is_cmi5_defined j) said_so)) in
    let asked = permitted v j free in
    let as_verb : broken_defined v (verb_named id) j ≡ None =
    sym (ap (λ b. if b then broken_defined v (verb_named (verb_of j)) j else None) defined ∙ ap (λ x. broken_defined v (verb_named x) j) same) ∙ asked.as_defined in
    same_counting launch l id before (same_id launch.registration l.registration (registration_of j) (second_so said registered registered_too) asked.registered)
    (same_id launch.activity l.activity (activity_of j) (second_so (said && registered) about is) (result.about v j as_verb))
    ∙ result.first l before j as_verb

-- ---- what a session says

-- Of the statements that are held with the new ones so far none is missing where they are looked at, and results count
-- once among them.
abbrev Counted : State → Launch → List ℕ → List StoredStatement → Type 0
Counted st launch id more = Fewer (st.statements ++ more) (add_each st.statements more) × CountsOnce launch id (add_each st.statements more)

counted_next : (id : List ℕ) → IsResult id → (launch : Launch) (st : State) (at : Occasion) (l : Launch) → SpeaksIn st at l → Steps st at (Counted st launch id)
counted_next id result launch st at l speaks more n free so_far =
    subst (λ xs. Counted st launch id (more ++ xs)) (sym (its_new st at l n speaks)) (by_held (is_held n.id st.statements))
  where
    x : StoredStatement
    x = held_of at.moment (Session l.session) n

    before : List StoredStatement
    before = st.statements ++ more

    now : List StoredStatement
    now = add_each st.statements more

    asked : broken_rule (view_of l true false before) (view n.tree) ≡ None
    asked = its_rule st at l before (view n.tree) speaks free

    voids_none : is_voiding (view n.tree) ≡ false
    voids_none = (permitted (view_of l true false before) (view n.tree) asked).voids_none

    new : (b : Bool) → counts launch.registration launch.activity id (view n.tree) ≡ b → b && has_counting launch id now ≡ false
    new true is = none_still launch id before now so_far.0 (counts_first id result launch l before (view n.tree) asked is)
    new false is = refl

    by_again : (b : Bool) → Fewer (before ++ x ∷ []) (if b then now else now ++ x ∷ []) × CountsOnce launch id (if b then now else now ++ x ∷ [])
    by_again true = (fewer_skip before now x voids_none so_far.0, so_far.1)
    by_again false = (fewer_push before now x so_far.0, once_push launch id [] now x so_far.1 (new (counts launch.registration launch.activity id (view n.tree)) refl))

    by_held : (b : Bool) → Counted st launch id (more ++ (if b then [] else x ∷ []))
    by_held true = subst (Counted st launch id) (sym (append-nil more)) so_far
    by_held false =
        subst (λ old. Fewer old (add_each st.statements (more ++ x ∷ [])) × CountsOnce launch id (add_each st.statements (more ++ x ∷ []))) (append_assoc st.statements more (x ∷ []))
        (subst (λ held. Fewer (before ++ x ∷ []) held × CountsOnce launch id held) (sym (add_each-append st.statements more (x ∷ []))) (by_again (is_held x.id now)))

-- ---- what others say

and_false : (b : Bool) → b && false ≡ false
and_false true = refl
and_false false = refl

-- a caller who is no session says nothing that counts
none_next : (launch : Launch) (id : List ℕ) (st : State) (at : Occasion) → ((before : List StoredStatement) (j : Json) → forbidden st at.by before j ≡ None → is_cmi5_defined j ≡ false)
    → Steps st at (NoneCounts launch id)
none_next launch id st at undefined =
    none_pass (counts launch.registration launch.activity id) st at
    (λ before j free.
    let is_verb : Bool = bytes_eq (verb_of j) id in
    ap (λ b. b && is_that_id launch.registration (registration_of j) && is_that_id launch.activity (activity_of j)) (ap (λ b. is_verb && b) (undefined before j free) ∙ and_false is_verb))

-- ---- the law

kept_by_writes : (id : List ℕ) → IsResult id → (launch : Launch) → KeptByWrites (CountsOnce launch id)
kept_by_writes id result launch st at ns met once =
    by_speaker (λ xs. CountsOnce launch id (add_each st.statements xs)) st at ns
    (λ admin outside. once_each launch id st.statements (new_by st at.by at.moment ns) (met (NoneCounts launch id) (none_next launch id st at (undefined_outside st at admin outside)) tt) once)
    (λ l speaks. (met (Counted st launch id) (counted_next id result launch st at l speaks) so_far).1) once
  where
    so_far : Counted st launch id []
    so_far = (subst (λ old. Fewer old st.statements) (sym (append-nil st.statements)) (not_fewer st.statements), once)

-- what the store says of its own has other verbs
kept_by_desk : (id : List ℕ) → IsResult id → (launch : Launch) → KeptByDesk own_verbs (CountsOnce launch id)
kept_by_desk id result launch held ss each once = once_each launch id held ss (each_weaker (IsOfDesk own_verbs) (λ (s : StoredStatement). counts launch.registration launch.activity id (view s.received) ≡ false) other ss each) once
  where
    other : (s : StoredStatement) → IsOfDesk own_verbs s → counts launch.registration launch.activity id (view s.received) ≡ false
    other s is =
        let j : Json = view s.received in
        let registered : Bool = is_that_id launch.registration (registration_of j) in
        let about : Bool = is_that_id launch.activity (activity_of j) in
        ap (λ b. b && is_cmi5_defined j && registered && about) (other_verb own_verbs s id is result.other)

pub results_count_once : ResultsCountOnce
results_count_once limit h launch legal = (
  over_legal (CountsOnce launch completed) (kept_by_writes completed completed_counts launch) (kept_by_desk completed completed_counts launch) refl limit h legal,
  over_legal (CountsOnce launch passed) (kept_by_writes passed passed_counts launch) (kept_by_desk passed passed_counts launch) refl limit h legal,
)
