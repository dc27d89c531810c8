-- That a node is satisfied is said once in a registration.
use Rattle.std.proofs.Common.{◌≡◌, ◌⊎◌, inl, inr, ℕ, ◌+◌, ◌<◌, ◌≤◌, ◌^◌, List, [], ◌∷◌, ◌++◌, length, Bool, true, false, ◌&&◌, Option, Some, None, refl, sym, ap, subst, ◌∙◌, arith}
use Rattle.std.specs.Prelude.{filter_map, if◌then◌else◌, option_map}
use Rattle.std.specs.List.{cons_option, list_any}
use Rattle.std.specs.Str.{bytes_eq}
use Rattle.std.specs.Cmp.Lexicographic.{same_text}
use Rattle.cmi5_course.specs.Courses.{node_at}
use Rattle.cmi5_course.specs.declared.course.Node.{Node}
use Rattle.cmi5_course.specs.declared.launch.Launch.{Launch}
use Rattle.cmi5_launch.specs.Made.{Saying, said_satisfied, saying_json}
use Rattle.cmi5_launch.specs.Names.{satisfied}
use Rattle.cmi5_session.specs.Counting.{counts}
use Rattle.cmi5_session.specs.Own.{is_cmi5_defined, says}
use Rattle.cmi5_session.specs.Rules.{broken_defined, verb_named}
use Rattle.cmi5_session.specs.Views.{SeenSession, view_of}
use Rattle.cmi5_verdict.specs.Nodes.{activity_of_node}
use Rattle.cmi5_verdict.specs.Units.{counts_among, was_said}
use Rattle.lrs_agents.specs.declared.agents.Agent.{Agent}
use Rattle.lrs_history.specs.Effects.{new_by}
use Rattle.lrs_history.specs.Enrolments.{Enrolled, enrolment_of, owed_behind}
use Rattle.lrs_history.specs.History.{ComesNext, state}
use Rattle.lrs_history.specs.Made.{made_under, owed_jsons, owed_made, satisfied_at, satisfied_json}
use Rattle.lrs_history.specs.Occasions.{Occasion, occasion}
use Rattle.lrs_history.specs.Refusals.{forbidden}
use Rattle.lrs_ids.specs.Ids.{Supply, rest_of}
use Rattle.lrs_json.proofs.SeenTrees.{seen_tree}
use Rattle.lrs_json.specs.Json.{Json}
use Rattle.lrs_json.specs.Trees.{tree_of}
use Rattle.lrs_json.specs.View.{view}
use Rattle.lrs_laws.proofs.Counting.{many, many-append, many_both, many_each, many_more, none_many}
use Rattle.lrs_laws.proofs.CourseSizes.{AreNumbered, IsNumbered, numbered_after}
use Rattle.lrs_laws.proofs.DeskStatements.{IsOfDesk, deeds, other_verb}
use Rattle.lrs_laws.proofs.Keepers.{left_false, right_false}
use Rattle.lrs_laws.proofs.Launched.{after_one}
use Rattle.lrs_laws.proofs.Lists.{each_at, each_weaker}
use Rattle.lrs_laws.proofs.OwedOnce.{is_that_node, owed_once}
use Rattle.lrs_laws.proofs.Permitted.{permitted}
use Rattle.lrs_laws.proofs.Registered.{IsEnrolled, all_ids, makes_ids}
use Rattle.lrs_laws.proofs.Walking.{KeptByDesk, KeptByOwed, KeptByWrites, NonePass, SpeaksIn, by_speaker, its_rule, kept_by_entry, none_pass, over_entries, undefined_outside, unopposed}
use Rattle.lrs_laws.specs.Verdicts.{SatisfiedOnce}
use Rattle.lrs_names.proofs.IdTexts.{id_of-id_text}
use Rattle.lrs_names.specs.Ids.{IsId, id_of, id_text}
use Rattle.lrs_state.specs.State.{State}
use Rattle.lrs_record.specs.declared.entry.Entry.{Entry}
use Rattle.xapi_format.specs.declared.authority.Authority.TheVariants.{Desk}
use Rattle.xapi_index.specs.Batches.{WithId, held_of}
use Rattle.xapi_statement.specs.Statements.{add_each, is_that_id}
use Rattle.xapi_statement.specs.Statement.{activity_of, registration_of, verb_of}
use Rattle.xapi_statement.specs.Stored.{StoredStatement}
use Rattle.xapi_values.specs.Kinds.{kind_of}

-- ---- what says so

abbrev pub says_so : List ℕ → List ℕ → StoredStatement → Bool
says_so registration activity s = counts registration activity satisfied (view s.received)

abbrev AtMostOnce : List ℕ → List ℕ → List StoredStatement → Type 0
AtMostOnce registration activity statements = many (says_so registration activity) statements ≤ 1

-- another verb says something else
says_other : (registration activity : List ℕ) (j : Json) → says satisfied j ≡ false → counts registration activity satisfied j ≡ false
says_other registration activity j other = ap (λ b. b && is_that_id registration (registration_of j) && is_that_id activity (activity_of j)) other

and_false : (b : Bool) → b && false ≡ false
and_false true = refl
and_false false = refl

none_more : (registration activity : List ℕ) (held xs : List StoredStatement) → NonePass (counts registration activity satisfied) xs → AtMostOnce registration activity held
    → AtMostOnce registration activity (add_each held xs)
none_more registration activity held xs others once =
    let none : many (says_so registration activity) xs ≡ 0 = none_many (says_so registration activity) xs others in
    let all : many (says_so registration activity) (add_each held xs) ≤ many (says_so registration activity) held + many (says_so registration activity) xs =
    many_each (says_so registration activity) held xs in
    let most : many (says_so registration activity) (add_each held xs) ≤ 1 = omega (arith, none, all, once) in
    most

-- ---- what callers say

-- a session may not say it
never_in_session : (st : State) (at : Occasion) (l : Launch) → SpeaksIn st at l → (before : List StoredStatement) (j : Json) → forbidden st at.by before j ≡ None → says satisfied j ≡ false
never_in_session st at l speaks before j free = by_defined (is_cmi5_defined j) (permitted v j (its_rule st at l before j speaks free)).as_defined
  where
    v : SeenSession
    v = view_of l true false before

    by_verb : (c : Bool) → bytes_eq (verb_of j) satisfied ≡ c → broken_defined v (verb_named (verb_of j)) j ≡ None → c && true ≡ false
    by_verb true is none =
        let told : Some 8 ≡ None = sym (ap (λ x. broken_defined v (verb_named x) j) (same_text (verb_of j) satisfied (sym is))) ∙ none in
        cc told
    by_verb false is none = refl

    by_defined : (b : Bool) → (if b then broken_defined v (verb_named (verb_of j)) j else None) ≡ None → bytes_eq (verb_of j) satisfied && b ≡ false
    by_defined true none = by_verb (bytes_eq (verb_of j) satisfied) refl none
    by_defined false none = and_false (bytes_eq (verb_of j) satisfied)

kept_by_writes : (registration activity : List ℕ) → KeptByWrites (AtMostOnce registration activity)
kept_by_writes registration activity st at ns met once =
    by_speaker (λ xs. AtMostOnce registration activity (add_each st.statements xs)) st at ns
    (λ admin outside. spoken (λ before j free. ap (λ b. bytes_eq (verb_of j) satisfied && b) (undefined_outside st at admin outside before j free) ∙ and_false (bytes_eq (verb_of j) satisfied)))
    (λ l speaks. spoken (never_in_session st at l speaks)) once
  where
    spoken : ((before : List StoredStatement) (j : Json) → forbidden st at.by before j ≡ None → says satisfied j ≡ false) → AtMostOnce registration activity (add_each st.statements (new_by st at.by at.moment ns))
    spoken never =
        none_more registration activity st.statements (new_by st at.by at.moment ns)
        (met (NonePass (counts registration activity satisfied))
        (none_pass (counts registration activity satisfied) st at (λ before j free. says_other registration activity j (never before j free))) tt) once

-- ---- what the store says of units and sessions

kept_by_deeds : (registration activity : List ℕ) → KeptByDesk deeds (AtMostOnce registration activity)
kept_by_deeds registration activity held ss each once =
    none_more registration activity held ss (each_weaker (IsOfDesk deeds) (λ (s : StoredStatement). counts registration activity satisfied (view s.received) ≡ false) other ss each) once
  where
    other : (s : StoredStatement) → IsOfDesk deeds s → counts registration activity satisfied (view s.received) ≡ false
    other s of = says_other registration activity (view s.received) (ap (λ b. b && is_cmi5_defined (view s.received)) (other_verb deeds s satisfied of refl))

-- ---- what it says of nodes

pub registration_said : (s : Saying) (actor : Agent) (activity publisher registration session : List ℕ) → registration_of (saying_json s actor activity publisher registration session) ≡ id_of (id_text registration)
unfolding registration_of
registration_said s actor activity publisher registration session = refl

pub activity_said : (s : Saying) (actor : Agent) (activity publisher registration session : List ℕ) → activity_of (saying_json s actor activity publisher registration session) ≡ Some activity
unfolding activity_of kind_of
activity_said s actor activity publisher registration session = refl

last_two : (a b c : Bool) → a && b && c ≡ true → b && c ≡ true
last_two true b c is = is
last_two false b c is = cc is

module _ (e : Enrolled) (is_id : IsId e.registration.id) (session registration activity : List ℕ) where
  abbrev is_it : ℕ → Bool
  is_it = is_that_node (enrolment_of e) registration activity

  -- what is said of a node is said of that one
  of_that_node : (index : ℕ) (node : Node) → counts registration activity satisfied (view (tree_of (satisfied_json e session index node))) ≡ true → is_it index ≡ true
  of_that_node index node is = last_two (says satisfied j) (bytes_eq e.registration.id registration) (bytes_eq own activity) (sym named ∙ is)
    where
      own : List ℕ
      own = activity_of_node (enrolment_of e) index

      said : Json
      said = satisfied_json e session index node

      j : Json
      j = view (tree_of said)

      registered : registration_of j ≡ Some e.registration.id
      registered = ap registration_of (seen_tree said) ∙ (registration_said (said_satisfied node.kind) e.registration.actor own node.id e.registration.id session ∙ id_of-id_text e.registration.id is_id)

      about : activity_of j ≡ Some own
      about = ap activity_of (seen_tree said) ∙ activity_said (said_satisfied node.kind) e.registration.actor own node.id e.registration.id session

      named : counts registration activity satisfied j ≡ says satisfied j && bytes_eq e.registration.id registration && bytes_eq own activity
      named =
          ap (λ o. says satisfied j && is_that_id registration o && is_that_id activity (activity_of j)) registered
          ∙ ap (λ o. says satisfied j && bytes_eq e.registration.id registration && is_that_id activity o) about

  -- so no more of them say so than there are such nodes
  said_of_nodes : (supply : Supply) (moment : ℕ) (indices : List ℕ)
      → many (says_so registration activity) (made_under supply moment (filter_map (satisfied_at e session) indices)) ≤ many is_it indices
  said_of_nodes supply moment [] = let none : 0 ≤ 0 = omega arith in none
  said_of_nodes supply moment (index ∷ indices) = by_node (node_at index e.edition.course) (λ later. said_of_nodes later moment indices)
    where
      rest : List Json
      rest = filter_map (satisfied_at e session) indices

      by_node : (o : Option Node) → ((later : Supply) → many (says_so registration activity) (made_under later moment rest) ≤ many is_it indices)
          → many (says_so registration activity) (made_under supply moment (cons_option (option_map (satisfied_json e session index) o) rest)) ≤ many is_it (index ∷ indices)
      by_node None fewer = many_more (says_so registration activity) is_it index (made_under supply moment rest) indices (fewer supply)
      by_node (Some node) fewer =
          let n : WithId = record { id = supply 0; tree = tree_of (satisfied_json e session index node) } in
          many_both (says_so registration activity) is_it (held_of moment Desk n) index (made_under (rest_of supply) moment rest) indices (of_that_node index node) (fewer (rest_of supply))

-- what was never said none of them says
first_false : (b : Bool) → b && true ≡ false → b ≡ false
first_false true is = is
first_false false is = refl

none_said : (registration activity : List ℕ) (all ss : List StoredStatement) → list_any (counts_among true all registration activity satisfied) ss ≡ false → NonePass (counts registration activity satisfied) ss
none_said registration activity all [] none = tt
none_said registration activity all (s ∷ ss) none = (
  first_false (counts registration activity satisfied (view s.received))
      (left_false (counts_among true all registration activity satisfied s) (list_any (counts_among true all registration activity satisfied) ss) none),
  none_said registration activity all ss (right_false (counts_among true all registration activity satisfied s) (list_any (counts_among true all registration activity satisfied) ss) none),
)

kept_by_owed : (registration activity : List ℕ) (st : State) → AreNumbered st.editions → KeptByOwed st (AtMostOnce registration activity)
kept_by_owed registration activity st numbered new owed owes once =
    subst (λ xs. AtMostOnce registration activity (add_each (add_each st.statements new) xs)) (sym owes.are) (by_whose owes.whose owes.known)
  where
    so : StoredStatement → Bool
    so = says_so registration activity

    added : (made : List StoredStatement) (due : ℕ) → many so made ≤ due → (due ≡ 0) ⊎ ((due ≤ 1) × (was_said (st.statements ++ new) registration activity satisfied ≡ false)) → many so (add_each (add_each st.statements new) made) ≤ 1
    added made due fewer (inl none) =
        let all : many so (add_each (add_each st.statements new) made) ≤ many so (add_each st.statements new) + many so made = many_each so (add_each st.statements new) made in
        let so_far : many so (add_each st.statements new) ≤ 1 = once in
        omega (arith, all, so_far, fewer, none)
    added made due fewer (inr found) =
        let all : many so (add_each (add_each st.statements new) made) ≤ many so (add_each st.statements new) + many so made = many_each so (add_each st.statements new) made in
        let both : many so (add_each st.statements new) ≤ many so st.statements + many so new = many_each so st.statements new in
        let whole : many so (st.statements ++ new) ≡ many so st.statements + many so new = many-append so st.statements new in
        let none : many so (st.statements ++ new) ≡ 0 = none_many so (st.statements ++ new) (none_said registration activity (st.statements ++ new) (st.statements ++ new) found.1) in
        omega (arith, all, both, whole, none, fewer, found.0)

    by_whose : (o : Option Enrolled) → IsEnrolled st o → AtMostOnce registration activity (add_each (add_each st.statements new) (owed_made st owes.session owes.supply owes.moment new o))
    by_whose None known = once
    by_whose (Some e) known =
        let few : length e.edition.course.nodes < 2 ^ 32 = each_at IsNumbered st.editions e.registration.edition e.edition numbered known.1 in
        added (made_under owes.supply owes.moment (owed_jsons st owes.session new e)) (many (is_that_node (enrolment_of e) registration activity) (owed_behind st new e))
        (said_of_nodes e known.0 owes.session registration activity owes.supply owes.moment (owed_behind st new e)) (owed_once (enrolment_of e) (st.statements ++ new) registration activity few)

-- ---- the law

-- over a history whose courses are numbered, which each of its entries keeps
abbrev OnceAfter : List ℕ → List ℕ → List Entry → Type 0
OnceAfter registration activity h = AreNumbered (state h).editions × AtMostOnce registration activity (state h).statements

pub satisfied_once : SatisfiedOnce
satisfied_once limit h registration activity legal =
    (over_entries limit (OnceAfter registration activity) (tt, let none : 0 ≤ 1 = omega arith in none) step h legal).1
  where
    step : (g : List Entry) (e : Entry) → ComesNext limit g e → OnceAfter registration activity g → OnceAfter registration activity (g ++ e ∷ [])
    step g e next so_far = let st : State = state g in (
      numbered_after limit g e next so_far.0,
      subst (λ (su : State). AtMostOnce registration activity su.statements) (sym (after_one g e))
          (kept_by_entry (AtMostOnce registration activity) (kept_by_writes registration activity) (kept_by_deeds registration activity) st (kept_by_owed registration activity st so_far.0) so_far.1 (occasion st e) e.write
          (all_ids g) (makes_ids st e) (unopposed limit g e next)),
    )
