-- Of a registration that was settled before an entry nothing is owed behind it.
use Rattle.std.proofs.Common.{◌≡◌, ℕ, suc, ◌+◌, ◌%◌, ◌<◌, ◌≤◌, ◌^◌, List, [], ◌∷◌, ◌++◌, length, Bool, true, false, not, Option, Some, None, refl, sym, ap, subst, ◌∙◌, arith}
use Rattle.std.specs.Prelude.{nat_lt}
use Rattle.std.specs.List.{list_any}
use Rattle.std.specs.Str.{bytes_eq}
use Rattle.std.specs.Cmp.Lexicographic.{same_text}
use Rattle.std.proofs.lemmas.Bool.{ltb-false, or_parts}
use Rattle.cmi5_course.specs.declared.reason.Reason.{Reason}
use Rattle.cmi5_course.specs.declared.launch.Mode.{Mode}
use Rattle.cmi5_launch.specs.Made.{said_waived}
use Rattle.cmi5_launch.specs.Names.{abandoned, launched}
use Rattle.lrs_agents.specs.declared.agents.Agent.{Agent}
use Rattle.lrs_command.specs.declared.who.Who.{Who}
use Rattle.lrs_history.specs.DeskEffects.{enrolling_as}
use Rattle.lrs_history.specs.Effects.{effect_of}
use Rattle.lrs_history.specs.Endings.{abandoned_jsons, idle_ones, open_of}
use Rattle.lrs_history.specs.Enrolments.{Enrolled, enrolled, enrolled_as, enrolment_of}
use Rattle.lrs_history.specs.Launches.{Target, activity_at, launched_at, target}
use Rattle.lrs_history.specs.Made.{left_behind, made_under, owed_made, waived_at, waived_json}
use Rattle.lrs_history.specs.Occasions.{Occasion, supply_in}
use Rattle.lrs_history.specs.Refusals.{bad_form, broken, broken_in, conflict, is_too_large, refused_batch}
use Rattle.lrs_history.specs.declared.admitting.TheConstants.{MOST_OF_BATCH}
use Rattle.lrs_ids.specs.Choices.{first_some, when}
use Rattle.lrs_ids.specs.Ids.{Supply, are_distinct, rest_of, supply_of}
use Rattle.lrs_json.proofs.SeenTrees.{seen_tree}
use Rattle.lrs_json.specs.Json.{Json}
use Rattle.lrs_json.specs.Trees.{tree_of}
use Rattle.lrs_json.specs.View.{view}
use Rattle.lrs_json.specs.declared.tree.Tree.{Tree}
use Rattle.lrs_laws.proofs.DeskKinds.{launched_by, of_ending, of_enrolment, of_fetch, of_launch, of_waiver, waived_by}
use Rattle.lrs_laws.proofs.DeskStatements.{abandoned_each, launched_of_desk, of_desk}
use Rattle.lrs_laws.proofs.EnrolledStill.{registration_at, target_enrolled}
use Rattle.lrs_laws.proofs.FreshIds.{AreFresh, all_added, fresh_fewer, fresh_next, made_unused, unused_behind}
use Rattle.lrs_laws.proofs.Lists.{each_append}
use Rattle.lrs_laws.proofs.NewIds.{batch_distinct}
use Rattle.lrs_laws.proofs.Progress.{IsSettled, none_by_verb, none_elsewhere, settled_each, tells_progress}
use Rattle.lrs_laws.proofs.Registered.{AreIds, MakesIds, is_enrolled_as, target_id}
use Rattle.lrs_laws.proofs.Satisfied.{registration_said}
use Rattle.lrs_laws.proofs.Told.{Settles, none_owed, settled_by_caller, settled_own}
use Rattle.lrs_laws.proofs.Walking.{NonePass, met_post, met_put}
use Rattle.lrs_names.proofs.IdTexts.{id_of-id_text}
use Rattle.lrs_names.specs.Ids.{IsId}
use Rattle.lrs_names.specs.declared.draw.Draw.{Draw}
use Rattle.lrs_names.specs.declared.id.TheConstants.{WORDS}
use Rattle.lrs_replies.specs.declared.answered.Refusal.TheVariants.{Broken, TooLong}
use Rattle.lrs_rules.specs.declared.rule.Rule.TheVariants as rule
use Rattle.lrs_state.specs.Courses.{index_meant}
use Rattle.lrs_state.specs.Launches.{index_of_session, key_under}
use Rattle.lrs_state.specs.State.{State, used_in}
use Rattle.lrs_state.specs.declared.effect.Effect.{Effect}
use Rattle.lrs_record.specs.declared.entry.Write.{Write}
use Rattle.lrs_record.specs.declared.entry.Write.TheVariants.{Put, Post, Enrol, Fetch, Waive, Abandon, Sweep}
use Rattle.lrs_record.specs.declared.entry.Write.TheVariants as write
use Rattle.xapi_index.proofs.Unnamed.{given_missing}
use Rattle.xapi_index.specs.Batches.{given_ids, supply_after, with_ids}
use Rattle.xapi_statement.specs.Statements.{add_each, is_that_id}
use Rattle.xapi_statement.specs.Statement.{is_too_long, registration_of}
use Rattle.xapi_statement.specs.Stored.{StoredStatement}

-- ---- ids

-- no batch has more statements
few_together : (ts : List Tree) → refused_batch ts ≡ None → length ts ≤ MOST_OF_BATCH
few_together ts formed = ltb-false MOST_OF_BATCH (length ts) (or_parts (nat_lt MOST_OF_BATCH (length ts)) (list_any (λ t. is_long t) ts) (by_size (is_too_large ts) formed)).0
  where
    is_long : Tree → Bool
    is_long t = is_too_long (view t)

    by_size : (b : Bool) → first_some (when b TooLong ∷ broken (broken_in ts) ∷ when (not (are_distinct (given_ids ts))) (Broken (rule.B 9)) ∷ []) ≡ None → b ≡ false
    by_size true is = cc is
    by_size false is = refl

pub fresh_rest : (held : List StoredStatement) (supply : Supply) (n : ℕ) → AreFresh held supply (suc n) → AreFresh held (rest_of supply) n
fresh_rest held supply n fresh = record {
  unheld = λ k less. fresh.unheld (suc k) (omega (arith, less));
  apart = λ j k low high. fresh.apart (suc j) (suc k) (omega (arith, low)) (omega (arith, high));
}

-- what the desk makes of its own
pub desk_fresh : (st : State) (name : ℕ) → (used_in st).count < 2 ^ 121 → AreFresh st.statements (supply_of (used_in st) [] name) (suc (suc (2 ^ 32)))
desk_fresh st name small =
    let none : length {A = List ℕ} [] ≡ 0 = refl in
    let unused = made_unused st [] ((used_in st).count + length {A = List ℕ} []) (name % WORDS) (suc (suc (2 ^ 32))) (omega arith, omega (arith, small, none)) in
    record { unheld = unused.unheld; apart = unused.apart }

-- ---- an entry

-- what the desk says of units and sessions but that one was waived
abbrev other_deeds : List (List ℕ)
other_deeds = launched ∷ abandoned ∷ []

module _ (st : State) (by : Who) (moment : ℕ) (token : List ℕ) (draw : Draw) (small : (used_in st).count < 2 ^ 121) (ids : AreIds st.registrations)
    (id : List ℕ) (e : Enrolled) (before : Settles st id e) where
  abbrev at_write : Write → Occasion
  at_write w = record { by = by; moment = moment; token = token; supply = supply_in st w draw }

  abbrev StaysSettled : Effect → Type 0
  StaysSettled x = IsSettled (enrolment_of e) (add_each st.statements x.statements)

  by_deeds : (x : Effect) → NonePass (tells_progress e.registration.id) x.statements → StaysSettled x
  by_deeds x none = settled_each (enrolment_of e) st.statements x.statements none before.settled

  of_abandoned : (supply : Supply) (numbers : List ℕ) → NonePass (tells_progress e.registration.id) (made_under supply moment (abandoned_jsons st numbers))
  of_abandoned supply numbers =
      none_by_verb other_deeds refl refl refl e.registration.id (made_under supply moment (abandoned_jsons st numbers))
      (of_desk other_deeds supply moment (abandoned_jsons st numbers) (abandoned_each other_deeds refl st numbers))

  by_launch : (at : Occasion) → at.moment ≡ moment → (mode : Mode) (return_url : Option (List ℕ)) (t : Target) → StaysSettled (launched_by st at mode return_url t)
  by_launch at same mode return_url t =
      let numbers : List ℕ = open_of st t.registration.id (activity_at t) in
      let said : List Json = abandoned_jsons st numbers in
      let last : List ℕ = left_behind (rest_of at.supply) said 0 in
      by_deeds (launched_by st at mode return_url t)
      (each_append (λ (s : StoredStatement). tells_progress e.registration.id (view s.received) ≡ false) (made_under (rest_of at.supply) at.moment said) (launched_at t mode (at.supply 0) last at.moment)
      (subst (λ m. NonePass (tells_progress e.registration.id) (made_under (rest_of at.supply) m said)) (sym same) (of_abandoned (rest_of at.supply) numbers))
      (none_by_verb other_deeds refl refl refl e.registration.id (launched_at t mode (at.supply 0) last at.moment) (launched_of_desk other_deeds refl t mode (at.supply 0) last at.moment)))

  by_waiver : (reason : Reason) (registration unit : List ℕ) (t : Target) → target st registration unit ≡ Some t → StaysSettled (waived_by st (at_write (Waive registration unit reason)) reason t)
  by_waiver reason registration unit t found = by_own (bytes_eq t.registration.id id) refl
    where
      supply : Supply
      supply = supply_of (used_in st) [] draw.name

      j : Json
      j = waived_json t reason (supply 0)

      new : List StoredStatement
      new = waived_at t reason (supply 0) (rest_of supply) moment

      owed : List StoredStatement
      owed = owed_made st (supply 0) (rest_of (rest_of supply)) moment new (enrolled_as st t.registration)

      its : IsId t.registration.id
      its = target_id st registration unit t ids found

      fresh : AreFresh st.statements (rest_of supply) (suc (2 ^ 32))
      fresh = fresh_rest st.statements supply (suc (2 ^ 32)) (desk_fresh st draw.name small)

      added : add_each st.statements new ≡ st.statements ++ new
      added = all_added st.statements (rest_of supply) moment (j ∷ []) (fresh_fewer st.statements (rest_of supply) (suc (2 ^ 32)) 1 (omega arith) fresh)

      by_own : (b : Bool) → bytes_eq t.registration.id id ≡ b → IsSettled (enrolment_of e) (add_each st.statements (new ++ owed))
      by_own true is =
          let known : enrolled_as st t.registration ≡ Some e =
          sym (target_enrolled st registration unit t found) ∙ (ap (λ i. enrolled st i) (same_text t.registration.id id (sym is)) ∙ before.known) in
          subst (λ w. IsSettled (enrolment_of e) (add_each st.statements (new ++ owed_made st (supply 0) (rest_of (rest_of supply)) moment new w))) (sym known)
          (settled_own st (supply 0) (rest_of (rest_of supply)) moment new e before.is_id before.numbered added (fresh_next st.statements (rest_of supply) moment (2 ^ 32) j fresh))
      by_own false other =
          settled_each (enrolment_of e) st.statements (new ++ owed)
          (each_append (λ (s : StoredStatement). tells_progress e.registration.id (view s.received) ≡ false) new owed (elsewhere, tt)
          (none_owed st (supply 0) (rest_of (rest_of supply)) moment new (enrolled_as st t.registration) (is_enrolled_as st t.registration its) e.registration.id)) before.settled
        where
          registered : registration_of (view (tree_of j)) ≡ Some t.registration.id
          registered =
              ap registration_of (seen_tree j)
              ∙ (registration_said (said_waived reason) t.registration.actor (activity_at t) t.publisher t.registration.id (supply 0) ∙ id_of-id_text t.registration.id its)

          elsewhere : tells_progress e.registration.id (view (tree_of j)) ≡ false
          elsewhere =
              none_elsewhere e.registration.id (view (tree_of j)) (ap (λ o. is_that_id e.registration.id o) registered ∙ (ap (λ i. bytes_eq t.registration.id i) before.own ∙ other))

  by_enrolment : (at : Occasion) → MakesIds at → (number : ℕ) (actor : Agent) → StaysSettled (enrolling_as st at (registration_at at number actor))
  by_enrolment at made number actor =
      by_deeds (enrolling_as st at (registration_at at number actor))
      (none_owed st (at.supply 1) (rest_of (rest_of at.supply)) at.moment [] (enrolled_as st (registration_at at number actor)) (is_enrolled_as st (registration_at at number actor) (made 0)) e.registration.id)

  pub settled_next : (w : Write) → MakesIds (at_write w) → bad_form w ≡ None → conflict st (at_write w) w ≡ None → StaysSettled (effect_of st (at_write w) w)
  settled_next (Put own statement) made formed free =
      settled_by_caller st (at_write (Put own statement)) id e before ids (supply_of (used_in st) (own ∷ []) draw.name) (record { id = own; tree = statement } ∷ []) (met_put st (at_write (Put own statement)) own statement free) refl
      (made_unused st (own ∷ []) ((used_in st).count + length (own ∷ [])) (draw.name % WORDS) (2 ^ 32) (omega arith, (let one : length (own ∷ []) ≡ 1 = refl in omega (arith, small, one))))
  settled_next (Post ts) made formed free =
      let few : length ts ≤ MOST_OF_BATCH = few_together ts formed in
      let room : (used_in st).count + length ts < WORDS = omega (arith, small, few) in
      let supply : Supply = supply_of (used_in st) (given_ids ts) draw.name in
      settled_by_caller st (at_write (Post ts)) id e before ids (supply_after supply ts) (with_ids supply ts) (met_post st (at_write (Post ts)) ts free)
      (batch_distinct st draw.name ts room formed)
      (unused_behind st ((used_in st).count + length (given_ids ts)) (draw.name % WORDS) ts (2 ^ 32) (omega arith, omega (arith, small, few, given_missing ts)))
  settled_next (Enrol course actor edition) made formed free =
      of_enrolment StaysSettled st (at_write (Enrol course actor edition)) before.settled actor (index_meant course edition st.courses st.editions) (λ number. by_enrolment (at_write (Enrol course actor edition)) made number actor)
  settled_next (write.Launch registration unit mode return_url) made formed free =
      let at : Occasion = at_write (write.Launch registration unit mode return_url) in
      of_launch StaysSettled st at before.settled mode return_url (target st registration unit) (λ t. by_launch at refl mode return_url t)
  settled_next (Fetch key) made formed free = of_fetch StaysSettled st (at_write (Fetch key)) before.settled (key_under key st.keys) (λ told. before.settled) (λ held is unused still. before.settled)
  settled_next (Waive registration unit reason) made formed free =
      of_waiver StaysSettled st (at_write (Waive registration unit reason)) before.settled reason (target st registration unit) (λ t found. by_waiver reason registration unit t found)
  settled_next (Abandon session) made formed free =
      let at : Occasion = at_write (Abandon session) in
      of_ending StaysSettled st at before.settled (index_of_session session st.launches)
      (λ numbers. settled_each (enrolment_of e) st.statements (made_under at.supply moment (abandoned_jsons st numbers)) (of_abandoned at.supply numbers) before.settled)
  settled_next (Sweep idle) made formed free =
      let at : Occasion = at_write (Sweep idle) in
      let numbers : List ℕ = idle_ones st idle moment in
      settled_each (enrolment_of e) st.statements (made_under at.supply moment (abandoned_jsons st numbers)) (of_abandoned at.supply numbers) before.settled
  settled_next other made formed free = before.settled
