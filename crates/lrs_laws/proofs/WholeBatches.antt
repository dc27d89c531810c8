-- What isn't refused is held: a statement alone, and a batch whole.
use Rattle.std.proofs.Common.{◌≡◌, ℕ, List, [], ◌∷◌, ◌++◌, get_or, map, Bool, true, false, not, ◌||◌, Option, Some, None, cond, refl, sym, ap, subst, ◌∙◌, nat_lt}
use Rattle.std.specs.Prelude.{position, slice_get, is_some, option_map, if◌then◌else◌}
use Rattle.std.specs.List.{AllByRecursion}
use Rattle.std.specs.Option.{option_or}
use Rattle.std.specs.Str.{bytes_eq}
use Rattle.std.specs.Cmp.{first_so, second_so}
use Rattle.std.proofs.lemmas.Bool.{false≢true, not-true}
use Rattle.std.proofs.lemmas.Cmp.{nat_list_eq_equiv}
use Rattle.std.proofs.lemmas.List.{map-append}
use Rattle.std.proofs.lemmas.List.Folds.{find-append, list_any-append}
use Rattle.std.proofs.lemmas.List.Quantifiers.{position-Some}
use Rattle.std.proofs.lemmas.Option.{slice_get-get_or}
use Rattle.lrs_record.specs.declared.entry.Area.TheVariants.{Store}
use Rattle.lrs_command.specs.declared.who.Who.{Who}
use Rattle.lrs_command.specs.declared.who.Who.TheVariants as who
use Rattle.lrs_history.specs.Answers.{write_said}
use Rattle.lrs_history.specs.Effects.{brought, effect, new_by, owed_in_session}
use Rattle.lrs_history.specs.Occasions.{Occasion, occasion}
use Rattle.lrs_history.specs.History.{Answer, answer_of, end_offset, next_entry, need, only, refused, state, outcome_by, with_entry}
use Rattle.lrs_history.specs.Refusals.{barred, before_next, conflict, forbidden, missing, refusal, refused_batch, refused_form, refused_in, refused_over, refused_under}
use Rattle.lrs_history.specs.Whose.{authority_of, known_as, launch_of, who_is}
use Rattle.lrs_history.proofs.Room.{no_room, kept_answer}
use Rattle.lrs_json.specs.View.{view}
use Rattle.lrs_json.specs.declared.tree.Tree.{Tree}
use Rattle.lrs_laws.specs.Laws.{BatchesAreWhole, CallersHaveAuthority, IsAccepted, IsHeldSame, PutsAreHeld, batch_with_ids, occasion_of}
use Rattle.lrs_laws.proofs.Again.{first_none, no_reason}
use Rattle.lrs_laws.proofs.Keepers.{held_one, left_false, or_false, right_false, state_from-append, stays_each}
use Rattle.lrs_laws.proofs.Launched.{AreLaunched, all_launched, token_launched}
use Rattle.lrs_laws.proofs.Lists.{each_weaker}
use Rattle.lrs_laws.proofs.NewIds.{batch_distinct, batch_new}
use Rattle.lrs_names.specs.Members.{is_one_of}
use Rattle.cmi5_course.specs.declared.launch.Launch.{Launch}
use Rattle.lrs_state.specs.Launches.{launch_of_token}
use Rattle.lrs_state.specs.Providers.{index_of_token}
use Rattle.lrs_state.specs.Founding.{is_admin}
use Rattle.lrs_state.specs.State.{State, changes_no_learning, changes_nothing, is_empty, nothing}
use Rattle.lrs_state.specs.declared.providers.HeldProvider.{HeldProvider}
use Rattle.lrs_record.specs.Entries.{AreLawfulTrees}
use Rattle.lrs_record.specs.declared.entry.Caller.{Caller}
use Rattle.lrs_record.specs.declared.entry.Caller.TheVariants.{Nobody, Operator, Token}
use Rattle.lrs_record.specs.declared.entry.Entry.{Entry}
use Rattle.lrs_record.specs.declared.entry.Write.TheVariants.{Put, Post}
use Rattle.lrs_replies.specs.declared.answered.Answered.{Answered}
use Rattle.lrs_replies.specs.declared.answered.Refusal.{Refusal}
use Rattle.lrs_replies.specs.declared.answered.Refusal.TheVariants.{Conflict}
use Rattle.xapi_alike.specs.Same.{same, IsSameness}
use Rattle.xapi_format.specs.declared.authority.Authority.{Authority}
use Rattle.xapi_format.specs.declared.authority.Authority.TheVariants.{Admin, Provider, Session}
use Rattle.xapi_index.specs.Batches.{WithId, held_of, id_for, kept_by, with_ids, ids_under, supply_after, supply_behind}
use Rattle.lrs_ids.specs.Choices.{when}
use Rattle.lrs_ids.specs.Ids.{Supply, are_distinct}
use Rattle.xapi_statement.specs.Statements.{add, add_each, held_under, ids_of, is_held, new_ones}
use Rattle.xapi_index.proofs.Adding.{add-new, add_each-append, add_each-new}
use Rattle.xapi_statement.specs.Stored.{StoredStatement}
use Rattle.xapi_statement.specs.Statement.{own_id}

-- ---- what isn't refused

-- of a write whose refusal and whose change are known
abbrev answer_by : ℕ → ℕ → Entry → Answered → Option Refusal → Bool → Answer
answer_by limit offset x t o b = answer_of limit offset (outcome_by (option_or (option_map refused o) (when b t)) x t)

by_answer : (P : Answer → Type 0) (limit offset : ℕ) (x : Entry) (t : Answered) (o : Option Refusal) (b : Bool) → (o ≡ None → b ≡ true → P (only t)) → (o ≡ None → P (kept_answer t x))
    → IsAccepted (answer_by limit offset x t o b) → P (answer_by limit offset x t o b)
by_answer P limit offset x t (Some r) b old new accepted = absurd (accepted r refl)
by_answer P limit offset x t None true old new accepted = old refl refl
by_answer P limit offset x t None false old new accepted = by_room (nat_lt limit (need offset x)) accepted
  where
    by_room : (c : Bool) → IsAccepted (if c then no_room limit offset x else kept_answer t x) → P (if c then no_room limit offset x else kept_answer t x)
    by_room true accepted = absurd (accepted _ refl)
    by_room false accepted = new refl

none_new : (held xs : List StoredStatement) → is_empty (new_ones held xs) ≡ true → held ≡ add_each held xs
none_new held xs is = by_new (new_ones held xs) is (add_each-new held xs)
  where
    by_new : (ns : List StoredStatement) → is_empty ns ≡ true → add_each held ns ≡ add_each held xs → held ≡ add_each held xs
    by_new [] is q = q
    by_new (n ∷ ns) is q = cc is

none_first : (xs ys : List StoredStatement) → is_empty (xs ++ ys) ≡ true → is_empty xs ≡ true
none_first [] ys is = refl
none_first (x ∷ xs) ys is = cc is

-- It isn't refused, what it is accepted with is told, and after it these statements are held, and maybe more behind them.
abbrev IsAcceptedWith : List Entry → Entry → Answered → List StoredStatement → Answer → Type 0
IsAcceptedWith h x t xs a =
    (refusal (state h) x ≡ None) × (a.said ≡ t) × (more : List StoredStatement) × ((state (with_entry h a.entry)).statements ≡ add_each (add_each (state h).statements xs) more)

is_behind_it : (limit offset : ℕ) (h : List Entry) (x : Entry) (t : Answered) (xs owed : List StoredStatement) → (effect (state h) x).statements ≡ new_ones (state h).statements xs ++ owed
    → IsAccepted (answer_by limit offset x t (refusal (state h) x) (changes_nothing (effect (state h) x)))
    → IsAcceptedWith h x t xs (answer_by limit offset x t (refusal (state h) x) (changes_nothing (effect (state h) x)))
is_behind_it limit offset h x t xs owed new =
    let held : List StoredStatement = (state h).statements in
    by_answer (IsAcceptedWith h x t xs) limit offset x t (refusal (state h) x) (changes_nothing (effect (state h) x))
    (λ none same. (
      none,
      refl,
      [],
      none_new held xs (none_first (new_ones held xs) owed
          (ap (λ l. is_empty l) (sym new) ∙ second_so _ (is_empty (effect (state h) x).statements) (first_so _ (changes_no_learning (effect (state h) x)) same))),
    ))
    (λ none. (
      none,
      refl,
      owed,
      ap (λ s. s.statements) (state_from-append nothing h (x ∷ []))
          ∙ (ap (λ l. add_each held l) new ∙ (add_each-append held (new_ones held xs) owed ∙ ap (λ l. add_each l owed) (add_each-new held xs))),
    ))

-- ---- whoever is let in has an authority

abbrev IsKnown : State → Who → Type 0
IsKnown st by = (authority : Authority) × (authority_of st by ≡ Some authority)

pub there : {A : Type 0} (p : A → Bool) (xs : List A) (k : ℕ) → position p xs ≡ Some k → (x : A) × (slice_get xs k ≡ Some x)
there p [] k is = cc is
there p (x ∷ xs) k is = (get_or (x ∷ xs) k x, slice_get-get_or (x ∷ xs) k x (position-Some p (x ∷ xs) k x is).0)

known : (st : State) (caller : Caller) → AreLaunched st → barred Store (who_is st caller) ≡ None → IsKnown st (who_is st caller)
known st Nobody launched is = cc is
known st Operator launched is = (Admin, refl)
known st (Token token) launched is = by_admin (is_admin st.founding token) is
  where
    by_indices : (o p : Option ℕ) → index_of_token token st.providers ≡ o → launch_of_token token st.tokens ≡ p → barred Store (known_as o p) ≡ None → IsKnown st (known_as o p)
    by_indices None None at acts is = cc is
    by_indices None (Some k) at acts is =
        let found = token_launched st token k launched acts in
        (Session found.0.session, ap (λ o. option_map (λ (l : Launch). Session l.session) o) found.1)
    by_indices (Some k) p at acts is =
        let found = there (λ (c : HeldProvider). bytes_eq c.token token) st.providers k at in
        (Provider k found.0.name, ap (λ o. option_map (λ (c : HeldProvider). Provider k c.name) o) found.1)

    by_admin : (b : Bool) → barred Store (if b then who.Admin else known_as (index_of_token token st.providers) (launch_of_token token st.tokens)) ≡ None
        → IsKnown st (if b then who.Admin else known_as (index_of_token token st.providers) (launch_of_token token st.tokens))
    by_admin true is = (Admin, refl)
    by_admin false is = by_indices (index_of_token token st.providers) (launch_of_token token st.tokens) refl refl is

pub callers_have_authority : CallersHaveAuthority
callers_have_authority h caller let_in = known (state h) caller (all_launched h) let_in

-- ---- each of them, in one list

pub each_both : {A : Type 0} (P Q R : A → Type 0) → ((x : A) → P x → Q x → R x) → (xs : List A) → AllByRecursion P xs → AllByRecursion Q xs → AllByRecursion R xs
each_both P Q R join [] p q = tt
each_both P Q R join (x ∷ xs) p q = (join x p.0 q.0, each_both P Q R join xs p.1 q.1)

pub others : (id : List ℕ) (ns : List WithId) → is_one_of (ids_under ns) id ≡ false → AllByRecursion (λ (n : WithId). bytes_eq n.id id ≡ false) ns
others id [] none = tt
others id (n ∷ ns) none =
    (left_false (bytes_eq n.id id) (is_one_of (ids_under ns) id) none, others id ns (right_false (bytes_eq n.id id) (is_one_of (ids_under ns) id) none))

pub unheld_add : (held : List StoredStatement) (x : StoredStatement) (id : List ℕ) → is_held x.id held ≡ false → bytes_eq x.id id ≡ false → is_held id held ≡ false → is_held id (add held x) ≡ false
unheld_add held x id new other none =
    ap (λ l. is_held id l) (add-new held x new)
    ∙ (held_one id (held ++ x ∷ [])
    ∙ (ap (λ l. is_one_of l id) (map-append (λ (s : StoredStatement). s.id) held (x ∷ []))
    ∙ (list_any-append (λ name. bytes_eq name id) (ids_of held) (x.id ∷ [])
    ∙ (ap (λ b. is_one_of (ids_of held) id || b) (or_false (bytes_eq x.id id) ∙ other) ∙ (or_false (is_one_of (ids_of held) id) ∙ (sym (held_one id held) ∙ none))))))

none_held : (o : Option StoredStatement) → is_some o ≡ false → o ≡ None
none_held None is = refl
none_held (Some s) is = cc is

pub found_add : (held : List StoredStatement) (x : StoredStatement) → is_held x.id held ≡ false → held_under x.id (add held x) ≡ Some x
found_add held x new =
    ap (λ l. held_under x.id l) (add-new held x new)
    ∙ (find-append (λ (s : StoredStatement). bytes_eq s.id x.id) held (x ∷ [])
    ∙ (ap (λ o. option_or o (held_under x.id (x ∷ []))) (none_held (held_under x.id held) new) ∙ ap (λ b. cond b (Some x) None) (nat_list_eq_equiv.refl x.id)))

-- those of which none is held are held after
abbrev Added : ℕ → Authority → List StoredStatement → List WithId → WithId → Type 0
Added moment by held ns n = is_held n.id held ≡ false → held_under n.id (add_each held (map (held_of moment by) ns)) ≡ Some (held_of moment by n)

added : (moment : ℕ) (by : Authority) (held : List StoredStatement) (ns : List WithId) → are_distinct (ids_under ns) ≡ true → AllByRecursion (Added moment by held ns) ns
added moment by held [] apart = tt
added moment by held (n ∷ ns) apart = (
  λ new. stays_each n.id (add held (held_of moment by n)) (map (held_of moment by) ns) (held_of moment by n) (found_add held (held_of moment by n) new),
  each_both (λ (m : WithId). bytes_eq m.id n.id ≡ false) (Added moment by (add held (held_of moment by n)) ns) (Added moment by held (n ∷ ns)) (λ m other rest new. rest (by_held m other new (is_held n.id held) refl)) ns
      (others n.id ns (not-true (is_one_of (ids_under ns) n.id) (first_so _ (are_distinct (ids_under ns)) apart)))
      (added moment by (add held (held_of moment by n)) ns (second_so _ (are_distinct (ids_under ns)) apart)),
)
  where
    by_held : (m : WithId) → bytes_eq m.id n.id ≡ false → is_held m.id held ≡ false → (b : Bool) → is_held n.id held ≡ b → is_held m.id (add held (held_of moment by n)) ≡ false
    by_held m other new true there = ap (λ b. is_held m.id (if b then held else held ++ held_of moment by n ∷ [])) there ∙ new
    by_held m other new false none = unheld_add held (held_of moment by n) m.id none (nat_list_eq_equiv.symm n.id m.id ∙ other) new

-- ---- what is held under their ids

abbrev IsTaken : List StoredStatement → WithId → Type 0
IsTaken held n = (s : StoredStatement) → held_under n.id held ≡ Some s → same (view s.received) (view n.tree) ≡ true

taken_under : (st : State) (new : Option Refusal) (t : Tree) (id : List ℕ) (s : StoredStatement) → refused_under st new (Some id) (view t) ≡ None → held_under id st.statements ≡ Some s → same (view s.received) (view t) ≡ true
taken_under st new t id s none is = by_same (same (view s.received) (view t)) (sym (ap (λ o. refused_over new id (view t) o) is) ∙ none)
  where
    by_same : (b : Bool) → when (not b) (Conflict id) ≡ None → b ≡ true
    by_same true q = refl
    by_same false q = cc q

taken_from : (st : State) (at : Occasion) (before : List StoredStatement) (supply : Supply) (ts : List Tree) → refused_in st at before (with_ids supply ts) ≡ None
    → AllByRecursion (λ (n : WithId). own_id (view n.tree) ≡ None → is_held n.id st.statements ≡ false) (with_ids supply ts) → AllByRecursion (IsTaken st.statements) (with_ids supply ts)
taken_from st at before supply [] none new = tt
taken_from st at before supply (t ∷ ts) none new = (
  λ s is. by_own s (own_id (view t)) refl is,
  taken_from st at (before_next st at before (record { id = id_for (supply 0) (own_id (view t)); tree = t })) (supply_behind supply (own_id (view t))) ts
      (first_none (refused_under st (forbidden st at.by before (view t)) (own_id (view t)) (view t)) _ none).1 new.1,
)
  where
    by_own : (s : StoredStatement) (o : Option (List ℕ)) → own_id (view t) ≡ o → held_under (id_for (supply 0) (own_id (view t))) st.statements ≡ Some s → same (view s.received) (view t) ≡ true
    by_own s None own is = absurd (false≢true (sym (new.0 own) ∙ ap (λ o. is_some o) is))
    by_own s (Some id) own is =
        taken_under st (forbidden st at.by before (view t)) t id s
        (sym (ap (λ o. refused_under st (forbidden st at.by before (view t)) o (view t)) own) ∙ (first_none (refused_under st (forbidden st at.by before (view t)) (own_id (view t)) (view t)) _ none).0)
        (sym (ap (λ o. held_under (id_for (supply 0) o) st.statements) own) ∙ is)

alike_from : IsSameness → (supply : Supply) (ts : List Tree) → AreLawfulTrees ts → AllByRecursion (λ (n : WithId). same (view n.tree) (view n.tree) ≡ true) (with_ids supply ts)
alike_from sameness supply [] lawful = tt
alike_from sameness supply (t ∷ ts) lawful = (sameness.reflexive (view t) lawful.0.0, alike_from sameness (supply_behind supply (own_id (view t))) ts lawful.1)

abbrev IsFresh : ℕ → Authority → List StoredStatement → List WithId → WithId → Type 0
IsFresh moment by held ns n = Added moment by held ns n × (same (view n.tree) (view n.tree) ≡ true)

kept_one : (moment : ℕ) (by : Authority) (held : List StoredStatement) (ns : List WithId) (n : WithId) (o : Option StoredStatement) → held_under n.id held ≡ o → IsTaken held n → IsFresh moment by held ns n
    → IsHeldSame (add_each held (map (held_of moment by) ns)) n
kept_one moment by held ns n None is taken fresh = (held_of moment by n, fresh.0 (ap (λ o. is_some o) is), fresh.1)
kept_one moment by held ns n (Some s) is taken fresh = (s, stays_each n.id held (map (held_of moment by) ns) s is, taken s is)

whole_list : (moment : ℕ) (by : Authority) (held : List StoredStatement) (ns : List WithId) → are_distinct (ids_under ns) ≡ true → AllByRecursion (IsTaken held) ns
    → AllByRecursion (λ (n : WithId). same (view n.tree) (view n.tree) ≡ true) ns → AllByRecursion (IsHeldSame (add_each held (map (held_of moment by) ns))) ns
whole_list moment by held ns apart taken alike =
    each_both (IsTaken held) (IsFresh moment by held ns) (IsHeldSame (add_each held (map (held_of moment by) ns))) (λ n t fresh. kept_one moment by held ns n (held_under n.id held) refl t fresh) ns taken
    (each_both (Added moment by held ns) (λ (n : WithId). same (view n.tree) (view n.tree) ≡ true) (IsFresh moment by held ns) (λ n a b. (a, b)) ns (added moment by held ns apart) alike)

-- more statements change nothing of it
held_still : (held more : List StoredStatement) (n : WithId) → IsHeldSame held n → IsHeldSame (add_each held more) n
held_still held more n is = (is.0, stays_each n.id held more is.0 is.1, is.2)

-- ---- the laws

pub puts_are_held : IsSameness → PutsAreHeld
puts_are_held sameness limit h caller id t clock draw lawful accepted =
    let st : State = state h in
    let held : List StoredStatement = st.statements in
    let x : Entry = next_entry st caller (Put id t) clock draw in
    let at : Occasion = occasion st x in
    let n : WithId = record { id = id; tree = t } in
    let owed : List StoredStatement = owed_in_session st at.supply at.moment (new_by st at.by at.moment (n ∷ [])) (launch_of st at.by) in
    let behind = is_behind_it limit (end_offset limit h) h x (write_said (effect st x)) (brought st at.by at.moment (n ∷ [])) owed refl accepted in
    let reasons = no_reason (barred Store at.by ∷ refused_form id (view t) ∷ missing st (Put id t) ∷ conflict st at (Put id t) ∷ []) behind.0 in
    let authority = known st caller (all_launched h) reasons.0 in
    let statements = behind.3 ∙ ap (λ o. add_each (add_each held (kept_by at.moment o (n ∷ []))) behind.2) authority.1 in
    subst (λ l. IsHeldSame l n) (sym statements)
    (held_still (add_each held (kept_by at.moment (Some authority.0) (n ∷ []))) behind.2 n
    (whole_list at.moment authority.0 held (n ∷ []) refl (λ s is. taken_under st (forbidden st at.by held (view t)) t id s reasons.1.1.1.0 is, tt) (sameness.reflexive (view t) lawful.0, tt)).0)

pub batches_are_whole : IsSameness → BatchesAreWhole
batches_are_whole sameness limit h caller trees clock draw small lawful accepted =
    let st : State = state h in
    let held : List StoredStatement = st.statements in
    let x : Entry = next_entry st caller (Post trees) clock draw in
    let at : Occasion = occasion_of h caller trees clock draw in
    let batch : List WithId = batch_with_ids h trees draw in
    let owed : List StoredStatement = owed_in_session st (supply_after at.supply trees) at.moment (new_by st at.by at.moment batch) (launch_of st at.by) in
    let behind = is_behind_it limit (end_offset limit h) h x (write_said (effect st x)) (brought st at.by at.moment batch) owed refl accepted in
    let reasons = no_reason (barred Store at.by ∷ refused_batch trees ∷ missing st (Post trees) ∷ conflict st at (Post trees) ∷ []) behind.0 in
    let authority = known st caller (all_launched h) reasons.0 in
    let now : List StoredStatement = add_each held (kept_by at.moment (Some authority.0) batch) in
    let statements = behind.3 ∙ ap (λ o. add_each (add_each held (kept_by at.moment o batch)) behind.2) authority.1 in (
      behind.1,
      subst (λ l. AllByRecursion (IsHeldSame l) batch) (sym statements)
          (each_weaker (IsHeldSame now) (IsHeldSame (add_each now behind.2)) (λ n is. held_still now behind.2 n is) batch
          (whole_list at.moment authority.0 held batch (batch_distinct st draw.name trees small reasons.1.0)
          (taken_from st at held at.supply trees reasons.1.1.1.0 (batch_new st draw.name trees small))
          (alike_from sameness at.supply trees lawful))),
    )
