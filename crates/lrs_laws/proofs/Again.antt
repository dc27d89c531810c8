-- What is told of statements whose ids are held.
use Rattle.std.proofs.Common.{◌≡◌, ℕ, List, [], ◌∷◌, ◌++◌, Bool, true, false, not, Option, Some, None, refl, sym, ap, ◌∙◌}
use Rattle.std.specs.Prelude.{is_some, option_map, if◌then◌else◌}
use Rattle.std.specs.List.{AllByRecursion}
use Rattle.std.specs.Option.{option_or}
use Rattle.lrs_record.specs.declared.entry.Area.TheVariants.{Store}
use Rattle.lrs_command.specs.declared.command.Command.TheVariants as command
use Rattle.lrs_history.specs.Answers.{write_said}
use Rattle.lrs_history.specs.Effects.{effect, with_owed}
use Rattle.lrs_history.specs.Occasions.{Occasion, occasion}
use Rattle.lrs_history.specs.History.{answer, answer_of, end_offset, next_entry, only, refused, said_at_once, state, outcome_by}
use Rattle.lrs_history.specs.Refusals.{barred, before_next, conflict, forbidden, refused_batch, refused_form, refused_in, refused_over, refused_under, refusal}
use Rattle.lrs_history.specs.Whose.{authority_of}
use Rattle.lrs_json.specs.View.{view}
use Rattle.lrs_json.specs.declared.tree.Tree.{Tree}
use Rattle.lrs_laws.specs.Laws.{BatchConflictsAreTold, ComeTogether, ConflictsAreTold, Contradicts, ComesUnder, Repeats, RepeatedBatchesAreTaken, RepeatsAreTaken, occasion_of, who_in}
use Rattle.lrs_names.specs.declared.draw.Draw.{Draw}
use Rattle.lrs_state.specs.State.{State, changes_nothing, no_change}
use Rattle.lrs_record.specs.declared.entry.Caller.{Caller}
use Rattle.lrs_record.specs.declared.entry.Entry.{Entry}
use Rattle.lrs_record.specs.declared.entry.Write.{Write}
use Rattle.lrs_record.specs.declared.entry.Write.TheVariants.{Put, Post}
use Rattle.lrs_replies.specs.Texts.{ids_body}
use Rattle.lrs_replies.specs.declared.answered.Answered.{Answered}
use Rattle.lrs_replies.specs.declared.answered.Answered.TheVariants.{Kept, Same, Shown}
use Rattle.lrs_replies.specs.declared.answered.Refusal.{Refusal}
use Rattle.lrs_replies.specs.declared.answered.Refusal.TheVariants.{Conflict}
use Rattle.xapi_alike.specs.Same.{same}
use Rattle.xapi_format.specs.declared.authority.Authority.{Authority}
use Rattle.xapi_index.specs.Batches.{WithId, given_ids, held_of, id_for, kept_by, with_ids, ids_under, supply_after, supply_behind, with_given}
use Rattle.lrs_ids.specs.Choices.{first_some, when}
use Rattle.lrs_ids.specs.Ids.{Supply}
use Rattle.xapi_statement.specs.Statements.{is_held, new_ones}
use Rattle.xapi_statement.specs.Stored.{StoredStatement}
use Rattle.xapi_statement.specs.Statement.{own_id}

-- what is said at once is all that is answered
pub at_once : (limit : ℕ) (h : List Entry) (caller : Caller) (write : Write) (clock : ℕ) (draw : Draw) (s : Answered) → said_at_once (state h) (next_entry (state h) caller write clock draw) ≡ Some s
    → answer limit h caller (command.Write write) clock draw ≡ only s
at_once limit h caller write clock draw s is =
    let e = next_entry (state h) caller write clock draw in
    ap (λ o. answer_of limit (end_offset limit h) (outcome_by o e (write_said (effect (state h) e)))) is

-- what is refused is told so
pub said_refused : (st : State) (e : Entry) (r : Refusal) → refusal st e ≡ Some r → said_at_once st e ≡ Some (refused r)
said_refused st e r is = ap (λ o. option_or (option_map refused o) (when (changes_nothing (effect st e)) (write_said (effect st e)))) is

-- what changes nothing is accepted at once
pub said_unchanged : (st : State) (e : Entry) → refusal st e ≡ None → changes_nothing (effect st e) ≡ true → said_at_once st e ≡ Some (write_said (effect st e))
said_unchanged st e none same =
    ap (λ o. option_or (option_map refused o) (when (changes_nothing (effect st e)) (write_said (effect st e)))) none
    ∙ ap (λ b. when b (write_said (effect st e))) same

-- the last of the reasons, where there is none before it
pub last_reason : (before : List (Option Refusal)) (c : Option Refusal) → AllByRecursion (λ o. o ≡ None) before → first_some (before ++ c ∷ []) ≡ c
last_reason [] None none = refl
last_reason [] (Some r) none = refl
last_reason (o ∷ before) c none = ap (λ p. option_or p (first_some (before ++ c ∷ []))) none.0 ∙ last_reason before c none.1

-- ---- alone

abbrev put_entry : List Entry → Caller → List ℕ → Tree → ℕ → Draw → Entry
put_entry h caller id t clock draw = next_entry (state h) caller (Put id t) clock draw

put_met : (h : List Entry) (caller : Caller) (id : List ℕ) (t : Tree) (s : StoredStatement) (clock : ℕ) (draw : Draw) (b : Bool) → ComesUnder h caller id t s → same (view s.received) (view t) ≡ b
    → refusal (state h) (put_entry h caller id t clock draw) ≡ when (not b) (Conflict id)
put_met h caller id t s clock draw b meets is =
    let st : State = state h in
    let held : List StoredStatement = st.statements in
    last_reason (barred Store (who_in h caller) ∷ refused_form id (view t) ∷ []) (refused_under st (forbidden st (who_in h caller) held (view t)) (Some id) (view t)) (meets.let_in, (meets.formed, tt))
    ∙ (ap (λ o. refused_over (forbidden st (who_in h caller) held (view t)) id (view t) o) meets.held ∙ ap (λ c. when (not c) (Conflict id)) is)

-- where it is held, it isn't new
pub old_one : (moment : ℕ) (o : Option Authority) (held : List StoredStatement) (n : WithId) → is_held n.id held ≡ true → new_ones held (kept_by moment o (n ∷ [])) ≡ []
old_one moment None held n is = refl
old_one moment (Some by) held n is = ap (λ b. if b then [] else held_of moment by n ∷ []) is

put_unchanged : (h : List Entry) (caller : Caller) (id : List ℕ) (t : Tree) (s : StoredStatement) (clock : ℕ) (draw : Draw) → ComesUnder h caller id t s
    → changes_nothing (effect (state h) (put_entry h caller id t clock draw)) ≡ true
put_unchanged h caller id t s clock draw meets =
    let e = put_entry h caller id t clock draw in
    let at = occasion (state h) e in
    ap (λ xs. changes_nothing (record (no_change e.moment) { statements = with_owed (state h) at at.supply xs }))
    (old_one e.moment (authority_of (state h) (who_in h caller)) (state h).statements (record { id = id; tree = t }) (ap (λ o. is_some o) meets.held))

pub repeats_are_taken : RepeatsAreTaken
repeats_are_taken limit h caller id t s clock draw meets is =
    let e = put_entry h caller id t clock draw in
    let same_still = put_unchanged h caller id t s clock draw meets in
    at_once limit h caller (Put id t) clock draw Same
    (said_unchanged (state h) e (put_met h caller id t s clock draw true meets is) same_still ∙ ap (λ b. Some (if b then Same else Kept)) same_still)

pub conflicts_are_told : ConflictsAreTold
conflicts_are_told limit h caller id t s clock draw meets is =
    at_once limit h caller (Put id t) clock draw (refused (Conflict id))
    (said_refused (state h) (put_entry h caller id t clock draw) (Conflict id) (put_met h caller id t s clock draw false meets is))

-- ---- together

abbrev post_entry : List Entry → Caller → List Tree → ℕ → Draw → Entry
post_entry h caller trees clock draw = next_entry (state h) caller (Post trees) clock draw

post_met : (h : List Entry) (caller : Caller) (trees : List Tree) (clock : ℕ) (draw : Draw) (o : Option Refusal) → ComeTogether h caller trees
    → conflict (state h) (occasion_of h caller trees clock draw) (Post trees) ≡ o → refusal (state h) (post_entry h caller trees clock draw) ≡ o
post_met h caller trees clock draw o together is =
    last_reason (barred Store (who_in h caller) ∷ refused_batch trees ∷ []) (conflict (state h) (occasion_of h caller trees clock draw) (Post trees)) (together.let_in, (together.formed, tt)) ∙ is

-- whatever would be told of it if it were new
repeated : (st : State) (new : Option Refusal) (t : Tree) → Repeats st.statements t → refused_under st new (own_id (view t)) (view t) ≡ None
repeated st new t again =
    ap (λ o. refused_under st new o (view t)) again.own
    ∙ (ap (λ o. refused_over new again.id (view t) o) again.there ∙ ap (λ b. when (not b) (Conflict again.id)) again.equal)

none_refused : (st : State) (at : Occasion) (before : List StoredStatement) (supply : Supply) (ts : List Tree) → AllByRecursion (Repeats st.statements) ts → refused_in st at before (with_ids supply ts) ≡ None
none_refused st at before supply [] each = refl
none_refused st at before supply (t ∷ ts) each =
    let n : WithId = record { id = id_for (supply 0) (own_id (view t)); tree = t } in
    ap (λ o. option_or o (refused_in st at (before_next st at before n) (with_ids (supply_behind supply (own_id (view t))) ts))) (repeated st (forbidden st at.by before (view t)) t each.0)
    ∙ none_refused st at (before_next st at before n) (supply_behind supply (own_id (view t))) ts each.1

-- they go under the ids that they give themselves
own_names : (held : List StoredStatement) (supply : Supply) (ts : List Tree) → AllByRecursion (Repeats held) ts → ids_under (with_ids supply ts) ≡ given_ids ts
own_names held supply [] each = refl
own_names held supply (t ∷ ts) each =
    ap (λ o. id_for (supply 0) o ∷ ids_under (with_ids (supply_behind supply o) ts)) each.0.own
    ∙ (ap (λ ids. each.0.id ∷ ids) (own_names held supply ts each.1) ∙ sym (ap (λ o. with_given o (given_ids ts)) each.0.own))

none_new : (moment : ℕ) (o : Option Authority) (held : List StoredStatement) (supply : Supply) (ts : List Tree) → AllByRecursion (Repeats held) ts → new_ones held (kept_by moment o (with_ids supply ts)) ≡ []
none_new moment None held supply ts each = refl
none_new moment (Some by) held supply [] each = refl
none_new moment (Some by) held supply (t ∷ ts) each =
    let n : WithId = record { id = id_for (supply 0) (own_id (view t)); tree = t } in
    let rest = kept_by moment (Some by) (with_ids (supply_behind supply (own_id (view t))) ts) in
    ap (λ b. if b then new_ones held rest else held_of moment by n ∷ new_ones held rest) (ap (λ o. is_held (id_for (supply 0) o) held) each.0.own ∙ ap (λ o. is_some o) each.0.there)
    ∙ none_new moment (Some by) held (supply_behind supply (own_id (view t))) ts each.1

pub repeated_batches_are_taken : RepeatedBatchesAreTaken
repeated_batches_are_taken limit h caller trees clock draw together each =
    let e = post_entry h caller trees clock draw in
    let at = occasion_of h caller trees clock draw in
    at_once limit h caller (Post trees) clock draw (Shown (ids_body (given_ids trees)) None)
    (said_unchanged (state h) e (post_met h caller trees clock draw None together (none_refused (state h) at (state h).statements at.supply trees each))
    (ap (λ xs. changes_nothing (record (no_change at.moment) { statements = with_owed (state h) at (supply_after at.supply trees) xs }))
    (none_new at.moment (authority_of (state h) at.by) (state h).statements at.supply trees each))
    ∙ ap (λ ids. Some (Shown (ids_body ids) None)) (own_names (state h).statements at.supply trees each))

contradicted : (st : State) (new : Option Refusal) (t : Tree) (id : List ℕ) → Contradicts st.statements t id → refused_under st new (own_id (view t)) (view t) ≡ Some (Conflict id)
contradicted st new t id against =
    ap (λ o. refused_under st new o (view t)) against.own
    ∙ (ap (λ o. refused_over new id (view t) o) against.there ∙ ap (λ b. when (not b) (Conflict id)) against.other)

pub first_none : {A : Type 0} (o p : Option A) → option_or o p ≡ None → (o ≡ None) × (p ≡ None)
first_none None p is = (refl, is)
first_none (Some r) p is = cc is

pub no_reason : {A : Type 0} (os : List (Option A)) → first_some os ≡ None → AllByRecursion (λ o. o ≡ None) os
no_reason [] is = tt
no_reason (o ∷ os) is = let first = first_none o (first_some os) is in (first.0, no_reason os first.1)

first_refused : (st : State) (at : Occasion) (before : List StoredStatement) (supply : Supply) (ts behind : List Tree) (t : Tree) (r : Refusal) → refused_in st at before (with_ids supply ts) ≡ None
    → ((new : Option Refusal) → refused_under st new (own_id (view t)) (view t) ≡ Some r) → refused_in st at before (with_ids supply (ts ++ t ∷ behind)) ≡ Some r
first_refused st at before supply [] behind t r none is =
    let n : WithId = record { id = id_for (supply 0) (own_id (view t)); tree = t } in
    ap (λ o. option_or o (refused_in st at (before_next st at before n) (with_ids (supply_behind supply (own_id (view t))) behind))) (is (forbidden st at.by before (view t)))
first_refused st at before supply (x ∷ ts) behind t r none is =
    let n : WithId = record { id = id_for (supply 0) (own_id (view x)); tree = x } in
    let both = first_none (refused_under st (forbidden st at.by before (view x)) (own_id (view x)) (view x)) (refused_in st at (before_next st at before n) (with_ids (supply_behind supply (own_id (view x))) ts)) none in
    ap (λ o. option_or o (refused_in st at (before_next st at before n) (with_ids (supply_behind supply (own_id (view x))) (ts ++ t ∷ behind)))) both.0
    ∙ first_refused st at (before_next st at before n) (supply_behind supply (own_id (view x))) ts behind t r both.1 is

pub batch_conflicts_are_told : BatchConflictsAreTold
batch_conflicts_are_told limit h caller before behind t id clock draw together none against =
    let trees : List Tree = before ++ t ∷ behind in
    let at = occasion_of h caller trees clock draw in
    at_once limit h caller (Post trees) clock draw (refused (Conflict id))
    (said_refused (state h) (post_entry h caller trees clock draw) (Conflict id)
    (post_met h caller trees clock draw (Some (Conflict id)) together
    (first_refused (state h) at (state h).statements at.supply before behind t (Conflict id) none (λ new. contradicted (state h) new t id against))))
