-- What becomes of a document, and what is told of it.
use Rattle.std.proofs.Common.{◌≡◌, ℕ, List, [], ◌∷◌, Bool, true, false, not, ◌&&◌, Option, Some, None, cond, refl, sym, ap, ◌∙◌}
use Rattle.std.specs.Prelude.{if◌then◌else◌, is_none, unwrap_or}
use Rattle.std.specs.Option.{option_or}
use Rattle.std.proofs.lemmas.Cmp.{eq_by_cmp_equiv}
use Rattle.lrs_history.specs.Answers.{document_said, write_said}
use Rattle.lrs_history.specs.Effects.{document_by, effect, effect_of}
use Rattle.lrs_history.specs.Occasions.{Occasion, occasion}
use Rattle.lrs_history.specs.DeskEffects.{launching}
use Rattle.lrs_history.specs.History.{answer_of, end_offset, next_entry, only, outcome_by, refused, refused_or, said_at_once, state}
use Rattle.lrs_history.specs.Launches.{Target, data_at, data_key, target}
use Rattle.lrs_history.specs.Refusals.{barred, bad_form, barred_document, conflict, missing, refusal, refused_agent, refused_document, unmergeable, unmergeable_with}
use Rattle.lrs_history.specs.Sessions.{outside, overstepped}
use Rattle.lrs_history.specs.Whose.{who_is}
use Rattle.lrs_ids.specs.Choices.{first_some, when}
use Rattle.lrs_laws.proofs.Accepting.{accepted_at, not_refused}
use Rattle.lrs_laws.proofs.Again.{at_once, no_reason, said_refused, said_unchanged}
use Rattle.lrs_laws.proofs.DeskKinds.{of_ending, of_enrolment, of_fetch, of_waiver}
use Rattle.lrs_laws.proofs.HeldDocuments.{dropped_under, same_is, written_under}
use Rattle.lrs_laws.proofs.Keepers.{state_from-append}
use Rattle.lrs_laws.specs.Documents.{DocumentsAreFolds, HeldDocumentsAreShown, NothingIsDroppedQuietly, PostedDocumentsAreMerged, MayChange, UnmergeableIsTold, document_after, document_in, launch_in, launched_over}
use Rattle.lrs_laws.specs.Laws.{who_in}
use Rattle.lrs_media.specs.Media.{is_json}
use Rattle.lrs_names.specs.declared.draw.Draw.{Draw}
use Rattle.lrs_state.specs.Courses.{index_meant}
use Rattle.lrs_state.specs.Launches.{key_under, index_of_session}
use Rattle.lrs_state.specs.State.{State, changes_nothing, no_change, nothing}
use Rattle.lrs_state.specs.declared.effect.Effect.{Effect}
use Rattle.lrs_record.specs.declared.entry.Area.TheVariants.{Store}
use Rattle.lrs_record.specs.declared.entry.Caller.{Caller}
use Rattle.lrs_record.specs.declared.entry.Entry.{Entry}
use Rattle.lrs_record.specs.declared.entry.How.TheVariants as how
use Rattle.lrs_record.specs.declared.entry.Write.{Write as AWrite}
use Rattle.lrs_record.specs.declared.entry.Write.TheVariants.{Drop, Enrol, Fetch, Waive, Abandon}
use Rattle.lrs_record.specs.declared.entry.Write.TheVariants as write
use Rattle.lrs_replies.specs.declared.answered.Answered.TheVariants.{Kept, Same}
use Rattle.lrs_replies.specs.declared.answered.Refusal.{Refusal}
use Rattle.lrs_replies.specs.declared.answered.Refusal.TheVariants.{Broken}
use Rattle.lrs_rules.specs.declared.rule.Rule.TheVariants as rule
use Rattle.xapi_docs.proofs.Keyed.{keys_total}
use Rattle.xapi_docs.specs.Changes.{document_of, documents_after, posted}
use Rattle.xapi_docs.specs.Documents.{document_under}
use Rattle.xapi_docs.specs.Merging.{merge}
use Rattle.xapi_docs.specs.declared.changes.DocumentsChange.TheVariants.{Dropped}
use Rattle.xapi_docs.specs.declared.documents.Document.{Document}
use Rattle.xapi_keys.specs.Keys.{is_of, is_same_key, is_state}
use Rattle.xapi_keys.specs.declared.state_key.StateKey.{StateKey}

-- ---- the fold

-- the document under the key is the same
abbrev Leaves : State → StateKey → Effect → Type 0
Leaves st key x = document_under key (documents_after st.documents x.documents) ≡ document_under key st.documents

after_write : (st : State) (at : Occasion) (w : AWrite) (key : StateKey)
    → document_under key (documents_after st.documents (effect_of st at w).documents) ≡ document_after st at key (document_under key st.documents) w
after_write st at (write.State by k media bytes) key = written_under key k (document_by by media bytes at.moment (document_under k st.documents)) st.documents ∙ choice (is_same_key k key) refl
  where
    choice : (b : Bool) → is_same_key k key ≡ b → cond b (Some (document_by by media bytes at.moment (document_under k st.documents))) (document_under key st.documents)
        ≡ (if b then Some (document_by by media bytes at.moment (document_under key st.documents)) else document_under key st.documents)
    choice true is = ap (λ z. Some (document_by by media bytes at.moment (document_under z st.documents))) (same_is k key is)
    choice false is = refl
after_write st at (Drop activity agent registration chosen) key =
    dropped_under (λ q. is_of activity agent registration q && is_state chosen q) key st.documents ∙ choice (is_of activity agent registration key && is_state chosen key)
  where
    choice : (b : Bool) → cond b None (document_under key st.documents) ≡ (if b then None else document_under key st.documents)
    choice true = refl
    choice false = refl
after_write st at (Enrol course actor edition) key = of_enrolment (Leaves st key) st at refl actor (index_meant course edition st.courses st.editions) (λ k. refl)
after_write st at (write.Launch registration unit mode return_url) key = launched (target st registration unit)
  where
    launched : (o : Option Target) → document_under key (documents_after st.documents (launching st at mode return_url o).documents) ≡ launched_over at key (document_under key st.documents) mode return_url o
    launched None = refl
    launched (Some t) = written_under key (data_key t) (data_at t mode return_url (at.supply 0) at.moment) st.documents ∙ choice (is_same_key (data_key t) key)
      where
        choice : (b : Bool) → cond b (Some (data_at t mode return_url (at.supply 0) at.moment)) (document_under key st.documents)
            ≡ (if b then Some (data_at t mode return_url (at.supply 0) at.moment) else document_under key st.documents)
        choice true = refl
        choice false = refl
after_write st at (Fetch name) key = of_fetch (Leaves st key) st at refl (key_under name st.keys) (λ told. refl) (λ k is unused still. refl)
after_write st at (Waive registration unit reason) key = of_waiver (Leaves st key) st at refl reason (target st registration unit) (λ t is. refl)
after_write st at (Abandon session) key = of_ending (Leaves st key) st at refl (index_of_session session st.launches) (λ numbers. refl)
after_write st at other key = refl

pub documents_are_folds : DocumentsAreFolds
documents_are_folds h e key = ap (λ (st : State). document_under key st.documents) (state_from-append nothing h (e ∷ [])) ∙ after_write (state h) (occasion (state h) e) e.write key

-- ---- what is accepted

fifth_none : (a b c d e f : Option Refusal) → first_some (a ∷ b ∷ c ∷ d ∷ e ∷ f ∷ []) ≡ None → e ≡ None
fifth_none a b c d e f is = (no_reason (a ∷ b ∷ c ∷ d ∷ e ∷ f ∷ []) is).1.1.1.1.0

fifth_first : (a b c d e f : Option Refusal) (r : Refusal) → a ≡ None → b ≡ None → c ≡ None → d ≡ None → e ≡ Some r → first_some (a ∷ b ∷ c ∷ d ∷ e ∷ f ∷ []) ≡ Some r
fifth_first a b c d e f r an bn cn dn es = rw (an, bn, cn, dn, es) refl

merged_at : (json : Bool) (o : Option (List ℕ)) → first_some (when (not json) (Broken (rule.T 1)) ∷ when (is_none o) (Broken (rule.T 2)) ∷ []) ≡ None → (merged : List ℕ) × (o ≡ Some merged) × (json ≡ true)
merged_at true (Some merged) is = (merged, refl, refl)
merged_at true None is = cc is
merged_at false o is = cc is

pub posted_documents_are_merged : PostedDocumentsAreMerged
posted_documents_are_merged limit h e key media bytes held makes is =
    let w = write.State how.Post key media bytes in
    let st = state h in
    let x = next_entry st makes.caller w makes.clock makes.draw in
    let own = accepted_at limit (end_offset limit h) x e (write_said (effect st x)) (said_at_once st x) makes.made in
    let free = not_refused (refusal st x) (when (changes_nothing (effect st x)) (write_said (effect st x))) own.0 in
    let met : unmergeable_with media bytes (document_under key st.documents) ≡ None =
    fifth_none (barred Store (who_is st makes.caller)) (bad_form w) (barred_document st (who_is st makes.caller) w) (missing st w) (unmergeable st w) (conflict st (occasion st x) w) free in
    let merges = merged_at (is_json held.media && is_json media) (merge held.bytes bytes) (sym (ap (unmergeable_with media bytes) is) ∙ met) in
    let written : e.write ≡ w = sym (ap (λ (z : Entry). z.write) own.1) in
    let same : is_same_key key key ≡ true = (eq_by_cmp_equiv keys_total).refl key in (
      merges.0,
      merges.1,
      merges.2,
      documents_are_folds h e key ∙ ap (document_after st (occasion st e) key (document_in h key)) written
          ∙ ap (λ b. if b then Some (posted media bytes e.moment (document_in h key)) else document_in h key) same
          ∙ ap (λ o. Some (posted media bytes e.moment o)) is
          ∙ ap (λ o. Some (document_of media (unwrap_or o bytes) e.moment)) merges.1,
    )

-- ---- what is told

module _ (limit : ℕ) (h : List Entry) (caller : Caller) (key : StateKey) (media bytes : List ℕ) (held : Document) (clock : ℕ) (draw : Draw)
    (may : MayChange h caller key.agent key.registration (Some key.state)) (formed : refused_document key.agent media bytes ≡ None) (is : document_in h key ≡ Some held) where
  told_of : (r : Refusal) → unmergeable_with media bytes (Some held) ≡ Some r
      → answer_of limit (end_offset limit h) (outcome_by (said_at_once (state h) (next_entry (state h) caller (write.State how.Post key media bytes) clock draw)) (next_entry (state h) caller (write.State how.Post key media bytes) clock draw) (write_said (effect (state h) (next_entry (state h) caller (write.State how.Post key media bytes) clock draw)))) ≡ only (refused r)
  told_of r why =
      let w = write.State how.Post key media bytes in
      let x = next_entry (state h) caller w clock draw in
      at_once limit h caller w clock draw (refused r)
      (said_refused (state h) x r
      (fifth_first (barred Store (who_in h caller)) (bad_form w) (barred_document (state h) (who_in h caller) w) (missing (state h) w) (unmergeable (state h) w) (conflict (state h) (occasion (state h) x) w) r may.let_in formed may.own refl (ap (unmergeable_with media bytes) is ∙ why)))

pub unmergeable_is_told : UnmergeableIsTold
unmergeable_is_told limit h caller key media bytes held clock draw may formed is = (
  λ other. told_of limit h caller key media bytes held clock draw may formed is (Broken (rule.T 1))
      (ap (λ b. first_some (when (not b) (Broken (rule.T 1)) ∷ when (is_none (merge held.bytes bytes)) (Broken (rule.T 2)) ∷ [])) other),
  λ json none. told_of limit h caller key media bytes held clock draw may formed is (Broken (rule.T 2))
      (ap (λ b. first_some (when (not b) (Broken (rule.T 1)) ∷ when (is_none (merge held.bytes bytes)) (Broken (rule.T 2)) ∷ [])) json
      ∙ ap (λ o. first_some (None ∷ when (is_none o) (Broken (rule.T 2)) ∷ [])) none),
)

pub held_documents_are_shown : HeldDocumentsAreShown
held_documents_are_shown limit h caller key clock draw may =
    ap (λ o. only (refused_or (option_or o (first_some (None ∷ outside (launch_in h caller) key.agent key.registration ∷ []))) (document_said (document_in h key)))) may.let_in
    ∙ ap (λ o. only (refused_or (first_some (None ∷ o ∷ [])) (document_said (document_in h key)))) may.own

none_first : (a b c : Option Refusal) → a ≡ None → b ≡ None → c ≡ None → first_some (a ∷ b ∷ c ∷ None ∷ None ∷ None ∷ []) ≡ None
none_first a b c an bn cn = rw (an, bn, cn) refl

pub nothing_is_dropped_quietly : NothingIsDroppedQuietly
nothing_is_dropped_quietly limit h caller clock draw activity agent registration chosen may formed none =
    let w = Drop activity agent registration chosen in
    let st = state h in
    let x = next_entry st caller w clock draw in
    let same_still : changes_nothing (effect st x) ≡ true = ap (λ keys. changes_nothing (record (no_change x.moment) { documents = Dropped keys })) none in
    at_once limit h caller w clock draw Same
    (said_unchanged st x (none_first (barred Store (who_in h caller)) (refused_agent agent) (overstepped (launch_in h caller) agent registration chosen) may.let_in formed may.own) same_still
    ∙ ap (λ b. Some (if b then Same else Kept)) same_still)
