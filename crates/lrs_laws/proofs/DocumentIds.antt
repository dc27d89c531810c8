-- The documents stand in the order of their keys, and the ids tell which there are.
use Rattle.std.proofs.Common.{◌≡◌, ◌↔◌, ℕ, ℤ, List, [], ◌∷◌, map, Bool, true, false, not, ◌&&◌, ◌||◌, Option, Some, None, Ordering, Less, Equal, Greater, cond, is_eq, refl, sym, ap, ◌∙◌, true≢false}
use Rattle.std.specs.Prelude.{filter}
use Rattle.std.specs.BTreeMap.{insert_entry}
use Rattle.std.specs.List.{AllByRecursion}
use Rattle.std.specs.List.Sorted.{IsStrictlySortedBy}
use Rattle.std.specs.Map.{keys_of}
use Rattle.std.specs.Option.{option_map_or}
use Rattle.std.specs.Ordering.{match_ordering, ordering_reverse}
use Rattle.std.specs.Str.{bytes_eq}
use Rattle.lrs_agents.specs.declared.identifiers.Ifi.{Ifi}
use Rattle.lrs_history.specs.Effects.{effect}
use Rattle.lrs_history.specs.History.{state, state_from, step}
use Rattle.lrs_laws.proofs.HeldDocuments.{same_is, same_sym, those}
use Rattle.lrs_laws.specs.Documents.{IdsTellDocuments}
use Rattle.lrs_names.specs.Members.{is_one_of}
use Rattle.lrs_state.specs.State.{State, nothing}
use Rattle.lrs_record.specs.declared.entry.Entry.{Entry}
use Rattle.xapi_docs.proofs.Keyed.{ids, keys_tied, keys_total, states_less}
use Rattle.xapi_docs.specs.Changes.{documents_after}
use Rattle.xapi_docs.specs.Documents.{Documents, document_under, ids_in, is_later}
use Rattle.xapi_docs.specs.declared.changes.DocumentsChange.{DocumentsChange}
use Rattle.xapi_docs.specs.declared.changes.DocumentsChange.TheVariants.{Dropped, Unchanged, Written}
use Rattle.xapi_docs.specs.declared.documents.Document.{Document}
use Rattle.xapi_docs.specs.Documents.{is_one_of_keys}
use Rattle.xapi_keys.specs.Keys.{is_of, is_same_key, key_cmp}
use Rattle.xapi_keys.specs.declared.state_key.StateKey.{StateKey}

-- ---- the order of keys

abbrev Above : StateKey → List StateKey → Type 0
Above k ks = AllByRecursion (λ q. key_cmp k q ≡ Less) ks

above_all : (k e : StateKey) (ks : List StateKey) → key_cmp k e ≡ Less → Above e ks → Above k ks
above_all k e [] less all = tt
above_all k e (q ∷ ks) less all = (keys_total.trans k e q less all.0, above_all k e ks less all.1)

above_written : (k key : StateKey) (v : Document) (es : Documents) → key_cmp k key ≡ Less → Above k (keys_of es) → Above k (keys_of (insert_entry key_cmp es key v))
above_written k key v [] less all = (less, tt)
above_written k key v (e ∷ es) less all = by_order (key_cmp key e.0) (above_written k key v es less all.1)
  where
    by_order : (o : Ordering) → Above k (keys_of (insert_entry key_cmp es key v)) → Above k (keys_of (match_ordering o ((key, v) ∷ e ∷ es) ((e.0, v) ∷ es) (e ∷ insert_entry key_cmp es key v)))
    by_order Less later = (less, all)
    by_order Equal later = all
    by_order Greater later = (all.0, later)

written_sorted : (key : StateKey) (v : Document) (es : Documents) → IsStrictlySortedBy key_cmp (keys_of es) → IsStrictlySortedBy key_cmp (keys_of (insert_entry key_cmp es key v))
unfolding IsStrictlySortedBy
written_sorted key v [] s = (tt, tt)
written_sorted key v (e ∷ es) s = by_order (key_cmp key e.0) refl (written_sorted key v es s.1)
  where
    by_order : (o : Ordering) → key_cmp key e.0 ≡ o → IsStrictlySortedBy key_cmp (keys_of (insert_entry key_cmp es key v))
        → IsStrictlySortedBy key_cmp (keys_of (match_ordering o ((key, v) ∷ e ∷ es) ((e.0, v) ∷ es) (e ∷ insert_entry key_cmp es key v)))
    by_order Less is later = ((is, above_all key e.0 (keys_of es) is s.0), s)
    by_order Equal is later = s
    by_order Greater is later = (above_written e.0 key v es (keys_total.antisymm e.0 key ∙ ap ordering_reverse is) s.0, later)

above_kept : (passes : StateKey → Bool) (k : StateKey) (es : Documents) → Above k (keys_of es) → Above k (keys_of (those passes es))
above_kept passes k [] all = tt
above_kept passes k (e ∷ es) all = by_first (passes e.0) (above_kept passes k es all.1)
  where
    by_first : (p : Bool) → Above k (keys_of (those passes es)) → Above k (keys_of (cond p (e ∷ those passes es) (those passes es)))
    by_first true later = (all.0, later)
    by_first false later = later

kept_sorted : (passes : StateKey → Bool) (es : Documents) → IsStrictlySortedBy key_cmp (keys_of es) → IsStrictlySortedBy key_cmp (keys_of (those passes es))
unfolding IsStrictlySortedBy
kept_sorted passes [] s = tt
kept_sorted passes (e ∷ es) s = by_first (passes e.0) (kept_sorted passes es s.1)
  where
    by_first : (p : Bool) → IsStrictlySortedBy key_cmp (keys_of (those passes es)) → IsStrictlySortedBy key_cmp (keys_of (cond p (e ∷ those passes es) (those passes es)))
    by_first true later = (above_kept passes e.0 es s.0, later)
    by_first false later = later

abbrev Stands : Documents → Type 0
Stands docs = IsStrictlySortedBy key_cmp (keys_of docs)

after_sorted : (docs : Documents) (change : DocumentsChange) → Stands docs → Stands (documents_after docs change)
after_sorted docs Unchanged s = s
after_sorted docs (Written key document) s = written_sorted key document docs s
after_sorted docs (Dropped keys) s = kept_sorted (λ q. not (is_one_of_keys keys q)) docs s

from_sorted : (st : State) (h : List Entry) → Stands st.documents → Stands (state_from st h).documents
from_sorted st [] s = s
from_sorted st (e ∷ h) s = from_sorted (step st e) h (after_sorted st.documents (effect st e).documents s)

none_sorted : Stands []
unfolding IsStrictlySortedBy
none_sorted = tt

-- ---- the ids

module _ (activity : List ℕ) (agent : Ifi) (registration : Option (List ℕ)) (since : Option ℤ) where
  abbrev is_told : StateKey × Document → Bool
  is_told e = is_of activity agent registration e.0 && is_later since e.1

  abbrev told : Documents → List (List ℕ)
  told docs = ids_in activity agent registration since docs

  first_true : (a b : Bool) → (a && b) ≡ true → a ≡ true
  first_true true b e = refl
  first_true false b e = e

  told_above : (k : StateKey) (es : Documents) → is_of activity agent registration k ≡ true → Above k (keys_of es) → AllByRecursion (λ id. ids k.state id ≡ Less) (told es)
  told_above k [] of all = tt
  told_above k (e ∷ es) of all = by_first (is_told e) refl (told_above k es of all.1)
    where
      by_first : (t : Bool) → is_told e ≡ t → AllByRecursion (λ id. ids k.state id ≡ Less) (told es)
          → AllByRecursion (λ id. ids k.state id ≡ Less) (map (λ (held : StateKey × Document). held.0.state) (cond t (e ∷ filter is_told es) (filter is_told es)))
      by_first true is later = (states_less activity agent registration k e.0 of (first_true (is_of activity agent registration e.0) (is_later since e.1) is) all.0, later)
      by_first false is later = later

  told_sorted : (es : Documents) → Stands es → IsStrictlySortedBy ids (told es)
  unfolding IsStrictlySortedBy
  told_sorted [] s = tt
  told_sorted (e ∷ es) s = by_first (is_told e) refl (told_sorted es s.1)
    where
      by_first : (t : Bool) → is_told e ≡ t → IsStrictlySortedBy ids (told es)
          → IsStrictlySortedBy ids (map (λ (held : StateKey × Document). held.0.state) (cond t (e ∷ filter is_told es) (filter is_told es)))
      by_first true is later = (told_above e.0 es (first_true (is_of activity agent registration e.0) (is_later since e.1) is) s.0, later)
      by_first false is later = later

  module _ (id : List ℕ) where
    abbrev key : StateKey
    key = record { activity = activity; agent = agent; registration = registration; state = id }

    none_above : (k : StateKey) (es : Documents) → Above k (keys_of es) → document_under k es ≡ None
    none_above k [] all = refl
    none_above k (e ∷ es) all = ap (λ o. cond (is_eq o) (Some e.1) (document_under k es)) all.0 ∙ none_above k es all.1

    -- what is told of an id by the document under its key
    abbrev by_key : Option Document → Bool
    by_key o = option_map_or (is_later since) o false

    and_true : (a b c : Bool) → c ≡ (a && b) → c ≡ true → (a ≡ true) × (b ≡ true)
    and_true true b c e t = (refl, sym e ∙ t)
    and_true false b c e t = absurd (true≢false (sym t ∙ e))

    and_other : (a b c : Bool) → c ≡ (a && b) → c ≡ false → a ≡ true → b ≡ false
    and_other true b c e f t = sym e ∙ f
    and_other false b c e f t = absurd (true≢false (sym t))

    first_told : (e : StateKey × Document) (es : Documents) (s o l : Bool) → is_same_key e.0 key ≡ s → is_of activity agent registration e.0 ≡ o → is_later since e.1 ≡ l → Above e.0 (keys_of es)
        → is_one_of (told es) id ≡ by_key (document_under key es)
        → is_one_of (map (λ (held : StateKey × Document). held.0.state) (cond (o && l) (e ∷ filter is_told es) (filter is_told es))) id ≡ by_key (cond s (Some e.1) (document_under key es))
    first_told e es true true true is of late all later = ap (λ b. b || is_one_of (told es) id) (and_true (is_of activity agent registration e.0) (bytes_eq e.0.state id) (is_same_key e.0 key) (keys_tied e.0 key) is).1 ∙ sym late
    first_told e es true true false is of late all later = later ∙ ap by_key (ap (λ k. document_under k es) (sym (same_is e.0 key is)) ∙ none_above e.0 es all) ∙ sym late
    first_told e es true false l is of late all later = absurd (true≢false (sym (and_true (is_of activity agent registration e.0) (bytes_eq e.0.state id) (is_same_key e.0 key) (keys_tied e.0 key) is).0 ∙ of))
    first_told e es false true true is of late all later =
        ap (λ b. b || is_one_of (told es) id) (and_other (is_of activity agent registration e.0) (bytes_eq e.0.state id) (is_same_key e.0 key) (keys_tied e.0 key) is of) ∙ later
    first_told e es false true false is of late all later = later
    first_told e es false false l is of late all later = later

    told_by_key : (es : Documents) → Stands es → is_one_of (told es) id ≡ by_key (document_under key es)
    unfolding IsStrictlySortedBy
    told_by_key [] s = refl
    told_by_key (e ∷ es) s =
        first_told e es (is_same_key e.0 key) (is_of activity agent registration e.0) (is_later since e.1) refl refl refl s.0 (told_by_key es s.1)
        ∙ ap (λ b. by_key (cond b (Some e.1) (document_under key es))) (same_sym e.0 key)

    held_by : (o : Option Document) → (by_key o ≡ true) ↔ ((document : Document) × (o ≡ Some document) × (is_later since document ≡ true))
    held_by None = (λ t. absurd (true≢false (sym t)), λ d. cc d.1)
    held_by (Some document) = (λ t. (document, refl, t), λ d. let same : document ≡ d.0 = cc d.1 in ap (is_later since) same ∙ d.2)

    tells : (es : Documents) → Stands es → (is_one_of (told es) id ≡ true) ↔ ((document : Document) × (document_under key es ≡ Some document) × (is_later since document ≡ true))
    tells es s =
        let same = told_by_key es s in
        let both = held_by (document_under key es) in
        (λ t. both.0 (sym same ∙ t), λ d. same ∙ both.1 d)

pub ids_tell_documents : IdsTellDocuments
ids_tell_documents h activity agent registration since =
    let s = from_sorted nothing h none_sorted in
    (told_sorted activity agent registration since (state h).documents s, λ id. tells activity agent registration since id (state h).documents s)
