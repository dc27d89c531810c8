-- Slots of documents that are made, and taken back.
use Rattle.std.proofs.Common.{◌≡◌, ℕ, ◌+◌, ◌<◌, Bool, true, false, cond, not, ◌||◌, List, [], ◌∷◌, ◌++◌, length, get_or, take, Option, Some, None, is_some, refl, sym, ap, ◌∙◌, true≢false}
use Rattle.std.specs.BTreeMap.{insert_entry, is_at}
use Rattle.std.specs.Prelude.{option_and_then}
use Rattle.std.specs.Option.{option_flatten}
use Rattle.std.specs.List.Sorted.{IsStrictlySortedBy}
use Rattle.std.specs.Map.{keys_of, lookup, remove_entry}
use Rattle.std.proofs.lemmas.List.{take_more}
use Rattle.std.proofs.lemmas.List.Elements.{filter_agree}
use Rattle.std.proofs.lemmas.List.Folds.{list_any-append}
use Rattle.lrs_register.specs.Slots.{index_of, is_empty_at}
use Rattle.xapi_docs.proofs.Ahead.{emptied}
use Rattle.xapi_docs.proofs.Filled.{found, made, one_more}
use Rattle.xapi_docs.proofs.Keyed.{keys_total}
use Rattle.xapi_docs.specs.Docs.{Slots, documents_in}
use Rattle.xapi_docs.specs.Documents.{Documents, document_under, is_one_of_keys, without_documents}
use Rattle.xapi_keys.specs.Keys.{is_same_key, key_cmp}
use Rattle.xapi_docs.specs.declared.documents.Document.{Document}
use Rattle.xapi_keys.specs.declared.state_key.StateKey.{StateKey}

pub none_of : {A : Type 0} (o : Option A) → is_some o ≡ false → o ≡ None
none_of None no_one = refl
none_of (Some x) no_one = absurd (true≢false no_one)

-- what is held where a slot is made
pub held_by_made : (k copy : StateKey) (slots new : Slots) → copy ≡ k → is_some (lookup (is_at (key_cmp k)) slots) ≡ false → new ≡ insert_entry key_cmp slots copy None → documents_in new ≡ documents_in slots
held_by_made k copy slots new same none is =
    ap documents_in is ∙ ap (λ (z : StateKey). documents_in (insert_entry key_cmp slots z None)) same ∙ made key_cmp k slots (none_of (lookup (is_at (key_cmp k)) slots) none)

-- and where an empty one is let go
pub held_by_left : (k : StateKey) (slots new : Slots) → IsStrictlySortedBy key_cmp (keys_of slots) → is_empty_at key_cmp slots k ≡ true → new ≡ remove_entry (is_at (key_cmp k)) slots → documents_in new ≡ documents_in slots
held_by_left k slots new s empty is = ap documents_in is ∙ emptied keys_total k slots s empty

-- a filled slot is that of a document that is held
pub held_there : (k : StateKey) (slots : Slots) → IsStrictlySortedBy key_cmp (keys_of slots) → is_some (index_of key_cmp slots k) ≡ true → is_some (document_under k (documents_in slots)) ≡ true
held_there k slots s has = ap is_some (found keys_total k slots s ∙ flat (lookup (is_at (key_cmp k)) slots)) ∙ has
  where
    flat : (o : Option (Option Document)) → option_flatten o ≡ option_and_then (λ held. held) o
    flat None = refl
    flat (Some held) = refl

-- nothing is left where a slot is let go
pub none_left : {X : Type 0} (b : Bool) (o : Option X) → b ≡ true → is_some (cond b None o) ≡ true → ⊥
none_left true o same has = true≢false (sym has)
none_left false o same has = true≢false (sym same)

-- ---- without one key more

pub without_more : (keys : List StateKey) (i : ℕ) (key : StateKey) (documents : Documents) → i < length keys → key ≡ get_or keys i key
    → without_documents (key ∷ []) (without_documents (take i keys) documents) ≡ without_documents (take (i + 1) keys) documents
without_more keys i key documents within is =
    one_more (is_one_of_keys (take i keys)) (is_one_of_keys (key ∷ [])) documents
    ∙ filter_agree (λ (held : StateKey × Document). not (is_one_of_keys (take i keys) held.0 || is_one_of_keys (key ∷ []) held.0)) (λ held. not (is_one_of_keys (take (i + 1) keys) held.0))
    (λ held. ap not (sym (list_any-append (λ k. is_same_key k held.0) (take i keys) (key ∷ [])) ∙ ap (λ ks. is_one_of_keys ks held.0) (sym (split ∙ ap (λ k. take i keys ++ k ∷ []) (sym is))))) documents
  where
    split : take (i + 1) keys ≡ take i keys ++ get_or keys i key ∷ []
    split = take_more keys i key within
