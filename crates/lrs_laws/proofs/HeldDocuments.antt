-- Which document stands under a key where one is written, and where some are dropped.
use Rattle.std.proofs.Common.{◌≡◌, [], ◌∷◌, map, Bool, true, false, not, ◌||◌, Option, Some, None, Ordering, Less, Equal, Greater, cond, is_eq, refl, sym, ap, ◌∙◌, true≢false}
use Rattle.std.specs.Prelude.{filter}
use Rattle.std.specs.BTreeMap.{insert_entry, is_at}
use Rattle.std.specs.List.{list_any}
use Rattle.std.specs.Map.{lookup}
use Rattle.std.specs.Ordering.{match_ordering}
use Rattle.std.proofs.lemmas.Cmp.{eq_by_cmp_equiv}
use Rattle.xapi_docs.proofs.Keyed.{keys_exact, keys_total}
use Rattle.xapi_docs.specs.Documents.{Documents, document_under, is_one_of_keys, with_document, without_documents}
use Rattle.xapi_docs.specs.declared.documents.Document.{Document}
use Rattle.xapi_keys.specs.Keys.{is_same_key, key_cmp}
use Rattle.xapi_keys.specs.declared.state_key.StateKey.{StateKey}

pub same_sym : (a b : StateKey) → is_same_key a b ≡ is_same_key b a
same_sym a b = (eq_by_cmp_equiv keys_total).symm a b

equal_order : (o : Ordering) → is_eq o ≡ true → o ≡ Equal
equal_order Less e = absurd (true≢false (sym e))
equal_order Equal e = refl
equal_order Greater e = absurd (true≢false (sym e))

pub same_is : (a b : StateKey) → is_same_key a b ≡ true → a ≡ b
same_is a b e = keys_exact a b (equal_order (key_cmp a b) e)

-- ---- a document is written

twice : {A : Type 0} (t : Bool) (a b c : A) → cond t a c ≡ cond t a (cond t b c)
twice true a b c = refl
twice false a b c = refl

swap : {A : Type 0} (s t : Bool) (a b c : A) → (t ≡ true → s ≡ false) → cond t b (cond s a c) ≡ cond s a (cond t b c)
swap true true a b c apart = absurd (true≢false (apart refl))
swap true false a b c apart = refl
swap false true a b c apart = refl
swap false false a b c apart = refl

-- under its key it is found, and under another one what was found before
pub written_under : (k key : StateKey) (v : Document) (docs : Documents) → document_under k (with_document key v docs) ≡ cond (is_same_key key k) (Some v) (document_under k docs)
written_under k key v [] = ap (λ b. cond b (Some v) None) (same_sym k key)
written_under k key v (e ∷ es) = by_order (key_cmp key e.0) refl (written_under k key v es)
  where
    by_order : (o : Ordering) → key_cmp key e.0 ≡ o → document_under k (insert_entry key_cmp es key v) ≡ cond (is_same_key key k) (Some v) (document_under k es)
        → lookup (is_at (key_cmp k)) (match_ordering o ((key, v) ∷ e ∷ es) ((e.0, v) ∷ es) (e ∷ insert_entry key_cmp es key v))
        ≡ cond (is_same_key key k) (Some v) (cond (is_same_key k e.0) (Some e.1) (document_under k es))
    by_order Less is later = ap (λ b. cond b (Some v) (cond (is_same_key k e.0) (Some e.1) (document_under k es))) (same_sym k key)
    by_order Equal is later =
        let here : is_same_key key k ≡ is_same_key k e.0 = same_sym key k ∙ ap (λ z. is_same_key k z) (keys_exact key e.0 is) in
        twice (is_same_key k e.0) (Some v) (Some e.1) (document_under k es) ∙ ap (λ b. cond b (Some v) (cond (is_same_key k e.0) (Some e.1) (document_under k es))) (sym here)
    by_order Greater is later =
        ap (λ o. cond (is_same_key k e.0) (Some e.1) o) later
        ∙ swap (is_same_key key k) (is_same_key k e.0) (Some v) (Some e.1) (document_under k es) (λ same. ap (λ z. is_same_key key z) (same_is k e.0 same) ∙ ap is_eq is)

-- ---- documents are dropped

-- those that pass, and none else
abbrev pub those : (StateKey → Bool) → Documents → Documents
those passes docs = filter (λ held. passes held.0) docs

kept_step : (passes : StateKey → Bool) (k : StateKey) (e : StateKey × Document) (more rest : Option Document) (t p : Bool) → is_same_key k e.0 ≡ t → passes e.0 ≡ p → more ≡ cond (passes k) rest None
    → cond p (cond t (Some e.1) more) more ≡ cond (passes k) (cond t (Some e.1) rest) None
kept_step passes k e more rest true true is pe q = let here : passes k ≡ true = ap passes (same_is k e.0 is) ∙ pe in sym (ap (λ b. cond b (Some e.1) None) here)
kept_step passes k e more rest true false is pe q =
    let here : passes k ≡ false = ap passes (same_is k e.0 is) ∙ pe in
    q ∙ ap (λ b. cond b rest None) here ∙ sym (ap (λ b. cond b (Some e.1) None) here)
kept_step passes k e more rest false true is pe q = q
kept_step passes k e more rest false false is pe q = q

split_filter : (test : StateKey → Bool) (p : Bool) (e : StateKey × Document) (es : Documents) → lookup test (cond p (e ∷ es) es) ≡ cond p (cond (test e.0) (Some e.1) (lookup test es)) (lookup test es)
split_filter test true e es = refl
split_filter test false e es = refl

-- what is found among them
pub kept_under : (passes : StateKey → Bool) (k : StateKey) (docs : Documents) → document_under k (those passes docs) ≡ cond (passes k) (document_under k docs) None
kept_under passes k [] = none (passes k)
  where
    none : (b : Bool) → ◌≡◌ {A = Option Document} None (cond b None None)
    none true = refl
    none false = refl
kept_under passes k (e ∷ es) =
    split_filter (is_at (key_cmp k)) (passes e.0) e (those passes es)
    ∙ kept_step passes k e (document_under k (those passes es)) (document_under k es) (is_same_key k e.0) (passes e.0) refl refl (kept_under passes k es)

-- ---- keys of documents

any_split : (p : StateKey → Bool) (t : Bool) (e : StateKey × Document) (es : Documents) → list_any p (map (λ held. held.0) (cond t (e ∷ es) es)) ≡ cond t (cond (p e.0) true (list_any p (map (λ held. held.0) es))) (list_any p (map (λ held. held.0) es))
any_split p true e es = or_cond (p e.0) (list_any p (map (λ held. held.0) es))
  where
    or_cond : (a b : Bool) → (a || b) ≡ cond a true b
    or_cond true b = refl
    or_cond false b = refl
any_split p false e es = refl

-- no key of those that pass is one that doesn't
pub none_passes : (passes : StateKey → Bool) (k : StateKey) (docs : Documents) → passes k ≡ false → is_one_of_keys (map (λ held. held.0) (those passes docs)) k ≡ false
none_passes passes k [] f = refl
none_passes passes k (e ∷ es) f =
    any_split (λ q. is_same_key q k) (passes e.0) e (those passes es) ∙ by_first (passes e.0) (is_same_key e.0 k) refl refl (none_passes passes k es f)
  where
    by_first : (p t : Bool) → passes e.0 ≡ p → is_same_key e.0 k ≡ t → is_one_of_keys (map (λ held. held.0) (those passes es)) k ≡ false
        → cond p (cond t true (is_one_of_keys (map (λ held. held.0) (those passes es)) k)) (is_one_of_keys (map (λ held. held.0) (those passes es)) k) ≡ false
    by_first true true pe is later = absurd (true≢false (sym pe ∙ ap passes (same_is e.0 k is) ∙ f))
    by_first true false pe is later = later
    by_first false t pe is later = later

-- the key of a document that passes is one of those
pub one_passes : (passes : StateKey → Bool) (k : StateKey) (v : Document) (docs : Documents) → passes k ≡ true → document_under k docs ≡ Some v → is_one_of_keys (map (λ held. held.0) (those passes docs)) k ≡ true
one_passes passes k v [] t found = cc found
one_passes passes k v (e ∷ es) t found =
    any_split (λ q. is_same_key q k) (passes e.0) e (those passes es) ∙ by_first (passes e.0) (is_same_key e.0 k) refl refl (λ later. one_passes passes k v es t later)
  where
    by_first : (p s : Bool) → passes e.0 ≡ p → is_same_key e.0 k ≡ s → (document_under k es ≡ Some v → is_one_of_keys (map (λ held. held.0) (those passes es)) k ≡ true)
        → cond p (cond s true (is_one_of_keys (map (λ held. held.0) (those passes es)) k)) (is_one_of_keys (map (λ held. held.0) (those passes es)) k) ≡ true
    by_first true true pe is later = refl
    by_first false true pe is later = absurd (true≢false (sym (ap passes (same_is e.0 k is) ∙ t) ∙ pe))
    by_first true false pe is later = later (sym (ap (λ b. cond b (Some e.1) (document_under k es)) (same_sym k e.0 ∙ is)) ∙ found)
    by_first false false pe is later = later (sym (ap (λ b. cond b (Some e.1) (document_under k es)) (same_sym k e.0 ∙ is)) ∙ found)

by_found : (passes : StateKey → Bool) (k : StateKey) (docs : Documents) (o : Option Document) → document_under k docs ≡ o → (p : Bool) → passes k ≡ p
    → cond (not (is_one_of_keys (map (λ held. held.0) (those passes docs)) k)) o None ≡ cond p None o
by_found passes k docs None is true pk = none (not (is_one_of_keys (map (λ held. held.0) (those passes docs)) k))
  where
    none : (b : Bool) → ◌≡◌ {A = Option Document} (cond b None None) None
    none true = refl
    none false = refl
by_found passes k docs (Some v) is true pk = ap (λ b. cond (not b) (Some v) None) (one_passes passes k v docs pk is)
by_found passes k docs o is false pk = ap (λ b. cond (not b) o None) (none_passes passes k docs pk)

-- those that pass are dropped, and nothing else is
pub dropped_under : (passes : StateKey → Bool) (k : StateKey) (docs : Documents) → document_under k (without_documents (map (λ held. held.0) (those passes docs)) docs) ≡ cond (passes k) None (document_under k docs)
dropped_under passes k docs =
    kept_under (λ q. not (is_one_of_keys (map (λ held. held.0) (those passes docs)) q)) k docs ∙ by_found passes k docs (document_under k docs) refl (passes k) refl
