-- Postings of which one changes.
use Rattle.std.proofs.Common.{◌≡◌, ℕ, nat_lt, Bool, true, false, cond, not, if◌then◌else◌, List, [], ◌∷◌, Option, Some, None, slice_get, refl, sym, ap, subst, ◌∙◌}
use Rattle.std.proofs.lemmas.Bool.{not-false, not-true}
use Rattle.std.specs.Cmp.{IsEquivalence, IsTotalOrder}
use Rattle.std.specs.List.{list_any}
use Rattle.std.specs.Map.{lookup}
use Rattle.std.specs.Option.{option_map_or, unwrap_or}
use Rattle.std.proofs.lemmas.Option.{none-some}
use Rattle.std.proofs.lemmas.Cmp.{eq_by_cmp_equiv}
use Rattle.xapi_statement_keys.specs.Keys.{is_same_key, key_cmp}
use Rattle.xapi_statement_keys.specs.contracts.key.KeyOrd.TheImpl.Laws as key_laws
use Rattle.xapi_statement_keys.specs.contracts.key.KeyPartialEq.TheImpl as key_eq
use Rattle.xapi_statement_keys.specs.declared.key.Key.{Key}
use Rattle.xapi_postings.specs.Ascending.{below}
use Rattle.xapi_postings.specs.Postings.{Changes, SamePostings, posted, posted_if_none, posting_of}
use Rattle.xapi_postings.proofs.Ascending.{none_below}

abbrev pub KeyedPostings : Type 0
KeyedPostings = List (Key × List ℕ)

-- the list that is found, or none
abbrev pub listed : Option (List ℕ) → List ℕ
listed o = option_map_or (λ ks. ks) o []

-- ---- one key

keys_total : IsTotalOrder key_cmp
keys_total = key_laws.total-law

alike : (p q : Key → Bool) → ((k : Key) → p k ≡ q k) → (es : KeyedPostings) → lookup p es ≡ lookup q es
alike p q same [] = refl
alike p q same (e ∷ es) = rw (same e.0, alike p q same es) refl

pub same_keys : IsEquivalence is_same_key
same_keys = eq_by_cmp_equiv keys_total

-- what the equality of keys tells is whether they are the same
pub told_apart : (a b : Key) (told : Bool) → told ≡ not ((key_eq.ghosts).eq a b) → told ≡ true → is_same_key a b ≡ false
told_apart a b told is holds = sym (key_laws.matches_eq-law a b) ∙ not-true ((key_eq.ghosts).eq a b) (sym is ∙ holds)

pub told_same : (a b : Key) (told : Bool) → told ≡ not ((key_eq.ghosts).eq a b) → told ≡ false → is_same_key a b ≡ true
told_same a b told is fails = sym (key_laws.matches_eq-law a b) ∙ not-false ((key_eq.ghosts).eq a b) (sym is ∙ fails)

-- an equal key has the same list
one_list : (key k : Key) (es : KeyedPostings) → is_same_key key k ≡ true → lookup (is_same_key key) es ≡ lookup (is_same_key k) es
one_list key k es same = alike (is_same_key key) (is_same_key k) (λ q. same_keys.congr key k q same) es

-- ---- changes

-- another list stands under the key, or none
changed : (key : Key) (change : List ℕ → List ℕ) (list : Option (List ℕ)) (old new : KeyedPostings)
    → ((k : Key) → lookup (is_same_key k) new ≡ cond (is_same_key key k) list (lookup (is_same_key k) old)) → listed list ≡ change (posting_of key old) → Changes key change old new
changed key change list old new at is = λ k. ap listed (at k) ∙ by_test k (is_same_key key k) refl
  where
    by_test : (k : Key) (b : Bool) → is_same_key key k ≡ b → listed (cond b list (lookup (is_same_key k) old)) ≡ (if b then change (posting_of k old) else posting_of k old)
    by_test k true same = is ∙ ap change (ap listed (one_list key k old same))
    by_test k false other = refl

-- the list of a key becomes another one
pub replaced : (key : Key) (change : List ℕ → List ℕ) (ks js : List ℕ) (inside seen new : KeyedPostings) → inside ≡ seen → lookup (is_same_key key) inside ≡ Some ks
    → ((k : Key) → lookup (is_same_key k) new ≡ cond (is_same_key key k) (Some js) (lookup (is_same_key k) inside)) → js ≡ change ks → Changes key change seen new
replaced key change ks js inside seen new same found at is =
    subst (λ (es : KeyedPostings). Changes key change es new) same (changed key change (Some js) inside new at (is ∙ ap change (sym (ap listed found))))

both : {A : Type 0} (b : Bool) (x : A) → (if b then x else x) ≡ x
both true x = refl
both false x = refl

-- the list of a key stays
pub stayed : (key : Key) (old new : KeyedPostings) → Changes key (λ ks. ks) old new → SamePostings old new
stayed key old new each = λ k. each k ∙ both (is_same_key key k) (posting_of k old)

-- another function changes it in the same way
pub changed_as : (key : Key) (f g : List ℕ → List ℕ) (old new : KeyedPostings) → f (posting_of key old) ≡ g (posting_of key old) → Changes key f old new → Changes key g old new
changed_as key f g old new same each = λ k. each k ∙ by_test k (is_same_key key k) refl
  where
    by_test : (k : Key) (b : Bool) → is_same_key key k ≡ b → (if b then f (posting_of k old) else posting_of k old) ≡ (if b then g (posting_of k old) else posting_of k old)
    by_test k true is =
        let one : posting_of key old ≡ posting_of k old = ap listed (one_list key k old is) in
        sym (ap f one) ∙ (same ∙ ap g one)
    by_test k false other = refl

-- the list of a key is put back as it was
pub put_back : (key : Key) (ks js : List ℕ) (inside seen new : KeyedPostings) → inside ≡ seen → lookup (is_same_key key) inside ≡ Some ks
    → ((k : Key) → lookup (is_same_key k) new ≡ cond (is_same_key key k) (Some js) (lookup (is_same_key k) inside)) → js ≡ ks → SamePostings seen new
put_back key ks js inside seen new same found at is = stayed key seen new (replaced key (λ list. list) ks js inside seen new same found at is)

-- a key gets its first list
pub put_first : (key copy : Key) (position : ℕ) (list : List ℕ) (old new : KeyedPostings) → copy ≡ key → list ≡ position ∷ [] → posting_of key old ≡ []
    → ((k : Key) → lookup (is_same_key k) new ≡ cond (is_same_key copy k) (Some list) (lookup (is_same_key k) old)) → Changes key (posted position) old new
put_first key copy position list old new same one none at =
    let first : posted position [] ≡ posted position (posting_of key old) = ap (posted position) (sym none) in
    changed key (posted position) (Some list) old new (λ k. at k ∙ ap (λ (q : Key). cond (is_same_key q k) (Some list) (lookup (is_same_key k) old)) same) (one ∙ first)

first_stays : (position first : ℕ) (ks : List ℕ) → Some first ≡ slice_get ks 0 → ks ≡ posted_if_none position ks
first_stays position first [] at = absurd (none-some first (sym at))
first_stays position first (k ∷ ks) at = refl

-- a key gets its first list, or keeps the one that it has
pub put_if_none : (key copy : Key) (position first : ℕ) (list : Option (List ℕ)) (value : List ℕ) (inside seen new : KeyedPostings) → copy ≡ key → inside ≡ seen → list ≡ lookup (is_same_key copy) inside
    → value ≡ unwrap_or list (position ∷ []) → Some first ≡ slice_get value 0
    → ((k : Key) → lookup (is_same_key k) new ≡ cond (is_same_key copy k) (Some value) (lookup (is_same_key k) inside)) → Changes key (posted_if_none position) seen new
put_if_none key copy position first list value inside seen new same at is held told into =
    subst (λ (es : KeyedPostings). Changes key (posted_if_none position) es new) at
    (changed key (posted_if_none position) (Some value) inside new (λ k. into k ∙ ap (λ (q : Key). cond (is_same_key q k) (Some value) (lookup (is_same_key k) inside)) same)
    (by_list list held ∙ ap (λ o. posted_if_none position (listed o)) (is ∙ ap (λ (q : Key). lookup (is_same_key q) inside) same)))
  where
    by_list : (o : Option (List ℕ)) → value ≡ unwrap_or o (position ∷ []) → value ≡ posted_if_none position (listed o)
    by_list None e = e
    by_list (Some ks) e = e ∙ first_stays position first ks (told ∙ ap (λ js. slice_get js 0) e)

-- the list of a key is taken out, of which nothing stays
pub taken_out : (key : Key) (n : ℕ) (inside seen new : KeyedPostings) → inside ≡ seen → list_any (λ k. nat_lt k n) (posting_of key seen) ≡ false
    → ((k : Key) → lookup (is_same_key k) new ≡ cond (is_same_key key k) None (lookup (is_same_key k) inside)) → Changes key (below n) seen new
taken_out key n inside seen new same none at =
    subst (λ (es : KeyedPostings). Changes key (below n) es new) same
    (changed key (below n) None inside new at (sym (ap (λ (es : KeyedPostings). below n (posting_of key es)) same ∙ none_below n (posting_of key seen) none)))
