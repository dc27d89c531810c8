-- A position that is put under the keys of a statement, if none stands under its own key.
use Rattle.std.proofs.Common.{◌≡◌, ◌⊎◌, ◌<◌, ℕ, List, [], ◌∷◌, refl, sym, ◌∙◌, ap, arith, inl, inr, Some, Bool, true, false, cond, not, is_some, slice_get, take, ◌&&◌, ◌||◌}
use Rattle.std.specs.List.{AllByRecursion}
use Rattle.std.proofs.lemmas.Bool.{and_from, and_parts}
use Rattle.std.proofs.lemmas.Option.{same_Some}
use Rattle.xapi_index.specs.Ahead.{ChangesEach, ChangesSome, is_other}
use Rattle.xapi_index.proofs.Changing.{changed_more, posted_again}
use Rattle.xapi_index.proofs.Keyed.{among_front}
use Rattle.xapi_postings.specs.Postings.{Changes, SamePostings, posted, posted_if_none, posting_of}
use Rattle.xapi_postings.proofs.Changing.{changed_as, same_keys, stayed}
use Rattle.xapi_postings.specs.XapiStatementKeysKeys.{is_among, is_same_key}
use Rattle.xapi_postings.specs.XapiStatementKeysKeyKey.{Key}

abbrev Postings : Type 0
Postings = List (Key × List ℕ)

-- ---- whether one stood there

alone : (position first : ℕ) (ks : List ℕ) → AllByRecursion (λ k. k < position) ks → Some first ≡ slice_get (posted_if_none position ks) 0 → first ≡ position → ks ≡ []
alone position first [] behind told is = refl
alone position first (k ∷ ks) behind told is = absurd (omega (arith, same_Some first k told, behind.0))

some_there : (position first : ℕ) (ks : List ℕ) → Some first ≡ slice_get (posted_if_none position ks) 0 → (first ≡ position → ⊥) → is_some (slice_get ks 0) ≡ true
some_there position first [] told other = absurd (other (same_Some first position told))
some_there position first (k ∷ ks) told other = refl

some_stay : (position first : ℕ) (ks : List ℕ) → Some first ≡ slice_get (posted_if_none position ks) 0 → (first ≡ position → ⊥) → posted_if_none position ks ≡ ks
some_stay position first [] told other = absurd (other (same_Some first position told))
some_stay position first (k ∷ ks) told other = refl

under_own : (own : Key) (position first : ℕ) (old mid : Postings) → Changes own (posted_if_none position) old mid → Some first ≡ slice_get (posting_of own mid) 0
    → Some first ≡ slice_get (posted_if_none position (posting_of own old)) 0
under_own own position first old mid each told =
    told ∙ ap (λ ks. slice_get ks 0) (each own ∙ ap (λ b. cond b (posted_if_none position (posting_of own old)) (posting_of own old)) (same_keys.refl own))

pub none_stood : (own : Key) (position first : ℕ) (old mid : Postings) → AllByRecursion (λ k. k < position) (posting_of own old) → Changes own (posted_if_none position) old mid
    → Some first ≡ slice_get (posting_of own mid) 0 → first ≡ position → posting_of own old ≡ []
none_stood own position first old mid behind each told is = alone position first (posting_of own old) behind (under_own own position first old mid each told) is

pub one_stood : (own : Key) (position first : ℕ) (old mid : Postings) → Changes own (posted_if_none position) old mid → Some first ≡ slice_get (posting_of own mid) 0 → (first ≡ position → ⊥)
    → is_some (slice_get (posting_of own old) 0) ≡ true
one_stood own position first old mid each told other = some_there position first (posting_of own old) (under_own own position first old mid each told) other

-- then nothing changes
pub kept_all : (own : Key) (position first : ℕ) (old mid : Postings) → Changes own (posted_if_none position) old mid → Some first ≡ slice_get (posting_of own mid) 0 → (first ≡ position → ⊥)
    → SamePostings old mid
kept_all own position first old mid each told other =
    stayed own old mid (changed_as own (posted_if_none position) (λ ks. ks) old mid (some_stay position first (posting_of own old) (under_own own position first old mid each told) other) each)

-- where none stood, its own key has the position
pub posted_own : (own : Key) (position : ℕ) (old mid : Postings) → posting_of own old ≡ [] → Changes own (posted_if_none position) old mid → ChangesEach (is_same_key own) (posted position) old mid
posted_own own position old mid none each = changed_as own (posted_if_none position) (posted position) old mid (ap (posted_if_none position) none ∙ sym (ap (posted position) none)) each

-- ---- its own key, and the others

among_alike : (own k : Key) (keys : List Key) → is_same_key own k ≡ true → is_among own keys ≡ is_among k keys
among_alike own k [] same = refl
among_alike own k (x ∷ xs) same =
    ap (λ b. b || is_among own xs) (same_keys.symm x own ∙ (same_keys.congr own k x same ∙ same_keys.symm k x)) ∙ ap (λ b. is_same_key x k || b) (among_alike own k xs same)

and_true : (b : Bool) → b ≡ (b && true)
and_true true = refl
and_true false = refl

split_own : (own : Key) (keys : List Key) → is_among own keys ≡ true → (k : Key) → is_among k keys ≡ (is_same_key own k || is_other own keys k)
split_own own keys is k = by_test (is_same_key own k) refl
  where
    by_test : (b : Bool) → is_same_key own k ≡ b → is_among k keys ≡ (b || (is_among k keys && not b))
    by_test true same = sym (among_alike own k keys same) ∙ is
    by_test false other = and_true (is_among k keys)

pub new_each : (own : Key) (keys : List Key) (position : ℕ) (old mid new : Postings) → is_among own keys ≡ true → ChangesEach (is_same_key own) (posted position) old mid
    → ChangesEach (is_other own keys) (posted position) mid new → ChangesEach (λ k. is_among k keys) (posted position) old new
new_each own keys position old mid new is before after =
    changed_more (is_same_key own) (is_other own keys) (λ k. is_among k keys) (posted position) old mid new (posted_again position) (split_own own keys is) before after

pub new_some : (own : Key) (keys : List Key) (position : ℕ) (old mid new : Postings) → is_among own keys ≡ true → ChangesEach (is_same_key own) (posted position) old mid
    → ChangesSome (is_other own keys) (posted position) mid new → ChangesSome (λ k. is_among k keys) (posted position) old new
new_some own keys position old mid new is before after = λ k. by_own k (is_same_key own k) refl (before k) (after k)
  where
    by_own : (k : Key) (b : Bool) → is_same_key own k ≡ b → posting_of k mid ≡ cond b (posted position (posting_of k old)) (posting_of k old)
        → (posting_of k new ≡ posting_of k mid) ⊎ ((is_other own keys k ≡ true) × (posting_of k new ≡ posted position (posting_of k mid)))
        → (posting_of k new ≡ posting_of k old) ⊎ ((is_among k keys ≡ true) × (posting_of k new ≡ posted position (posting_of k old)))
    by_own k true same first (inl stays) = inr (sym (among_alike own k keys same) ∙ is, stays ∙ first)
    by_own k true same first (inr more) = inr (sym (among_alike own k keys same) ∙ is, more.1 ∙ (ap (posted position) first ∙ posted_again position (posting_of k old)))
    by_own k false other first (inl stays) = inl (stays ∙ first)
    by_own k false other first (inr more) = inr ((and_parts (is_among k keys) (not (is_same_key own k)) more.0).0, more.1 ∙ ap (posted position) first)

pub same_some : (passes : Key → Bool) (change : List ℕ → List ℕ) (old new : Postings) → SamePostings old new → ChangesSome passes change old new
same_some passes change old new same = λ k. inl (same k)

-- ---- one key more

one_more : (a : Bool) → ((a || true) && true) ≡ ((a && true) || true)
one_more true = refl
one_more false = refl

none_more : (a o : Bool) → ((a || false) && o) ≡ ((a && o) || false)
none_more true true = refl
none_more true false = refl
none_more false o = refl

-- another key
pub other_more : (own x k : Key) (a next : Bool) → next ≡ (a || is_same_key x k) → is_same_key x own ≡ false → (next && not (is_same_key own k)) ≡ ((a && not (is_same_key own k)) || is_same_key x k)
other_more own x k a next split apart = ap (λ b. b && not (is_same_key own k)) split ∙ by_test (is_same_key x k) refl
  where
    by_test : (b : Bool) → is_same_key x k ≡ b → ((a || b) && not (is_same_key own k)) ≡ ((a && not (is_same_key own k)) || b)
    by_test true is =
        let far : is_same_key own k ≡ false = same_keys.symm own k ∙ (sym (same_keys.congr x k own is) ∙ apart) in
        ap (λ o. (a || true) && not o) far ∙ (one_more a ∙ sym (ap (λ o. (a && not o) || true) far))
    by_test false other = none_more a (not (is_same_key own k))

lost : (a o : Bool) → ((a || o) && not o) ≡ (a && not o)
lost true o = refl
lost false true = refl
lost false false = refl

-- its own key
pub other_same : (own x k : Key) (a next : Bool) → next ≡ (a || is_same_key x k) → is_same_key x own ≡ true → (next && not (is_same_key own k)) ≡ (a && not (is_same_key own k))
other_same own x k a next split same =
    ap (λ b. b && not (is_same_key own k)) split ∙ (ap (λ b. (a || b) && not (is_same_key own k)) (same_keys.congr x own k same) ∙ lost a (is_same_key own k))

pub other_front : (own : Key) (i : ℕ) (keys : List Key) (k : Key) → is_other own (take i keys) k ≡ true → is_other own keys k ≡ true
other_front own i keys k is =
    let both : (is_among k (take i keys) ≡ true) × (not (is_same_key own k) ≡ true) = and_parts (is_among k (take i keys)) (not (is_same_key own k)) is in
    and_from (is_among k keys) (not (is_same_key own k)) (among_front k i keys both.0) both.1
