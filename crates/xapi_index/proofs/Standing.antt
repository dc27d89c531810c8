-- Positions of statements that are to come: what is true of the postings while some stand ahead, and when none does.
use Rattle.std.proofs.Common.{◌≡◌, ◌⊎◌, ◌+◌, ◌<◌, ◌≤◌, ℕ, List, [], ◌∷◌, ◌++◌, length, append-nil, append_assoc, refl, sym, ◌∙◌, ap, subst, arith, inl, inr, true≢false, Bool, true, false, cond, nat_lt, take}
use Rattle.std.proofs.lemmas.Bool.{or_parts}
use Rattle.std.specs.List.{AllByRecursion}
use Rattle.std.proofs.lemmas.List.{length-append, length_push, take-append-le, take_all}
use Rattle.std.proofs.lemmas.List.Elements.{filter-append}
use Rattle.std.proofs.lemmas.Option.{none-some}
use Rattle.xapi_index.specs.Ahead.{ChangesEach, ChangesSome, StandAhead}
use Rattle.xapi_index.specs.Index.{ArePosted, IsIndex, IsPosting, IsRising, is_coming}
use Rattle.xapi_index.proofs.Changing.{posted_new}
use Rattle.xapi_index.proofs.Firsts.{lt_no}
use Rattle.xapi_index.proofs.Found.{each_still}
use Rattle.xapi_index.proofs.Keyed.{coming_push}
use Rattle.xapi_postings.specs.Ascending.{below, positions_with}
use Rattle.xapi_postings.specs.Postings.{SamePostings, posted, posting_of}
use Rattle.xapi_postings.proofs.Ascending.{all-append, ascending-append, positions-append, positions-ascending, positions-below, positions-bounded}
use Rattle.xapi_postings.specs.XapiStatementStored.{StoredStatement}
use Rattle.xapi_postings.specs.XapiStatementKeysKeys.{has_key, is_among}
use Rattle.xapi_postings.specs.XapiStatementKeysKeyKey.{Key}

-- ---- one posting

posting_wider : (held : List StoredStatement) (n m : ℕ) (key : Key) (ks : List ℕ) → n ≤ m → IsPosting held n key ks → IsPosting held m key ks
posting_wider held n m key ks le is = record {
  visible = is.visible;
  ascending = is.ascending;
  bounded = each_still (λ k. k < length held + n) (λ k. k < length held + m) (λ k less. omega arith) ks is.bounded;
}

-- one position more, behind all others
posting_more : (held : List StoredStatement) (n : ℕ) (key : Key) (ks : List ℕ) (position : ℕ) → position ≡ length held + n → IsPosting held n key ks → IsPosting held (n + 1) key (ks ++ position ∷ [])
posting_more held n key ks position at is = record {
  visible = filter-append (λ k. nat_lt k (length held)) ks (position ∷ [])
      ∙ (ap (λ b. below (length held) ks ++ cond b (position ∷ []) []) (lt_no position (length held) (omega arith)) ∙ (append-nil (below (length held) ks) ∙ is.visible));
  ascending = ascending-append ks position is.ascending (each_still (λ k. k < length held + n) (λ k. k < position) (λ k less. omega arith) ks is.bounded);
  bounded = all-append (λ k. k < length held + (n + 1)) ks position (each_still (λ k. k < length held + n) (λ k. k < length held + (n + 1)) (λ k less. omega arith) ks is.bounded) (omega arith);
}

-- ---- those that are held, and others behind them

pub front_stays : (held ahead : List StoredStatement) → take (length held) (held ++ ahead) ≡ held
front_stays held ahead = take-append-le (length held) held ahead (omega arith) ∙ take_all (length held) held (omega arith)

long_by : (held ahead : List StoredStatement) (n : ℕ) → length ahead ≡ n → length (held ++ ahead) ≡ length held + n
long_by held ahead n is = length-append held ahead ∙ ap (λ m. length held + m) is

posting_ahead : (held ahead : List StoredStatement) (postings : List (Key × List ℕ)) (coming : List (List Key)) → StandAhead held ahead postings coming
    → (key : Key) → IsPosting held (length coming) key (positions_with (has_key key) (held ++ ahead))
posting_ahead held ahead postings coming stand key = record {
  visible = positions-below (has_key key) (length held) (held ++ ahead) ∙ ap (λ (xs : List StoredStatement). positions_with (has_key key) xs) (front_stays held ahead);
  ascending = positions-ascending (has_key key) (held ++ ahead);
  bounded = subst (λ n. AllByRecursion (λ k. k < n) (positions_with (has_key key) (held ++ ahead))) (long_by held ahead (length coming) stand.long) (positions-bounded (has_key key) (held ++ ahead));
}

posted_last : (key : Key) (all : List StoredStatement) (position : ℕ) → position ≡ length all → posted position (positions_with (has_key key) all) ≡ positions_with (has_key key) all ++ position ∷ []
posted_last key all position at =
    posted_new position (positions_with (has_key key) all) (subst (λ n. AllByRecursion (λ k. k < n) (positions_with (has_key key) all)) (sym at) (positions-bounded (has_key key) all))

-- ---- some stand ahead

pub stand_start : (held ahead : List StoredStatement) (postings : List (Key × List ℕ)) (coming : List (List Key)) → ArePosted held postings → ahead ≡ [] → coming ≡ [] → StandAhead held ahead postings coming
stand_start held ahead postings coming are none_ahead nothing = record {
  posted = λ key. are key ∙ ap (λ (xs : List StoredStatement). positions_with (has_key key) xs) (sym alone);
  long = omega (arith, ap length none_ahead, ap length nothing);
  others = λ key none. ap (λ (xs : List StoredStatement). positions_with (has_key key) xs) alone;
}
  where
    alone : held ++ ahead ≡ held
    alone = ap (λ (xs : List StoredStatement). held ++ xs) none_ahead ∙ append-nil held

-- no posting changes
pub stand_same : (held ahead : List StoredStatement) (old new : List (Key × List ℕ)) (coming : List (List Key)) → SamePostings old new → StandAhead held ahead old coming → StandAhead held ahead new coming
stand_same held ahead old new coming same stand = record { posted = λ key. same key ∙ stand.posted key; long = stand.long; others = stand.others }

-- the positions under a key come before the next one
pub stand_behind : (held ahead : List StoredStatement) (postings : List (Key × List ℕ)) (coming : List (List Key)) (position : ℕ) → position ≡ length held + length ahead → StandAhead held ahead postings coming
    → (key : Key) → AllByRecursion (λ k. k < position) (posting_of key postings)
stand_behind held ahead postings coming position at stand key =
    subst (λ ks. AllByRecursion (λ k. k < position) ks) (sym (stand.posted key))
    (subst (λ n. AllByRecursion (λ k. k < n) (positions_with (has_key key) (held ++ ahead))) (length-append held ahead ∙ sym at) (positions-bounded (has_key key) (held ++ ahead)))

-- one more that is to come, of which all keys are kept, and its position under each
pub stand_more : (held ahead : List StoredStatement) (old new : List (Key × List ℕ)) (coming : List (List Key)) (keys : List Key) (s : StoredStatement) (position : ℕ) → position ≡ length held + length coming
    → ((k : Key) → is_among k keys ≡ has_key k s) → ChangesEach (λ k. is_among k keys) (posted position) old new → StandAhead held ahead old coming
    → StandAhead held (ahead ++ s ∷ []) new (coming ++ keys ∷ [])
stand_more held ahead old new coming keys s position at told each stand = record {
  posted = λ key.
      each key
      ∙ (ap (λ ks. cond (is_among key keys) (posted position ks) ks) (stand.posted key)
      ∙ (ap (λ b. cond b (posted position (positions_with (has_key key) (held ++ ahead))) (positions_with (has_key key) (held ++ ahead))) (told key)
      ∙ (ap (λ ks. cond (has_key key s) ks (positions_with (has_key key) (held ++ ahead))) (posted_last key (held ++ ahead) position last ∙ ap (λ k. positions_with (has_key key) (held ++ ahead) ++ k ∷ []) last)
      ∙ (sym (positions-append (has_key key) (held ++ ahead) s) ∙ ap (λ (xs : List StoredStatement). positions_with (has_key key) xs) behind))));
  long = omega (arith, stand.long, length_push ahead s, length_push coming keys);
  others = λ key none.
      ap (λ (xs : List StoredStatement). positions_with (has_key key) xs) (sym behind)
      ∙ (positions-append (has_key key) (held ++ ahead) s
      ∙ (ap (λ b. cond b (positions_with (has_key key) (held ++ ahead) ++ length (held ++ ahead) ∷ []) (positions_with (has_key key) (held ++ ahead)))
      (sym (told key) ∙ (or_parts (is_coming key coming) (is_among key keys) (sym (coming_push key coming keys) ∙ none)).1)
      ∙ stand.others key (or_parts (is_coming key coming) (is_among key keys) (sym (coming_push key coming keys) ∙ none)).0));
}
  where
    last : position ≡ length (held ++ ahead)
    last = at ∙ sym (long_by held ahead (length coming) stand.long)

    behind : (held ++ ahead) ++ s ∷ [] ≡ held ++ (ahead ++ s ∷ [])
    behind = append_assoc held ahead (s ∷ [])

-- ---- what is true whatever stands ahead

pub stand_index : (held ahead : List StoredStatement) (postings : List (Key × List ℕ)) (coming : List (List Key)) → StandAhead held ahead postings coming → IsIndex held postings coming false
stand_index held ahead postings coming stand = record {
  posted = λ key. subst (λ ks. IsPosting held (length coming) key ks) (sym (stand.posted key)) (posting_ahead held ahead postings coming stand key);
  others = λ key none. stand.posted key ∙ stand.others key none;
  rising = λ is. absurd (true≢false (sym is));
}

-- The keys of one more are kept, and its position stands under some of them.
pub part_index : (held ahead : List StoredStatement) (old new : List (Key × List ℕ)) (coming : List (List Key)) (keys : List Key) (position : ℕ) → position ≡ length held + length coming
    → ChangesSome (λ k. is_among k keys) (posted position) old new → StandAhead held ahead old coming → IsIndex held new (coming ++ keys ∷ []) false
part_index held ahead old new coming keys position at some stand = record {
  posted = λ key. by_change key (some key);
  others = λ key none. by_others key none (some key);
  rising = λ is. absurd (true≢false (sym is));
}
  where
    by_change : (key : Key) → (posting_of key new ≡ posting_of key old) ⊎ ((is_among key keys ≡ true) × (posting_of key new ≡ posted position (posting_of key old)))
        → IsPosting held (length (coming ++ keys ∷ [])) key (posting_of key new)
    by_change key (inl same) =
        subst (λ ks. IsPosting held (length (coming ++ keys ∷ [])) key ks) (sym (same ∙ stand.posted key))
        (posting_wider held (length coming) (length (coming ++ keys ∷ [])) key (positions_with (has_key key) (held ++ ahead)) (omega (arith, length_push coming keys)) (posting_ahead held ahead old coming stand key))
    by_change key (inr put) =
        subst (λ n. IsPosting held n key (posting_of key new)) (sym (length_push coming keys))
        (subst (λ ks. IsPosting held (length coming + 1) key ks) (sym (put.1 ∙ (ap (λ ks. posted position ks) (stand.posted key) ∙ posted_last key (held ++ ahead) position (at ∙ sym (long_by held ahead (length coming) stand.long)))))
        (posting_more held (length coming) key (positions_with (has_key key) (held ++ ahead)) position at (posting_ahead held ahead old coming stand key)))

    by_others : (key : Key) → is_coming key (coming ++ keys ∷ []) ≡ false → (posting_of key new ≡ posting_of key old) ⊎ ((is_among key keys ≡ true) × (posting_of key new ≡ posted position (posting_of key old)))
        → posting_of key new ≡ positions_with (has_key key) held
    by_others key none (inl same) =
        same ∙ (stand.posted key ∙ stand.others key (or_parts (is_coming key coming) (is_among key keys) (sym (coming_push key coming keys) ∙ none)).0)
    by_others key none (inr put) = absurd (true≢false (sym put.0 ∙ (or_parts (is_coming key coming) (is_among key keys) (sym (coming_push key coming keys) ∙ none)).1))

-- ---- nothing stands ahead

pub cut_posted : (held : List StoredStatement) (old new : List (Key × List ℕ)) (coming : List (List Key)) (rises : Bool) (n : ℕ) → IsIndex held old coming rises → n ≡ length held
    → ChangesEach (λ k. is_coming k coming) (below n) old new → ArePosted held new
cut_posted held old new coming rises n index at each = λ key. each key ∙ by_test key (is_coming key coming) refl
  where
    by_test : (key : Key) (b : Bool) → is_coming key coming ≡ b → cond b (below n (posting_of key old)) (posting_of key old) ≡ positions_with (has_key key) held
    by_test key true is = ap (λ m. below m (posting_of key old)) at ∙ (index.posted key).visible
    by_test key false is = index.others key is

pub with_rising : (held : List StoredStatement) (postings : List (Key × List ℕ)) (coming : List (List Key)) (rises : Bool) → IsIndex held postings coming false → (rises ≡ true → IsRising held)
    → IsIndex held postings coming rises
with_rising held postings coming rises index up = record { posted = index.posted; others = index.others; rising = up }

pub rest_index : (held : List StoredStatement) (postings : List (Key × List ℕ)) (coming : List (List Key)) (rises : Bool) → ArePosted held postings → coming ≡ [] → (rises ≡ true → IsRising held)
    → IsIndex held postings coming rises
rest_index held postings coming rises are nothing up = with_rising held postings coming rises (stand_index held [] postings coming (stand_start held [] postings coming are refl nothing)) up

pub empty_index : (held : List StoredStatement) (postings : List (Key × List ℕ)) (coming : List (List Key)) (rises : Bool) → held ≡ [] → postings ≡ [] → coming ≡ [] → IsIndex held postings coming rises
empty_index held postings coming rises no_held no_postings nothing =
    rest_index held postings coming rises (λ key. ap (λ ps. posting_of key ps) no_postings ∙ sym (ap (λ xs. positions_with (has_key key) xs) no_held)) nothing
    (λ is. subst (λ xs. IsRising xs) (sym no_held) none_rises)
  where
    none_rises : IsRising []
    none_rises = λ i j s t le at_i at_j. absurd (none-some s at_i)
