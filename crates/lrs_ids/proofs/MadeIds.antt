-- Ids that are given, and ids that are made.
use Rattle.std.proofs.Common.{◌≡◌, ℕ, zero, suc, length, ◌%◌, ◌+◌, ◌-◌, ◌<◌, List, [], ◌∷◌, drop, Bool, true, false, not, ◌&&◌, ◌||◌, cond, Some, refl, sym, ap, ◌∙◌, arith}
use Rattle.std.specs.Prelude.{find, unwrap_or}
use Rattle.std.specs.List.{list_any, list_all}
use Rattle.std.specs.Str.{bytes_eq}
use Rattle.std.specs.Cmp.Lexicographic.{slice_cmp}
use Rattle.std.specs.Ordering.{nat_cmp, is_eq}
use Rattle.std.proofs.lemmas.Cmp.{nat_list_eq_equiv}
use Rattle.std.proofs.lemmas.Map.Text.{is_eq-slice_cmp}
use Rattle.lrs_names.specs.Members.{is_one_of}
use Rattle.lrs_names.specs.Ids.{id_of_word}
use Rattle.lrs_ids.proofs.FreshLemmas.{has_id}
use Rattle.lrs_names.specs.declared.id.TheConstants.{WORDS}
use Rattle.lrs_ids.specs.Ids.{Used, are_distinct, free_word, is_free, made_id, rest_of, supply_of, words_from}
use Rattle.lrs_ids.specs.IdSupply.{GiveSame, HoldSame}

-- ---- ids that are given

-- none of them is among these
abbrev pub are_new : List (List ℕ) → List (List ℕ) → Bool
are_new used ids = list_all (λ id. not (is_one_of used id)) ids

-- these are distinct, and none of them is used
abbrev pub are_distinct_from : List (List ℕ) → List (List ℕ) → Bool
are_distinct_from used ids = are_new used ids && are_distinct ids

moved : (a b c d : Bool) → not (a || b) && (c && not d) ≡ (not b && c) && not (a || d)
moved true true c d = refl
moved true false true d = refl
moved true false false d = refl
moved false true c d = refl
moved false false c d = refl

are_new-added : (old new : List (List ℕ)) (id : List ℕ) (ids : List (List ℕ)) → HoldSame new (id ∷ old) → are_new new ids ≡ are_new old ids && not (is_one_of ids id)
are_new-added old new id [] added = refl
are_new-added old new id (x ∷ ids) added =
    ap (λ b. not b && are_new new ids) (added x)
    ∙ (ap (λ b. not (bytes_eq id x || is_one_of old x) && b) (are_new-added old new id ids added)
    ∙ (moved (bytes_eq id x) (is_one_of old x) (are_new old ids) (is_one_of ids id)
    ∙ ap (λ b. (not (is_one_of old x) && are_new old ids) && not (b || is_one_of ids id)) (nat_list_eq_equiv.symm id x)))

regroup : (a b c : Bool) → a && (b && c) ≡ (a && b) && c
regroup true b c = refl
regroup false b c = refl

distinct-added : (old new : List (List ℕ)) (id : List ℕ) (ids : List (List ℕ)) → HoldSame new (id ∷ old) → not (is_one_of old id) ≡ true → are_distinct_from old (id ∷ ids) ≡ are_distinct_from new ids
distinct-added old new id ids added fresh =
    ap (λ b. (b && are_new old ids) && (not (is_one_of ids id) && are_distinct ids)) fresh
    ∙ (regroup (are_new old ids) (not (is_one_of ids id)) (are_distinct ids) ∙ ap (λ b. b && are_distinct ids) (sym (are_new-added old new id ids added)))

pub distinct-more : (old new ids : List (List ℕ)) (i : ℕ) (id : List ℕ) (all : Bool) → drop i ids ≡ id ∷ drop (i + 1) ids → HoldSame new (id ∷ old) → not (is_one_of old id) ≡ true
    → are_distinct_from old (drop i ids) ≡ all → are_distinct_from new (drop (i + 1) ids) ≡ all
distinct-more old new ids i id all at added fresh before =
    sym (distinct-added old new id (drop (i + 1) ids) added fresh) ∙ (sym (ap (λ xs. are_distinct_from old xs) at) ∙ before)

-- one that isn't new stands twice
pub distinct-not : (old ids : List (List ℕ)) (i : ℕ) (id : List ℕ) (all : Bool) → drop i ids ≡ id ∷ drop (i + 1) ids → not (is_one_of old id) ≡ false
    → are_distinct_from old (drop i ids) ≡ all → false ≡ all
distinct-not old ids i id all at twice before =
    sym (ap (λ b. (b && are_new old (drop (i + 1) ids)) && (not (is_one_of (drop (i + 1) ids) id) && are_distinct (drop (i + 1) ids))) twice)
    ∙ (sym (ap (λ xs. are_distinct_from old xs) at) ∙ before)

-- nothing is used before the first
pub distinct-none : (ids : List (List ℕ)) → are_distinct_from [] ids ≡ are_distinct ids
distinct-none ids = ap (λ b. b && are_distinct ids) (all_new ids)
  where
    all_new : (ids : List (List ℕ)) → are_new [] ids ≡ true
    all_new [] = refl
    all_new (id ∷ ids) = all_new ids

swapped : (a b c : Bool) → (a || b) || c ≡ b || (a || c)
swapped true true c = refl
swapped true false c = refl
swapped false true c = refl
swapped false false c = refl

-- the ids of a set and those that are yet to come
pub record IsSetSoFar (keys ids : List (List ℕ)) (i : ℕ) : Type 0 where
  pub same : (id : List ℕ) → is_one_of keys id || is_one_of (drop i ids) id ≡ is_one_of ids id

pub set-more : (old new ids : List (List ℕ)) (i : ℕ) (id : List ℕ) → drop i ids ≡ id ∷ drop (i + 1) ids → HoldSame new (id ∷ old) → IsSetSoFar old ids i → IsSetSoFar new ids (i + 1)
set-more old new ids i id at added before = record {
  same = λ other.
      ap (λ b. b || is_one_of (drop (i + 1) ids) other) (added other)
      ∙ (swapped (bytes_eq id other) (is_one_of old other) (is_one_of (drop (i + 1) ids) other)
      ∙ (sym (ap (λ xs. is_one_of old other || is_one_of xs other) at) ∙ before.same other));
}

cond_or : (a b : Bool) → cond a true b ≡ a || b
cond_or true b = refl
cond_or false b = refl

pub set-added : (old new : List (List ℕ)) (id : List ℕ)
    → ((q : List ℕ) → list_any (λ o. is_eq (slice_cmp nat_cmp q o)) new ≡ cond (is_eq (slice_cmp nat_cmp id q)) true (list_any (λ o. is_eq (slice_cmp nat_cmp q o)) old)) → HoldSame new (id ∷ old)
set-added old new id updates q =
    sym (has_id q new) ∙ (updates q ∙ (ap (λ b. cond b true (list_any (λ o. is_eq (slice_cmp nat_cmp q o)) old)) (is_eq-slice_cmp id q)
    ∙ (cond_or (bytes_eq id q) (list_any (λ o. is_eq (slice_cmp nat_cmp q o)) old) ∙ ap (λ b. bytes_eq id q || b) (has_id q old))))

-- ---- ids that are made

pub words-more : (end word : ℕ) → word < end → words_from (end - word) word ≡ word ∷ words_from (end - (word + 1)) (word + 1)
words-more end word less = let one : end - word ≡ suc (end - (word + 1)) = omega arith in ap (λ n. words_from n word) one

-- the words from that one on, of those before the end
pub record IsSoFar (test : ℕ → Bool) (most word end free : ℕ) : Type 0 where
  pub same : find test (words_from most word) ≡ find test (words_from (end - free) free)

pub so_far-more : (test : ℕ → Bool) (most word end free : ℕ) → free < end → test free ≡ false → IsSoFar test most word end free → IsSoFar test most word end (free + 1)
so_far-more test most word end free less not_free before = record {
  same = before.same ∙ (ap (λ ws. find test ws) (words-more end free less) ∙ ap (λ b. cond b (Some free) (find test (words_from (end - (free + 1)) (free + 1)))) not_free);
}

pub so_far-found : (test : ℕ → Bool) (most word end free : ℕ) → free < end → test free ≡ true → IsSoFar test most word end free → free ≡ unwrap_or (find test (words_from most word)) end
so_far-found test most word end free less is_free before =
    sym (ap (λ o. unwrap_or o end) (before.same ∙ (ap (λ ws. find test ws) (words-more end free less) ∙ ap (λ b. cond b (Some free) (find test (words_from (end - (free + 1)) (free + 1)))) is_free)))

pub so_far-none : (test : ℕ → Bool) (most word end free : ℕ) → free ≡ end → IsSoFar test most word end free → end ≡ unwrap_or (find test (words_from most word)) end
so_far-none test most word end free last before =
    let none : end - free ≡ 0 = omega arith in
    sym (ap (λ o. unwrap_or o end) (before.same ∙ ap (λ n. find test (words_from n free)) none))

pub so_far-begin : (test : ℕ → Bool) (most word : ℕ) → IsSoFar test most word (word + most) word
so_far-begin test most word = let all : (word + most) - word ≡ most = omega arith in record { same = ap (λ n. find test (words_from n word)) (sym all) }

-- ---- ids that are free

pub free-used : (used : Used) (gone : List (List ℕ)) (word : ℕ) (id : List ℕ) → id ≡ id_of_word word → used.is_used id ≡ true → false ≡ is_free used gone word
free-used used gone word id made is = sym (ap (λ b. not (b || is_one_of gone (id_of_word word))) (ap (λ i. used.is_used i) (sym made) ∙ is))

pub free-other : (used : Used) (gone : List (List ℕ)) (word : ℕ) (id : List ℕ) (there : Bool) → id ≡ id_of_word word → used.is_used id ≡ false → there ≡ is_one_of gone id
    → not there ≡ is_free used gone word
free-other used gone word id there made none is =
    ap (λ b. not b) (is ∙ ap (λ i. is_one_of gone i) made)
    ∙ sym (ap (λ b. not (b || is_one_of gone (id_of_word word))) (ap (λ i. used.is_used i) (sym made) ∙ none))

-- ---- one by one

find-same : (p q : ℕ → Bool) (words : List ℕ) → ((w : ℕ) → p w ≡ q w) → find p words ≡ find q words
find-same p q [] same = refl
find-same p q (w ∷ words) same = ap (λ b. cond b (Some w) (find p words)) (same w) ∙ ap (λ o. cond (q w) (Some w) o) (find-same p q words same)

free_word-same : (used : Used) (ids others : List (List ℕ)) (most word : ℕ) → HoldSame ids others → free_word used ids most word ≡ free_word used others most word
free_word-same used ids others most word same =
    ap (λ o. unwrap_or o (word + most))
    (find-same (is_free used ids) (is_free used others) (words_from most word) (λ w. ap (λ b. not (used.is_used (id_of_word w) || b)) (same (id_of_word w))))

-- what is made depends on which ids are used, and not on their order
pub made_id-same : (used : Used) (ids others : List (List ℕ)) (most word : ℕ) → HoldSame ids others → (k : ℕ) → made_id used ids most word k ≡ made_id used others most word k
made_id-same used ids others most word same zero = ap (λ w. id_of_word w) (free_word-same used ids others most word same)
made_id-same used ids others most word same (suc k) =
    ap (λ w. made_id used (id_of_word w ∷ ids) (most + 1) ((w + 1) % WORDS) k) (free_word-same used ids others most word same)
    ∙ made_id-same used (id_of_word (free_word used others most word) ∷ ids) (id_of_word (free_word used others most word) ∷ others) (most + 1) ((free_word used others most word + 1) % WORDS)
    (λ id. ap (λ b. bytes_eq (id_of_word (free_word used others most word)) id || b) (same id)) k

-- one id was made, and is used from then on
pub made_id-rest : (used : Used) (old new : List (List ℕ)) (most word made next : ℕ) (id : List ℕ) → made ≡ free_word used old most word → id ≡ id_of_word made → next ≡ (made + 1) % WORDS → HoldSame new (id ∷ old)
    → GiveSame (made_id used new (most + 1) next) (rest_of (made_id used old most word))
made_id-rest used old new most word made next id is named follows added = record {
  same = λ k.
      ap (λ w. made_id used new (most + 1) w k) follows
      ∙ (made_id-same used new (id ∷ old) (most + 1) ((made + 1) % WORDS) added k
      ∙ (ap (λ i. made_id used (i ∷ old) (most + 1) ((made + 1) % WORDS) k) named
      ∙ ap (λ w. made_id used (id_of_word w ∷ old) (most + 1) ((w + 1) % WORDS) k) is));
}

-- where the ids begin
pub made_id-begin : (used : Used) (gone given : List (List ℕ)) (most name : ℕ) → HoldSame gone given → most ≡ used.count + length given
    → GiveSame (made_id used gone most (name % WORDS)) (supply_of used given name)
made_id-begin used gone given most name same is = record {
  same = λ k. made_id-same used gone given most (name % WORDS) same k ∙ ap (λ n. made_id used given n (name % WORDS) k) is;
}
