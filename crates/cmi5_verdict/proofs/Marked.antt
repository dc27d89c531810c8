-- What marks tell of nodes.
use Rattle.std.proofs.Common.{◌≡◌, ◌∙◌, ◌&&◌, ◌||◌, ◌==◌, ◌+◌, ◌-◌, ◌<◌, ◌≤◌, ℕ, zero, suc, Bool, true, false, not, List, [], ◌∷◌, ◌++◌, length, map, cond, refl, sym, ap, arith, ⊎_elim, append_assoc, append-nil}
use Rattle.std.proofs.Math.Bool.{and-false, and-true, and_assoc, or-false, or-true}
use Rattle.std.specs.Prelude.{filter, if◌then◌else◌, slice_set}
use Rattle.std.specs.List.{list_all, range_with_len}
use Rattle.std.proofs.lemmas.Bool.{cases_eq, eq-eqb, ne_eqb}
use Rattle.std.proofs.lemmas.List.{get_or-set_same, get_or-set_other}
use Rattle.cmi5_verdict.specs.Marks.{is_marked}

-- ---- one mark less

pub left : (marks : List Bool) (here index : ℕ) → index < length marks → is_marked (slice_set marks here false) index ≡ is_marked marks index && not (here == index)
left marks here index lt = ⊎_elim same elsewhere (cases_eq here index)
  where
    same : here ≡ index → is_marked (slice_set marks here false) index ≡ is_marked marks index && not (here == index)
    same e =
        ap (λ k. is_marked (slice_set marks k false) index) e ∙ (get_or-set_same marks index false false lt
        ∙ sym (ap (λ b. is_marked marks index && not b) (eq-eqb here index e) ∙ and-false (is_marked marks index)))

    elsewhere : (here ≡ index → ⊥) → is_marked (slice_set marks here false) index ≡ is_marked marks index && not (here == index)
    elsewhere never =
        get_or-set_other marks here index false false (λ e. never (sym e))
        ∙ sym (ap (λ b. is_marked marks index && not b) (ne_eqb here index never) ∙ and-true (is_marked marks index))

-- ---- numbers of nodes

pub range_on : (n i : ℕ) → i < n → range_with_len i (n - i) ≡ i ∷ range_with_len (i + 1) (n - (i + 1))
range_on n i lt =
    let left : n - i ≡ suc (n - (i + 1)) = omega arith in
    ap (λ k. range_with_len i k) left

pub range_over : (n i : ℕ) → n ≤ i → range_with_len i (n - i) ≡ []
range_over n i end =
    let none : n - i ≡ 0 = omega arith in
    ap (λ k. range_with_len i k) none

-- ---- what is told of each of them

pub map_alike : {A : Type 0} (f g : ℕ → A) (a k : ℕ) → ((p : ℕ) → p < a + k → f p ≡ g p) → map f (range_with_len a k) ≡ map g (range_with_len a k)
map_alike f g a zero same = refl
map_alike f g a (suc k) same =
    let first : f a ≡ g a = same a (omega arith) in
    let rest : map f (range_with_len (a + 1) k) ≡ map g (range_with_len (a + 1) k) = map_alike f g (a + 1) k (λ p lt. same p (omega arith)) in
    cc

pub filter_alike : (f g : ℕ → Bool) (a k : ℕ) → ((p : ℕ) → p < a + k → f p ≡ g p) → filter f (range_with_len a k) ≡ filter g (range_with_len a k)
filter_alike f g a zero same = refl
filter_alike f g a (suc k) same =
    let rest : filter f (range_with_len (a + 1) k) ≡ filter g (range_with_len (a + 1) k) = filter_alike f g (a + 1) k (λ p lt. same p (omega arith)) in
    ap (λ b. cond b (a ∷ filter f (range_with_len (a + 1) k)) (filter f (range_with_len (a + 1) k))) (same a (omega arith))
    ∙ ap (λ ps. cond (g a) (a ∷ ps) ps) rest

-- Each of those under a node is met, if each of all is, or stands elsewhere.
pub all_under : (shown met under : ℕ → Bool) (a k : ℕ) → ((p : ℕ) → p < a + k → shown p ≡ met p)
    → list_all (λ p. shown p || not (under p)) (range_with_len a k) ≡ list_all met (filter under (range_with_len a k))
all_under shown met under a zero same = refl
all_under shown met under a (suc k) same = by_test (under a) refl (all_under shown met under (a + 1) k (λ p lt. same p (omega arith)))
  where
    by_test : (b : Bool) → under a ≡ b → list_all (λ p. shown p || not (under p)) (range_with_len (a + 1) k) ≡ list_all met (filter under (range_with_len (a + 1) k))
        → list_all (λ p. shown p || not (under p)) (range_with_len a (suc k)) ≡ list_all met (filter under (range_with_len a (suc k)))
    by_test true is rest =
        let told : Bool = list_all (λ p. shown p || not (under p)) (range_with_len (a + 1) k) in
        let those : List ℕ = filter under (range_with_len (a + 1) k) in
        ap (λ b. (shown a || not b) && told) is ∙ (ap (λ b. b && told) (or-false (shown a) ∙ same a (omega arith))
        ∙ (ap (λ b. met a && b) rest ∙ ap (λ b. list_all met (cond b (a ∷ those) those)) (sym is)))
    by_test false is rest =
        let told : Bool = list_all (λ p. shown p || not (under p)) (range_with_len (a + 1) k) in
        let those : List ℕ = filter under (range_with_len (a + 1) k) in
        ap (λ b. (shown a || not b) && told) is ∙ (ap (λ b. b && told) (or-true (shown a))
        ∙ (rest ∙ ap (λ b. list_all met (cond b (a ∷ those) those)) (sym is)))

-- ---- lists that are filled by a test

pub kept_next : (test : ℕ → Bool) (before now xs rest all : List ℕ) (x : ℕ) → xs ≡ x ∷ rest → now ≡ before ++ (if test x then x ∷ [] else []) → before ++ filter test xs ≡ all → now ++ filter test rest ≡ all
kept_next test before now xs rest all x at is so_far =
    ap (λ ys. ys ++ filter test rest) is ∙ (append_assoc before (if test x then x ∷ [] else []) (filter test rest)
    ∙ (ap (λ ys. before ++ ys) (by_test (test x)) ∙ (ap (λ ys. before ++ filter test ys) (sym at) ∙ so_far)))
  where
    by_test : (b : Bool) → (if b then x ∷ [] else []) ++ filter test rest ≡ cond b (x ∷ filter test rest) (filter test rest)
    by_test true = refl
    by_test false = refl

-- ---- a test of each node, one after another

pub range_first : (n : ℕ) → range_with_len 0 (n - 0) ≡ range_with_len 0 n
range_first n =
    let all : n - 0 ≡ n = omega arith in
    ap (λ k. range_with_len 0 k) all

pub passed_next : (test : ℕ → Bool) (n i : ℕ) (before now all : Bool) → i < n → now ≡ before && test i → before && list_all test (range_with_len i (n - i)) ≡ all → now && list_all test (range_with_len (i + 1) (n - (i + 1))) ≡ all
passed_next test n i before now all lt is so_far =
    ap (λ b. b && list_all test (range_with_len (i + 1) (n - (i + 1)))) is ∙ (and_assoc before (test i) (list_all test (range_with_len (i + 1) (n - (i + 1))))
    ∙ (ap (λ ps. before && list_all test ps) (sym (range_on n i lt)) ∙ so_far))

pub passed_end : (test : ℕ → Bool) (n i : ℕ) (now all : Bool) → n ≤ i → now && list_all test (range_with_len i (n - i)) ≡ all → now ≡ all
passed_end test n i now all end so_far = sym (ap (λ ps. now && list_all test ps) (range_over n i end) ∙ and-true now) ∙ so_far

pub kept_first : (test : ℕ → Bool) (kept : List ℕ) (n : ℕ) → kept ≡ [] → kept ++ filter test (range_with_len 0 (n - 0)) ≡ filter test (range_with_len 0 n)
kept_first test kept n none = ap (λ ys. ys ++ filter test (range_with_len 0 (n - 0))) none ∙ ap (λ ps. filter test ps) (range_first n)

pub kept_end : (test : ℕ → Bool) (now rest all : List ℕ) → rest ≡ [] → now ++ filter test rest ≡ all → now ≡ all
kept_end test now rest all end so_far = sym (ap (λ ps. now ++ filter test ps) end ∙ append-nil now) ∙ so_far
