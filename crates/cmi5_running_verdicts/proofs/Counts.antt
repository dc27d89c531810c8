-- How many pass a test: by one item more, and where the test changes at one index.
use Rattle.std.proofs.Common.{◌≡◌, ◌∙◌, ◌==◌, ◌+◌, ◌-◌, ◌<◌, ◌≤◌, ℕ, zero, suc, Bool, false, List, refl, sym, ap, subst, arith, ⊎_elim}
use Rattle.std.specs.List.{count_by, range_with_len}
use Rattle.std.proofs.lemmas.Bool.{cases_lt, ne_eqb}
use Rattle.std.proofs.lemmas.List.FromFn.{length-range_with_len}
use Rattle.std.proofs.lemmas.List.Sums.{count_by-le-length}
use Rattle.cmi5_verdict.specs.Cmi5SessionCountsProofs.{count_cons, one_if}
use Rattle.cmi5_verdict.proofs.Marked.{range_on, range_over}

-- ---- numbers of nodes

-- no more of them pass than there are
pub few_pass : (test : ℕ → Bool) (n : ℕ) → count_by test (range_with_len 0 n) ≤ n
few_pass test n = subst (λ m. count_by test (range_with_len 0 n) ≤ m) (length-range_with_len 0 n) (count_by-le-length test (range_with_len 0 n))

pub count_on : (test : ℕ → Bool) (n i : ℕ) → i < n → count_by test (range_with_len i (n - i)) ≡ one_if (test i) + count_by test (range_with_len (i + 1) (n - (i + 1)))
count_on test n i lt = ap (λ ps. count_by test ps) (range_on n i lt) ∙ count_cons test i (range_with_len (i + 1) (n - (i + 1)))

pub count_over : (test : ℕ → Bool) (n i : ℕ) → n ≤ i → count_by test (range_with_len i (n - i)) ≡ 0
count_over test n i end = ap (λ ps. count_by test ps) (range_over n i end)

-- ---- two tests

pub count_alike : (p q : ℕ → Bool) (a k : ℕ) → ((n : ℕ) → a ≤ n → n < a + k → p n ≡ q n) → count_by p (range_with_len a k) ≡ count_by q (range_with_len a k)
count_alike p q a zero same = refl
count_alike p q a (suc k) same =
    let rest : count_by p (range_with_len (a + 1) k) ≡ count_by q (range_with_len (a + 1) k) = count_alike p q (a + 1) k (λ n low high. same n (omega arith) (omega arith)) in
    count_cons p a (range_with_len (a + 1) k)
    ∙ (ap (λ b. one_if b + count_by p (range_with_len (a + 1) k)) (same a (omega arith) (omega arith))
    ∙ (ap (λ m. one_if (q a) + m) rest ∙ sym (count_cons q a (range_with_len (a + 1) k))))

sum_here : (new old new_rest old_rest new_first old_first : ℕ) → new ≡ new_first + new_rest → old ≡ old_first + old_rest → new_rest ≡ old_rest → new + old_first ≡ old + new_first
sum_here new old new_rest old_rest new_first old_first a b same = omega arith

sum_later : (new old new_rest old_rest first less more : ℕ) → new ≡ first + new_rest → old ≡ first + old_rest → new_rest + less ≡ old_rest + more → new + less ≡ old + more
sum_later new old new_rest old_rest first less more a b rest = omega arith

-- where they differ at one index alone
pub count_moved : (p q : ℕ → Bool) (index a k : ℕ) → ((n : ℕ) → (index == n) ≡ false → n < a + k → q n ≡ p n) → a ≤ index → index < a + k
    → count_by q (range_with_len a k) + one_if (p index) ≡ count_by p (range_with_len a k) + one_if (q index)
count_moved p q index a zero same low high = absurd (omega arith)
count_moved p q index a (suc k) same low high =
    ⊎_elim (λ (less : a < index). later less (count_moved p q index (a + 1) k (λ n other few. same n other (omega arith)) (omega arith) (omega arith)))
    (λ (end : index ≤ a). here (omega arith)) (cases_lt a index)
  where
    here : index ≡ a → count_by q (range_with_len a (suc k)) + one_if (p index) ≡ count_by p (range_with_len a (suc k)) + one_if (q index)
    here e =
        let rest : count_by q (range_with_len (a + 1) k) ≡ count_by p (range_with_len (a + 1) k) =
        count_alike q p (a + 1) k (λ n behind few. same n (ne_eqb index n (λ f. omega arith)) (omega arith)) in
        sum_here (count_by q (range_with_len a (suc k))) (count_by p (range_with_len a (suc k))) (count_by q (range_with_len (a + 1) k)) (count_by p (range_with_len (a + 1) k))
        (one_if (q index)) (one_if (p index))
        (count_cons q a (range_with_len (a + 1) k) ∙ ap (λ m. one_if (q m) + count_by q (range_with_len (a + 1) k)) (sym e))
        (count_cons p a (range_with_len (a + 1) k) ∙ ap (λ m. one_if (p m) + count_by p (range_with_len (a + 1) k)) (sym e)) rest

    later : a < index → count_by q (range_with_len (a + 1) k) + one_if (p index) ≡ count_by p (range_with_len (a + 1) k) + one_if (q index)
        → count_by q (range_with_len a (suc k)) + one_if (p index) ≡ count_by p (range_with_len a (suc k)) + one_if (q index)
    later less rest =
        let first : q a ≡ p a = same a (ne_eqb index a (λ e. omega arith)) (omega arith) in
        sum_later (count_by q (range_with_len a (suc k))) (count_by p (range_with_len a (suc k))) (count_by q (range_with_len (a + 1) k)) (count_by p (range_with_len (a + 1) k))
        (one_if (p a)) (one_if (p index)) (one_if (q index))
        (count_cons q a (range_with_len (a + 1) k) ∙ ap (λ b. one_if b + count_by q (range_with_len (a + 1) k)) first)
        (count_cons p a (range_with_len (a + 1) k)) rest
