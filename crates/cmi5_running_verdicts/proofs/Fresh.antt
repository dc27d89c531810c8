-- What is missing before anything is said, node by node.
use Rattle.std.proofs.Common.{◌≡◌, ◌∙◌, ◌+◌, ◌-◌, ◌^◌, ◌<◌, ◌≤◌, ℕ, Bool, true, false, List, [], length, min, replicate, refl, sym, ap, subst, arith}
use Rattle.std.specs.List.{count_by, range_with_len}
use Rattle.std.proofs.lemmas.List.{get_or-replicate, length-replicate}
use Rattle.cmi5_course.specs.declared.course.Node.{Node}
use Rattle.cmi5_running_verdicts.specs.Changes.{fresh_tally, moved, moved_if, only_unmet, tally_of, untold}
use Rattle.cmi5_running_verdicts.specs.Tallies.{AreTallies, IsTally}
use Rattle.cmi5_running_verdicts.specs.declared.tally.Tally.{Tally}
use Rattle.cmi5_running_verdicts.proofs.Counts.{count_on, count_over, few_pass}
use Rattle.cmi5_running_verdicts.proofs.Settled.{tallies_from}
use Rattle.cmi5_verdict.specs.Cmi5SessionCountsProofs.{one_if}
use Rattle.cmi5_verdict.specs.Nodes.{SeenEnrolment}
use Rattle.cmi5_verdict.proofs.Marked.{range_first}

-- ---- one node after another

-- The tally has those that pass so far, and nothing else.
pub record IsPart (test : ℕ → Bool) (n i : ℕ) (t : Tally) : Type 0 where
  pub alone : t ≡ only_unmet t.unmet
  pub so_far : t.unmet + count_by test (range_with_len i (n - i)) ≡ count_by test (range_with_len 0 n)

first_sum : (unmet rest all : ℕ) → unmet ≡ 0 → rest ≡ all → unmet + rest ≡ all
first_sum unmet rest all none is = omega arith

pub part_first : (test : ℕ → Bool) (n : ℕ) (t : Tally) → t ≡ untold → IsPart test n 0 t
part_first test n t is = record {
  alone = is ∙ ap (λ k. only_unmet k) (sym (ap (λ (s : Tally). s.unmet) is));
  so_far = first_sum t.unmet (count_by test (range_with_len 0 (n - 0))) (count_by test (range_with_len 0 n)) (ap (λ (s : Tally). s.unmet) is) (ap (λ ps. count_by test ps) (range_first n));
}

alone_next : (holds : Bool) (t new : Tally) → new ≡ moved_if holds false t → t ≡ only_unmet t.unmet → new ≡ only_unmet new.unmet
alone_next true t new is alone = is ∙ (ap (λ (s : Tally). moved false s) alone ∙ ap (λ k. only_unmet k) (sym (ap (λ (s : Tally). s.unmet) is)))
alone_next false t new is alone = is ∙ (alone ∙ ap (λ k. only_unmet k) (sym (ap (λ (s : Tally). s.unmet) is)))

more_sum : (unmet left rest all n : ℕ) → left ≡ 1 + rest → unmet + left ≡ all → all ≤ n → n < 2 ^ 64 → min (unmet + 1) (2 ^ 64 - 1) + rest ≡ all
more_sum unmet left rest all n on so_far le few = omega arith

same_sum : (unmet left rest all : ℕ) → left ≡ 0 + rest → unmet + left ≡ all → unmet + rest ≡ all
same_sum unmet left rest all on so_far = omega arith

next_sum : (holds : Bool) (t : Tally) (left rest all n : ℕ) → left ≡ one_if holds + rest → t.unmet + left ≡ all → all ≤ n → n < 2 ^ 64 → (moved_if holds false t).unmet + rest ≡ all
next_sum true t left rest all n on so_far le few = more_sum t.unmet left rest all n on so_far le few
next_sum false t left rest all n on so_far le few = same_sum t.unmet left rest all on so_far

pub part_next : (test : ℕ → Bool) (n i : ℕ) (t new : Tally) → i < n → n < 2 ^ 64 → new ≡ moved_if (test i) false t → IsPart test n i t → IsPart test n (i + 1) new
part_next test n i t new lt few is part = record {
  alone = alone_next (test i) t new is part.alone;
  so_far = ap (λ (s : Tally). s.unmet + count_by test (range_with_len (i + 1) (n - (i + 1)))) is
      ∙ next_sum (test i) t (count_by test (range_with_len i (n - i))) (count_by test (range_with_len (i + 1) (n - (i + 1)))) (count_by test (range_with_len 0 n)) n
      (count_on test n i lt) part.so_far (few_pass test n) few;
}

end_sum : (unmet rest all : ℕ) → rest ≡ 0 → unmet + rest ≡ all → unmet ≡ all
end_sum unmet rest all none so_far = omega arith

pub part_end : (test : ℕ → Bool) (n i : ℕ) (t : Tally) → n ≤ i → IsPart test n i t → t ≡ only_unmet (count_by test (range_with_len 0 n))
part_end test n i t end part =
    part.alone
    ∙ ap (λ k. only_unmet k) (end_sum t.unmet (count_by test (range_with_len i (n - i))) (count_by test (range_with_len 0 n)) (count_over test n i end) part.so_far)

-- ---- all of them

fresh_is : (e : SeenEnrolment) (index : ℕ) → IsTally e [] index (fresh_tally e.nodes index)
fresh_is e index = record { waived = refl; completed = refl; passed = refl; satisfied = refl; unmet = refl }

pub fresh_stand : (e : SeenEnrolment) (nodes : List Node) (old new : List Tally) → e.nodes ≡ nodes → old ≡ replicate (length nodes) untold → length new ≡ length old
    → ((holder : ℕ) → holder < length old → tally_of old holder ≡ untold → tally_of new holder ≡ fresh_tally nodes holder) → AreTallies e [] new
fresh_stand e nodes old new same none long raised = tallies_from e [] new (long ∙ as_many) each
  where
    as_many : length old ≡ length e.nodes
    as_many = ap (λ (ts : List Tally). length ts) none ∙ (length-replicate (length nodes) untold ∙ sym (ap (λ (ns : List Node). length ns) same))

    none_at : (index : ℕ) → index < length e.nodes → tally_of old index ≡ untold
    none_at index lt =
        ap (λ ts. tally_of ts index) none ∙ get_or-replicate (length nodes) index untold untold (subst (λ (ns : List Node). index < length ns) same lt)

    each : (index : ℕ) → index < length e.nodes → IsTally e [] index (tally_of new index)
    each index lt =
        subst (λ (t : Tally). IsTally e [] index t)
        (sym (raised index (subst (λ n. index < n) (sym as_many) lt) (none_at index lt) ∙ ap (λ ns. fresh_tally ns index) (sym same))) (fresh_is e index)
