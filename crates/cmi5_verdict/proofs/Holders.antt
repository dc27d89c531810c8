-- A walk from a node outward.
use Rattle.std.proofs.Common.{◌≡◌, ◌∙◌, ◌&&◌, ◌||◌, ◌==◌, ◌+◌, ◌-◌, ◌<◌, ◌≤◌, ℕ, zero, suc, Bool, true, false, not, List, [], ◌∷◌, length, Option, Some, None, refl, sym, ap, arith}
use Rattle.std.proofs.Math.Bool.{and-true, and_assoc}
use Rattle.std.specs.List.{list_any}
use Rattle.cmi5_course.specs.declared.course.Node.{Node}
use Rattle.cmi5_verdict.specs.Nodes.{outward, parent_of}

abbrev pub is_among : ℕ → List ℕ → Bool
is_among holder ps = list_any (λ p. p == holder) ps

-- neither of two
neither : (a b : Bool) → not a && not b ≡ not (a || b)
neither true b = refl
neither false b = refl

-- at first all steps are left
pub outward_first : (nodes : List Node) (n : ℕ) (next : Option ℕ) → outward nodes (n - 0) next ≡ outward nodes n next
outward_first nodes n next =
    let all : n - 0 ≡ n = omega arith in
    ap (λ k. outward nodes k next) all

-- behind the outermost there is none
pub outward_none : (nodes : List Node) (steps : ℕ) → outward nodes steps None ≡ []
outward_none nodes zero = refl
outward_none nodes (suc steps) = refl

pub outward_over : (nodes : List Node) (n i : ℕ) (next : Option ℕ) → n ≤ i → outward nodes (n - i) next ≡ []
outward_over nodes n i next end =
    let none : n - i ≡ 0 = omega arith in
    ap (λ k. outward nodes k next) none

-- one step, to the next or to none
module _ (nodes : List Node) (n i here : ℕ) (next : Option ℕ) (lt : i < n) (holds : parent_of nodes here ≡ next) where
  outward_on : outward nodes (n - i) (Some here) ≡ here ∷ outward nodes (n - (i + 1)) next
  outward_on =
      let steps : n - i ≡ suc (n - (i + 1)) = omega arith in
      ap (λ k. outward nodes k (Some here)) steps ∙ ap (λ o. here ∷ outward nodes (n - (i + 1)) o) holds

  -- ---- how many there are

  pub depth_next : (all : ℕ) → i + length (outward nodes (n - i) (Some here)) ≡ all → (i + 1) + length (outward nodes (n - (i + 1)) next) ≡ all
  depth_next all so_far =
      let longer : length (outward nodes (n - i) (Some here)) ≡ suc (length (outward nodes (n - (i + 1)) next)) = ap length outward_on in
      omega (arith, longer, so_far)

  pub depth_ended : (all : ℕ) → next ≡ None → i + length (outward nodes (n - i) (Some here)) ≡ all → i + 1 ≡ all
  depth_ended all none so_far =
      let longer : length (outward nodes (n - i) (Some here)) ≡ suc (length (outward nodes (n - (i + 1)) next)) = ap length outward_on in
      let rest : length (outward nodes (n - (i + 1)) next) ≡ 0 = ap (λ o. length (outward nodes (n - (i + 1)) o)) none ∙ ap length (outward_none nodes (n - (i + 1))) in
      omega (arith, longer, rest, so_far)

  -- ---- what they clear

  pub left_next : (holder : ℕ) (before now all : Bool) → now ≡ before && not (here == holder) → before && not (is_among holder (outward nodes (n - i) (Some here))) ≡ all
      → now && not (is_among holder (outward nodes (n - (i + 1)) next)) ≡ all
  left_next holder before now all is so_far =
      let rest : Bool = is_among holder (outward nodes (n - (i + 1)) next) in
      ap (λ b. b && not rest) is ∙ (and_assoc before (not (here == holder)) (not rest) ∙ (ap (λ b. before && b) (neither (here == holder) rest)
      ∙ (ap (λ ps. before && not (is_among holder ps)) (sym outward_on) ∙ so_far)))

  pub left_ended : (holder : ℕ) (before now all : Bool) → next ≡ None → now ≡ before && not (here == holder) → before && not (is_among holder (outward nodes (n - i) (Some here))) ≡ all → now ≡ all
  left_ended holder before now all none is so_far =
      sym (ap (λ o. now && not (is_among holder (outward nodes (n - (i + 1)) o))) none ∙ (ap (λ ps. now && not (is_among holder ps)) (outward_none nodes (n - (i + 1))) ∙ and-true now))
      ∙ left_next holder before now all is so_far

pub left_over : (holder : ℕ) (ps : List ℕ) (now all : Bool) → ps ≡ [] → now && not (is_among holder ps) ≡ all → now ≡ all
left_over holder ps now all none so_far = sym (ap (λ qs. now && not (is_among holder qs)) none ∙ and-true now) ∙ so_far
