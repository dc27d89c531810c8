-- Nodes by depth: none stands deeper than the deepest.
use Rattle.std.proofs.Common.{◌≡◌, ◌∙◌, ◌+◌, ◌-◌, ◌<◌, ◌≤◌, ℕ, zero, suc, true, List, [], ◌∷◌, ◌++◌, length, get_or, take, Option, Some, None, cond, refl, sym, ap, arith, ⊎_elim, append_assoc, append-nil}
use Rattle.std.specs.Prelude.{nat_le}
use Rattle.std.specs.List.{list_all}
use Rattle.std.proofs.lemmas.Bool.{and_from, and_parts, cases_lt, le-leb, leb-true, ne_eqb}
use Rattle.std.proofs.lemmas.List.Folds.{list_all_more}
use Rattle.cmi5_course.specs.declared.course.Node.{Node}
use Rattle.cmi5_verdict.specs.Nodes.{at_depth, depth_of, from_depth, outward, parent_of}

-- a walk has no more nodes than steps
pub outward_short : (nodes : List Node) (steps : ℕ) (next : Option ℕ) → length (outward nodes steps next) ≤ steps
outward_short nodes zero next = omega arith
outward_short nodes (suc steps) None = omega arith
outward_short nodes (suc steps) (Some index) =
    let rest : length (outward nodes steps (parent_of nodes index)) ≤ steps = outward_short nodes steps (parent_of nodes index) in
    omega arith

module _ (nodes : List Node) where
  abbrev pub AreWithin : ℕ → List ℕ → Type 0
  AreWithin depth indices = list_all (λ index. nat_le (depth_of nodes index) depth) indices ≡ true

  pub grow : (a b : ℕ) → a ≤ b → (indices : List ℕ) → AreWithin a indices → AreWithin b indices
  grow a b le [] all = refl
  grow a b le (index ∷ indices) all =
      let parts = and_parts (nat_le (depth_of nodes index) a) (list_all (λ p. nat_le (depth_of nodes p) a) indices) all in
      let small : depth_of nodes index ≤ a = leb-true (depth_of nodes index) a parts.0 in
      and_from (nat_le (depth_of nodes index) b) (list_all (λ p. nat_le (depth_of nodes p) b) indices) (le-leb (depth_of nodes index) b (omega arith)) (grow a b le indices parts.1)

  none_at : (deepest depth : ℕ) → deepest < depth → (indices : List ℕ) → AreWithin deepest indices → at_depth nodes indices depth ≡ []
  none_at deepest depth lt [] all = refl
  none_at deepest depth lt (index ∷ indices) all =
      let parts = and_parts (nat_le (depth_of nodes index) deepest) (list_all (λ p. nat_le (depth_of nodes p) deepest) indices) all in
      let small : depth_of nodes index ≤ deepest = leb-true (depth_of nodes index) deepest parts.0 in
      ap (λ b. cond b (index ∷ at_depth nodes indices depth) (at_depth nodes indices depth)) (ne_eqb (depth_of nodes index) depth (λ e. omega arith)) ∙ none_at deepest depth lt indices parts.1

  -- one may begin at the deepest
  pub from_deepest : (indices : List ℕ) (deepest depth : ℕ) → deepest ≤ depth → AreWithin deepest indices → from_depth nodes indices depth ≡ from_depth nodes indices deepest
  from_deepest indices deepest zero le all =
      let same : zero ≡ deepest = omega arith in
      ap (λ d. from_depth nodes indices d) same
  from_deepest indices deepest (suc depth) le all =
      ⊎_elim
      (λ (same : depth < deepest). let is : suc depth ≡ deepest = omega arith in ap (λ d. from_depth nodes indices d) is)
      (λ (less : deepest ≤ depth). ap (λ ps. ps ++ from_depth nodes indices depth) (none_at deepest (suc depth) (omega arith) indices all) ∙ from_deepest indices deepest depth less all)
      (cases_lt depth deepest)

  -- those of the next depth
  pub from_on : (indices before now all : List ℕ) (deepest less : ℕ) → less < deepest → now ≡ before ++ at_depth nodes indices (deepest - less)
      → before ++ from_depth nodes indices (deepest - less) ≡ all → now ++ from_depth nodes indices (deepest - (less + 1)) ≡ all
  from_on indices before now all deepest less lt is so_far =
      let next : deepest - less ≡ suc (deepest - (less + 1)) = omega arith in
      let rest = from_depth nodes indices (deepest - (less + 1)) in
      ap (λ ps. ps ++ rest) is ∙ (append_assoc before (at_depth nodes indices (deepest - less)) rest
      ∙ (ap (λ d. before ++ (at_depth nodes indices d ++ rest)) next ∙ (ap (λ d. before ++ from_depth nodes indices d) (sym next) ∙ so_far)))

  pub from_first : (indices none : List ℕ) (deepest : ℕ) → none ≡ [] → none ++ from_depth nodes indices (deepest - 0) ≡ from_depth nodes indices deepest
  from_first indices none deepest is =
      let all : deepest - 0 ≡ deepest = omega arith in
      ap (λ ps. ps ++ from_depth nodes indices (deepest - 0)) is ∙ ap (λ d. from_depth nodes indices d) all

  pub from_end : (indices now : List ℕ) (deepest less : ℕ) → deepest ≤ less → now ++ from_depth nodes indices (deepest - less) ≡ from_depth nodes indices deepest → now ≡ from_depth nodes indices deepest
  from_end indices now deepest less end so_far =
      let none : deepest - less ≡ 0 = omega arith in
      sym (ap (λ d. now ++ from_depth nodes indices d) none ∙ append-nil now) ∙ so_far

  pub within_more : (indices : List ℕ) (i deepest larger : ℕ) → i < length indices → deepest ≤ larger → depth_of nodes (get_or indices i 0) ≤ larger → AreWithin deepest (take i indices) → AreWithin larger (take (i + 1) indices)
  within_more indices i deepest larger lt le small so_far =
      list_all_more (λ p. nat_le (depth_of nodes p) larger) indices i 0 lt
      ∙ and_from (list_all (λ p. nat_le (depth_of nodes p) larger) (take i indices)) (nat_le (depth_of nodes (get_or indices i 0)) larger) (grow deepest larger le (take i indices) so_far)
      (le-leb (depth_of nodes (get_or indices i 0)) larger small)
