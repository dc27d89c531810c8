-- What was said of all nodes tells together.
use Rattle.std.proofs.Common.{◌≡◌, ◌∙◌, ◌&&◌, ◌<◌, ℕ, Bool, true, false, not, List, length, map, sym, ap, subst, arith}
use Rattle.std.specs.Prelude.{filter, replicate}
use Rattle.std.specs.List.{range_with_len}
use Rattle.std.specs.Option.{option_map_or}
use Rattle.std.proofs.lemmas.List.{get_or-replicate, length-replicate}
use Rattle.std.proofs.lemmas.List.FromFn.{fill_by_all, get_or-map-range_with_len}
use Rattle.cmi5_course.specs.declared.course.Node.{Node}
use Rattle.cmi5_verdict.specs.Marks.{is_marked, is_met_by, is_owed_by, is_satisfied_by}
use Rattle.cmi5_verdict.specs.Nodes.{deeper_first, is_met_at, is_owed, is_satisfied, is_under, is_unit_in, owed, indices, SeenEnrolment, unit_in, verdicts}
use Rattle.cmi5_verdict.specs.Said.{meets, said_among, said_in, said_of, unsaid}
use Rattle.cmi5_verdict.specs.declared.said.Said.{Said}
use Rattle.cmi5_session.specs.XapiStatementStored.{StoredStatement}
use Rattle.cmi5_verdict.proofs.Marked.{all_under, filter_alike, map_alike}

-- ---- marks that were made from all

pub made_from_all : (n : ℕ) (old new : List Bool) (told : ℕ → Bool) → old ≡ replicate n true → length new ≡ length old → ((p : ℕ) → p < length old → is_marked new p ≡ is_marked old p && told p) → new ≡ map told (range_with_len 0 n)
made_from_all n old new told full same made =
    let long : length old ≡ n = ap length full ∙ length-replicate n true in
    fill_by_all told new n false (same ∙ long)
    (λ p lt. let all : is_marked old p ≡ true = ap (λ ms. is_marked ms p) full ∙ get_or-replicate n p true false lt in
    made p (subst (λ k. p < k) (sym long) lt) ∙ ap (λ b. b && told p) all)

module _ (e : SeenEnrolment) (statements : List StoredStatement) (said : List Said) (are : said ≡ map (said_in e statements) (indices e.nodes)) where
  said_there : (k : ℕ) → k < length e.nodes → said_of said k ≡ said_in e statements k
  said_there k lt =
      ap (λ ss. said_of ss k) are ∙ get_or-map-range_with_len (said_in e statements) 0 (length e.nodes) k k unsaid lt (omega arith)

  -- ---- verdicts

  met_there : (k : ℕ) → k < length e.nodes → is_met_by e.nodes said k ≡ is_met_at e statements k
  unfolding said_among
  met_there k lt = ap (λ (s : Said). option_map_or (λ unit. meets unit.move_on s) (unit_in e.nodes k) true) (said_there k lt)

  pub verdicts_by : map (is_satisfied_by e.nodes said) (indices e.nodes) ≡ verdicts e statements
  verdicts_by =
      map_alike (is_satisfied_by e.nodes said) (is_satisfied e statements) 0 (length e.nodes)
      (λ p lt. all_under (is_met_by e.nodes said) (is_met_at e statements) (is_under e.nodes p) 0 (length e.nodes) (λ k less. met_there k (omega arith)))

  -- ---- what is owed

  pub owed_by : (told : List Bool) → told ≡ verdicts e statements → filter (is_owed_by e.nodes told said) (indices e.nodes) ≡ filter (is_owed e statements) (indices e.nodes)
  unfolding said_among
  owed_by told is =
      filter_alike (is_owed_by e.nodes told said) (is_owed e statements) 0 (length e.nodes)
      (λ k lt. ap (λ b. not (is_unit_in e.nodes k) && b && not (said_of said k).satisfied)
      (ap (λ ms. is_marked ms k) is ∙ get_or-map-range_with_len (is_satisfied e statements) 0 (length e.nodes) k k false (omega arith) (omega arith))
      ∙ ap (λ (s : Said). not (is_unit_in e.nodes k) && is_satisfied e statements k && not s.satisfied) (said_there k (omega arith)))

-- the same of nodes that are an enrolment's
pub owed_told : (e : SeenEnrolment) (all : List StoredStatement) (nodes : List Node) (said : List Said) (marks : List Bool) (found : List ℕ) → e.nodes ≡ nodes → said ≡ map (said_in e all) (indices nodes)
    → marks ≡ map (is_satisfied_by nodes said) (indices nodes) → found ≡ filter (is_owed_by nodes marks said) (indices nodes) → deeper_first nodes found ≡ owed e all
owed_told e all nodes said marks found same =
    subst (λ ns. said ≡ map (said_in e all) (indices ns) → marks ≡ map (is_satisfied_by ns said) (indices ns) → found ≡ filter (is_owed_by ns marks said) (indices ns) → deeper_first ns found ≡ owed e all)
    same (λ are marked is. ap (λ ps. deeper_first e.nodes ps) (is ∙ owed_by e all said are marks (marked ∙ verdicts_by e all said are)))
