-- A node is owed at most once, and none that was said.
use Rattle.std.proofs.Common.{◌≡◌, ◌⊎◌, inl, inr, ℕ, zero, suc, ◌+◌, ◌<◌, ◌≤◌, ◌^◌, List, [], ◌∷◌, ◌++◌, length, Bool, true, false, not, ◌&&◌, cond, codes, refl, sym, ap, ◌∙◌, arith}
use Rattle.std.specs.Fmt.{decimal}
use Rattle.std.specs.Prelude.{filter}
use Rattle.std.specs.Str.{bytes_eq}
use Rattle.std.specs.Cmp.Lexicographic.{same_text}
use Rattle.std.specs.Cmp.{first_so, second_so}
use Rattle.std.proofs.lemmas.Bool.{cases_eq, eq-eqb, ne_eqb, not-true}
use Rattle.std.proofs.lemmas.Fmt.{decimal_injective}
use Rattle.std.proofs.lemmas.List.{append_cancel_left}
use Rattle.cmi5_course.specs.declared.course.Node.{Node}
use Rattle.cmi5_launch.specs.Activities.{activity_text}
use Rattle.cmi5_launch.specs.Names.{satisfied}
use Rattle.cmi5_verdict.specs.Nodes.{SeenEnrolment, activity_of_node, at_depth, depth_of, from_depth, is_owed, is_satisfied, is_unit_in, owed, indices}
use Rattle.cmi5_verdict.specs.Units.{was_said}
use Rattle.lrs_laws.proofs.Counting.{many, many-append, many_filter, one_in_row, some_passes}
use Rattle.xapi_statement.specs.Stored.{StoredStatement}

-- ---- by depth

-- one that stands deeper isn't among them
deeper : (nodes : List Node) (p : ℕ) (ps : List ℕ) (d : ℕ) → d < depth_of nodes p → from_depth nodes (p ∷ ps) d ≡ from_depth nodes ps d
deeper nodes p ps zero less = refl
deeper nodes p ps (suc d) less =
    ap (λ b. cond b (p ∷ at_depth nodes ps (suc d)) (at_depth nodes ps (suc d)) ++ from_depth nodes (p ∷ ps) d) (ne_eqb (depth_of nodes p) (suc d) (λ same. omega (arith, same, less)))
    ∙ ap (λ rest. at_depth nodes ps (suc d) ++ rest) (deeper nodes p ps d (omega (arith, less)))

with_one : (nodes : List Node) (q : ℕ → Bool) (p : ℕ) (ps : List ℕ) (d : ℕ) → many q (from_depth nodes (p ∷ ps) d) ≤ many q (p ∷ []) + many q (from_depth nodes ps d)
with_one nodes q p ps zero = let none : 0 ≤ many q (p ∷ []) + 0 = omega arith in none
with_one nodes q p ps (suc d) = by_depth (cases_eq (depth_of nodes p) (suc d)) (with_one nodes q p ps d)
  where
    here : List ℕ
    here = at_depth nodes ps (suc d)

    rest : List ℕ
    rest = from_depth nodes ps d

    by_depth : (depth_of nodes p ≡ suc d) ⊎ (depth_of nodes p ≡ suc d → ⊥) → many q (from_depth nodes (p ∷ ps) d) ≤ many q (p ∷ []) + many q rest
        → many q (from_depth nodes (p ∷ ps) (suc d)) ≤ many q (p ∷ []) + many q (here ++ rest)
    by_depth (inl same) later =
        let is : from_depth nodes (p ∷ ps) (suc d) ≡ (p ∷ []) ++ (here ++ rest) =
        ap (λ b. cond b (p ∷ here) here ++ from_depth nodes (p ∷ ps) d) (eq-eqb (depth_of nodes p) (suc d) same)
        ∙ ap (λ ds. (p ∷ here) ++ ds) (deeper nodes p ps d (omega (arith, same))) in
        let all : many q (from_depth nodes (p ∷ ps) (suc d)) ≡ many q (p ∷ []) + many q (here ++ rest) = ap (λ ds. many q ds) is ∙ many-append q (p ∷ []) (here ++ rest) in
        omega (arith, all)
    by_depth (inr other) later =
        let is : from_depth nodes (p ∷ ps) (suc d) ≡ here ++ from_depth nodes (p ∷ ps) d =
        ap (λ b. cond b (p ∷ here) here ++ from_depth nodes (p ∷ ps) d) (ne_eqb (depth_of nodes p) (suc d) other) in
        let all : many q (from_depth nodes (p ∷ ps) (suc d)) ≡ many q here + many q (from_depth nodes (p ∷ ps) d) = ap (λ ds. many q ds) is ∙ many-append q here (from_depth nodes (p ∷ ps) d) in
        let fewer : many q (here ++ rest) ≡ many q here + many q rest = many-append q here rest in
        omega (arith, all, fewer, later)

none_left : (nodes : List Node) (d : ℕ) → from_depth nodes [] d ≡ []
none_left nodes zero = refl
none_left nodes (suc d) = none_left nodes d

-- by their depth there are no more than before
pub no_more : (nodes : List Node) (q : ℕ → Bool) (ps : List ℕ) (d : ℕ) → many q (from_depth nodes ps d) ≤ many q ps
no_more nodes q [] d =
    let same : many q (from_depth nodes [] d) ≡ 0 = ap (λ ds. many q ds) (none_left nodes d) in
    let none : many q (from_depth nodes [] d) ≤ 0 = omega (arith, same) in
    none
no_more nodes q (p ∷ ps) d =
    let whole : many q (p ∷ ps) ≡ many q (p ∷ []) + many q ps = many-append q (p ∷ []) ps in
    omega (arith, whole, with_one nodes q p ps d, no_more nodes q ps d)

-- ---- by id

-- nodes of one course that have one id are the same
same_number : (base : List ℕ) (course j k : ℕ) → j < 2 ^ 64 → k < 2 ^ 64 → activity_text base course j ≡ activity_text base course k → j ≡ k
same_number base course j k few small same =
    decimal_injective j k few small (append_cancel_left (base ++ codes "activities/" ++ decimal course ++ codes "/") (decimal j) (decimal k) same)

-- the registration is that one, and the node has that id
abbrev pub is_that_node : SeenEnrolment → List ℕ → List ℕ → ℕ → Bool
is_that_node e registration activity index = bytes_eq e.registration registration && bytes_eq (activity_of_node e index) activity

-- Such a node isn't owed, or it is owed once and was never said.
abbrev pub IsOwedOnce : SeenEnrolment → List StoredStatement → List ℕ → List ℕ → Type 0
IsOwedOnce e statements registration activity =
    (many (is_that_node e registration activity) (owed e statements) ≡ 0)
    ⊎ ((many (is_that_node e registration activity) (owed e statements) ≤ 1) × (was_said statements registration activity satisfied ≡ false))

pub owed_once : (e : SeenEnrolment) (statements : List StoredStatement) (registration activity : List ℕ) → length e.nodes < 2 ^ 32 → IsOwedOnce e statements registration activity
owed_once e statements registration activity few = by_some (some_passes due (indices e.nodes))
  where
    due : ℕ → Bool
    due p = is_owed e statements p && is_that_node e registration activity p

    fewer : many (is_that_node e registration activity) (owed e statements) ≤ many due (indices e.nodes)
    fewer =
        let deep : many (is_that_node e registration activity) (owed e statements) ≤ many (is_that_node e registration activity) (filter (is_owed e statements) (indices e.nodes)) =
        no_more e.nodes (is_that_node e registration activity) (filter (is_owed e statements) (indices e.nodes)) (length e.nodes) in
        let same : many (is_that_node e registration activity) (filter (is_owed e statements) (indices e.nodes)) ≡ many due (indices e.nodes) =
        many_filter (is_that_node e registration activity) (is_owed e statements) (indices e.nodes) in
        omega (arith, deep, same)

    it_is : (p : ℕ) → due p ≡ true → (e.registration ≡ registration) × (activity_of_node e p ≡ activity)
    it_is p is =
        let both : is_that_node e registration activity p ≡ true = second_so (is_owed e statements p) (is_that_node e registration activity p) is in (
          same_text e.registration registration (sym (first_so (bytes_eq e.registration registration) (bytes_eq (activity_of_node e p) activity) both)),
          same_text (activity_of_node e p) activity (sym (second_so (bytes_eq e.registration registration) (bytes_eq (activity_of_node e p) activity) both)),
        )

    alike : (j k : ℕ) → j < length e.nodes → k < length e.nodes → due j ≡ true → due k ≡ true → j ≡ k
    alike j k low high is at = same_number e.base e.course j k (omega (arith, low, few)) (omega (arith, high, few)) ((it_is j is).1 ∙ sym (it_is k at).1)

    once : many due (indices e.nodes) ≤ 1
    once = one_in_row due (length e.nodes) alike 0 (length e.nodes) (omega arith)

    unsaid : (p : ℕ) → due p ≡ true → was_said statements registration activity satisfied ≡ false
    unsaid p is =
        let never : was_said statements e.registration (activity_of_node e p) satisfied ≡ false =
        not-true (was_said statements e.registration (activity_of_node e p) satisfied)
        (second_so (not (is_unit_in e.nodes p) && is_satisfied e statements p) (not (was_said statements e.registration (activity_of_node e p) satisfied))
        (first_so (is_owed e statements p) (is_that_node e registration activity p) is)) in
        ap (λ r. was_said statements r activity satisfied) (sym (it_is p is).0) ∙ (ap (λ a. was_said statements e.registration a satisfied) (sym (it_is p is).1) ∙ never)

    by_some : (many due (indices e.nodes) ≡ 0) ⊎ ((p : ℕ) × (due p ≡ true)) → IsOwedOnce e statements registration activity
    by_some (inl none) = inl (omega (arith, fewer, none))
    by_some (inr found) = inr (omega (arith, fewer, once), unsaid found.0 found.1)
