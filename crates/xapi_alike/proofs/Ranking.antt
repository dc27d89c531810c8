-- Groups whose members are laid side by side by rank.
use Rattle.std.proofs.Common.{◌≡◌, ℕ, zero, suc, ◌+◌, ◌≤◌, ◌<◌, ◌==◌, ◌⊎◌, inl, inr, arith, length, get_or, List, [], ◌∷◌, ◌++◌, map, take, Bool, true, false, not, ◌&&◌, Option, Some, None, if◌then◌else◌, refl, sym, ap, ◌∙◌, true≢false}
use Rattle.std.specs.List.{sum_by, slice_get}
use Rattle.std.specs.List.Sorted.{IsPermutation}
use Rattle.std.specs.Str.{bytes_eq}
use Rattle.std.proofs.Math.Seq.{take-length, take-suc}
use Rattle.std.proofs.lemmas.Bool.{eq-eqb, not-true, or_from, or_left, or_right}
use Rattle.std.proofs.lemmas.Cmp.{nat_list_eq_equiv}
use Rattle.std.proofs.lemmas.List.{length-map}
use Rattle.std.proofs.lemmas.List.Sorted.{length_permutation, sum_by-IsPermutation}
use Rattle.std.proofs.lemmas.List.Sums.{sum_by-cons, sum_by_push}
use Rattle.std.proofs.lemmas.Option.{slice_get_cases}
use Rattle.std.specs.Cmp.{both_ways, first_so, second_so}
use Rattle.lrs_json.specs.Names.{is_among}
use Rattle.lrs_json.specs.Json.{Json, null, boolean, number, string, array, object, Elements, no_elements, element, Members, no_members, member}
use Rattle.lrs_json.specs.View.{view, elements_of}
use Rattle.lrs_json.specs.declared.tree.Tree.{Tree}
use Rattle.xapi_values.specs.Kinds.{kind_of}
use Rattle.xapi_alike.specs.declared.role.Role.{Role}
use Rattle.xapi_alike.specs.Roles.{is_passed_over, kind_at, role_of_object, role_of_member, is_plural}
use Rattle.xapi_alike.specs.Normal.{Normal, thing, Normals, normal, normal_items, normal_members}
use Rattle.xapi_alike.specs.Alike.{alike, count, same_count, as_often, size, same_bag}
use Rattle.xapi_alike.specs.Steps.{has_member_named}
use Rattle.xapi_alike.specs.Ranks.{indices_to, has_own_names, have_own_names, are_own_names}
use Rattle.xapi_alike.proofs.Neat.{Neat, NeatAll, NeatNamed, neat_alone, neat_member}
use Rattle.xapi_alike.proofs.Bags.{In, neat_in, as_often_counts, counts_as_often}
use Rattle.xapi_alike.proofs.Laws.{alike-sym, alike-trans}
use Rattle.xapi_alike.proofs.Walks.{sizes_agree}
use Rattle.lrs_json_equal.proofs.SameValues.{name_is}

-- ---- names of their own

-- no name of the members is among these
abbrev NoneAmong : List (List ℕ) → Members → Type 0
NoneAmong names ms = (k : List ℕ) → has_member_named k ms ≡ true → is_among k names ≡ false

other_name : (b : Bool) (k i : List ℕ) (ms : Members) → bytes_eq i k ≡ b → has_member_named k ms ≡ false → has_member_named i ms ≡ true → b ≡ false
other_name true k i ms e new old = absurd (true≢false (sym old ∙ (ap (λ (n : List ℕ). has_member_named n ms) (name_is i k e) ∙ new)))
other_name false k i ms e new old = refl

mutual
  pub neat_own : (p : Role) (j : Json) → has_own_names j ≡ true → Neat (normal p j)
  neat_own p null e = tt
  neat_own p (boolean b) e = tt
  neat_own p (number s) e = tt
  neat_own p (string s) e = tt
  neat_own p (array js) e = absurd (true≢false (sym e))
  neat_own p (object ms) e =
      let kind = kind_at p (kind_of (object ms)) in
      neat_alone (is_plural p) (thing kind (normal_members (role_of_object p kind) ms)) (neat_own_members (role_of_object p kind) ms [] e (λ k h. refl))

  neat_own_members : (p : Role) (ms : Members) (names : List (List ℕ)) → are_own_names ms ≡ true → NoneAmong names ms → NeatNamed names (normal_members p ms)
  neat_own_members p no_members names e apart = tt
  neat_own_members p (member k j ms) names e apart =
      let first = not-true (has_member_named k ms) (first_so (not (has_member_named k ms)) (has_own_names j && are_own_names ms) e) in
      let rest = second_so (not (has_member_named k ms)) (has_own_names j && are_own_names ms) e in
      neat_member (is_passed_over p k) k names (normal (role_of_member p k) j) (normal_members p ms)
      (apart k (or_left (bytes_eq k k) (has_member_named k ms) (nat_list_eq_equiv.refl k)))
      (neat_own (role_of_member p k) j (first_so (has_own_names j) (are_own_names ms) rest))
      (neat_own_members p ms (k ∷ names) (second_so (has_own_names j) (are_own_names ms) rest)
      (λ i h. or_from (bytes_eq i k) (is_among i names) (other_name (bytes_eq i k) k i ms refl first h) (apart i (or_right (bytes_eq k i) (has_member_named i ms) h))))

pub neat_own_items : (p : Role) (js : Elements) → have_own_names js ≡ true → NeatAll (normal_items p js)
neat_own_items p no_elements e = tt
neat_own_items p (element j js) e =
    (neat_own p j (first_so (has_own_names j) (have_own_names js) e), neat_own_items p js (second_so (has_own_names j) (have_own_names js) e))

-- ---- counting by indices

abbrev pub bag : Role → List Tree → Normals
bag p ts = normal_items p (elements_of (map view ts))

abbrev one_if : Bool → ℕ
one_if b = if b then 1 else 0

abbrev pub passing : (Normal → Bool) → Role → Option Tree → ℕ
passing f p None = 0
passing f p (Some t) = one_if (f (normal p (view t)))

-- 1 where there is an item at the index, and it passes
abbrev pub passing_at : (Normal → Bool) → Role → List Tree → ℕ → ℕ
passing_at f p ts i = passing f p (slice_get ts i)

count_last : (f : Normal → Bool) (p : Role) (ts : List Tree) (t : Tree) → count f (bag p (ts ++ t ∷ [])) ≡ count f (bag p ts) + one_if (f (normal p (view t)))
count_last f p [] t = here (f (normal p (view t)))
  where
    here : (b : Bool) → (if b then 1 else 0) ≡ 0 + one_if b
    here true = refl
    here false = refl
count_last f p (x ∷ ts) t = here (f (normal p (view x))) (count f (bag p (ts ++ t ∷ []))) (count f (bag p ts)) (one_if (f (normal p (view t)))) (count_last f p ts t)
  where
    here : (b : Bool) (m n k : ℕ) → m ≡ n + k → (if b then suc m else m) ≡ (if b then suc n else n) + k
    here true m n k e = omega (arith, e)
    here false m n k e = e

one_more_index : (f : Normal → Bool) (p : Role) (ts : List Tree) (n : ℕ) (x : Tree) → slice_get ts n ≡ Some x → take (suc n) ts ≡ take n ts ++ x ∷ [] → sum_by (passing_at f p ts) (indices_to n) ≡ count f (bag p (take n ts))
    → sum_by (passing_at f p ts) (indices_to n ++ n ∷ []) ≡ count f (bag p (take (suc n) ts))
one_more_index f p ts n x here there e =
    sum_by_push (passing_at f p ts) (indices_to n) n ∙ (ap (λ (m : ℕ). m + passing_at f p ts n) e ∙ (ap (λ (o : Option Tree). count f (bag p (take n ts)) + passing f p o) here
    ∙ (sym (count_last f p (take n ts) x) ∙ ap (λ (us : List Tree). count f (bag p us)) (sym there))))

-- the items that pass, counted over the indices below n
count_indices : (f : Normal → Bool) (p : Role) (ts : List Tree) (n : ℕ) → n ≤ length ts → sum_by (passing_at f p ts) (indices_to n) ≡ count f (bag p (take n ts))
count_indices f p ts zero h = refl
count_indices f p ts (suc n) h = here (slice_get_cases ts n).1 (count_indices f p ts n (omega (arith, h)))
  where
    here : ((x : Tree) × (n < length ts) × (slice_get ts n ≡ Some x) × (get_or ts n x ≡ x)) ⊎ ((length ts ≤ n) × (slice_get ts n ≡ None)) → sum_by (passing_at f p ts) (indices_to n) ≡ count f (bag p (take n ts))
        → sum_by (passing_at f p ts) (indices_to n ++ n ∷ []) ≡ count f (bag p (take (suc n) ts))
    here (inl g) e = one_more_index f p ts n g.0 g.2 (take-suc ts n g.0 g.1 ∙ ap (λ (x : Tree). take n ts ++ x ∷ []) g.3) e
    here (inr g) e = absurd (omega (arith, h, g.0))

-- ---- items side by side

in_items : (p : Role) (ts : List Tree) (i : ℕ) (t : Tree) → slice_get ts i ≡ Some t → In (normal p (view t)) (bag p ts)
in_items p [] i t e = absurd (none_there t e)
  where
    none_there : (t : Tree) → ◌≡◌ {A = Option Tree} None (Some t) → ⊥
    none_there t e = cc e
in_items p (x ∷ ts) zero t e = inl (ap (λ (u : Tree). normal p (view u)) (the_first t x e))
  where
    the_first : (t x : Tree) → Some x ≡ Some t → t ≡ x
    the_first t x e = cc e
in_items p (x ∷ ts) (suc i) t e = inr (in_items p ts i t e)

-- What is left of the ranked indices tells whether each item that there is counts as often in both.
abbrev pub Ranked : Role → List Tree → List Tree → List ℕ → List ℕ → Type 0
Ranked p ts us is js =
    (length is ≡ length js)
    × ((z : Normal) → Neat z → sum_by (passing_at (alike z) p ts) is ≡ sum_by (passing_at (alike z) p us) js → count (alike z) (bag p ts) ≡ count (alike z) (bag p us))

whole : (f : Normal → Bool) (p : Role) (ts : List Tree) (is : List ℕ) → IsPermutation (indices_to (length ts)) is → count f (bag p ts) ≡ sum_by (passing_at f p ts) is
whole f p ts is perm =
    ap (λ (us : List Tree). count f (bag p us)) (sym (take-length ts)) ∙ (sym (count_indices f p ts (length ts) (omega arith)) ∙ sym (sum_by-IsPermutation (passing_at f p ts) (indices_to (length ts)) is perm))

pub ranked_first : (p : Role) (ts us : List Tree) (is js : List ℕ) → length ts ≡ length us → IsPermutation (indices_to (length ts)) is → IsPermutation (indices_to (length us)) js → Ranked p ts us is js
ranked_first p ts us is js e a b = (
  length_permutation (indices_to (length ts)) is a ∙ (ap (λ (n : ℕ). length (indices_to n)) e ∙ sym (length_permutation (indices_to (length us)) js b)),
  λ z n s. whole (alike z) p ts is a ∙ (s ∙ sym (whole (alike z) p us js b)),
)

alike_joins : (z x y : Normal) → Neat z → Neat x → Neat y → alike x y ≡ true → alike z x ≡ alike z y
alike_joins z x y nz nx ny e =
    both_ways (alike z x) (alike z y) (λ f. alike-trans z x y nz nx f e) (λ f. alike-trans z y x nz ny f (alike-sym x y nx ny e))

passes_alike : (p : Role) (ts us : List Tree) (i j : ℕ) (t u : Tree) → slice_get ts i ≡ Some t → slice_get us j ≡ Some u → NeatAll (bag p ts) → NeatAll (bag p us)
    → alike (normal p (view t)) (normal p (view u)) ≡ true → (z : Normal) → Neat z → passing_at (alike z) p ts i ≡ passing_at (alike z) p us j
passes_alike p ts us i j t u a b nt nu e z n =
    let x = normal p (view t) in
    let y = normal p (view u) in
    ap (passing (alike z) p) a
    ∙ (ap one_if (alike_joins z x y n (neat_in (bag p ts) x nt (in_items p ts i t a)) (neat_in (bag p us) y nu (in_items p us j u b)) e) ∙ sym (ap (passing (alike z) p) b))

pub ranked_next : (p : Role) (ts us : List Tree) (i j : ℕ) (is js : List ℕ) (t u : Tree) → slice_get ts i ≡ Some t → slice_get us j ≡ Some u → have_own_names (elements_of (map view ts)) ≡ true → have_own_names (elements_of (map view us)) ≡ true
    → alike (normal p (view t)) (normal p (view u)) ≡ true → Ranked p ts us (i ∷ is) (j ∷ js) → Ranked p ts us is js
ranked_next p ts us i j is js t u a b nt nu e h =
    let one = passes_alike p ts us i j t u a b (neat_own_items p (elements_of (map view ts)) nt) (neat_own_items p (elements_of (map view us)) nu) e in (
      omega (arith, h.0),
      λ z n s. h.1 z n (sum_by-cons (passing_at (alike z) p ts) i is ∙ (ap (λ (m : ℕ). m + sum_by (passing_at (alike z) p ts) is) (one z n) ∙ (ap (λ (m : ℕ). passing_at (alike z) p us j + m) s ∙ sym (sum_by-cons (passing_at (alike z) p us) j js)))),
    )

pub ranked_last : (p : Role) (ts us : List Tree) → length ts ≡ length us → have_own_names (elements_of (map view ts)) ≡ true → Ranked p ts us [] [] → true ≡ same_bag (bag p ts) (bag p us)
ranked_last p ts us e nt h =
    sizes_agree p (map view ts) (map view us) true (length-map ts view ∙ e ∙ sym (length-map us view))
    (sym (counts_as_often (bag p ts) (bag p ts) (bag p us) (λ x i. h.1 x (neat_in (bag p ts) x (neat_own_items p (elements_of (map view ts)) nt) i) refl)))

-- ---- an item that tells bags apart

one_of_them : (x : Normal) (xs ys : Normals) → In x xs → as_often xs xs ys ≡ true → same_count (alike x) xs ys ≡ true
unfolding same_count
one_of_them x xs ys i h = eq-eqb (count (alike x) xs) (count (alike x) ys) (as_often_counts xs xs ys h x i)

neither : (b s : Bool) → (s ≡ true → ⊥) → false ≡ (b && s)
neither b true h = absurd (h refl)
neither true false h = refl
neither false false h = refl

-- it occurs in one more often than in the other
pub told_apart : (p : Role) (ts us : List Tree) (i : ℕ) (t : Tree) → slice_get ts i ≡ Some t → same_count (alike (normal p (view t))) (bag p ts) (bag p us) ≡ false → false ≡ same_bag (bag p ts) (bag p us)
told_apart p ts us i t a e =
    let xs = bag p ts in
    let ys = bag p us in
    neither (size xs == size ys) (as_often xs xs ys) (λ h. true≢false (sym (one_of_them (normal p (view t)) xs ys (in_items p ts i t a) h) ∙ e))
