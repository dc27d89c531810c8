-- The loop over the names of an object, which looks for repeated ones.
use Rattle.std.proofs.Common.{◌≡◌, ◌≤◌, ◌<◌, ◌+◌, ◌||◌, ℕ, zero, suc, Bool, List, [], ◌∷◌, ◌++◌, length, take, drop, map, ◌⊎◌, inl, inr, arith, true, false, not, Option, Some, if◌then◌else◌, refl, sym, ap, ◌∙◌, subst}
use Rattle.std.specs.BTreeSet.{UpdatesBy}
use Rattle.std.proofs.lemmas.List.{map-append}
use Rattle.std.specs.Str.{bytes_eq}
use Rattle.std.specs.Cmp.Lexicographic.{slice_cmp}
use Rattle.std.specs.Ordering.{nat_cmp}
use denote.Ref.{Bor}
use Rattle.lrs_json.specs.Names.{is_among}
use Rattle.lrs_json.proofs.Sets.{Names, has_more, has_name, not_false, not_true}
use Rattle.lrs_json_reader.specs.Flaws.{earlier, earliest}
use Rattle.lrs_json_reader.specs.Reading.{repeated_among}
use Rattle.lrs_json_reader.proofs.Noting.{earlier-assoc}

-- Of the names so far each is known, and what is found, with what is left, is what there is to find.
pub record NamesSoFar (known : List ℕ → Bool) (found : Option ℕ) (ks : List (List ℕ)) (lefts : List ℕ) (all_ks : List (List ℕ)) (all_lefts : List ℕ) : Type 0 where
  pub so_far : List (List ℕ)
  pub has : (k : List ℕ) → known k ≡ is_among k so_far
  pub finds : earlier found (earliest (repeated_among so_far ks lefts)) ≡ earliest (repeated_among [] all_ks all_lefts)

-- one name more is known
abbrev pub Knows : (List ℕ → Bool) → List ℕ → (List ℕ → Bool) → Type 0
Knows old k new = (so_far : List (List ℕ)) → ((q : List ℕ) → old q ≡ is_among q so_far) → (q : List ℕ) → new q ≡ is_among q (k ∷ so_far)

name_again_at : (k : List ℕ) (left : ℕ) (known new : List ℕ → Bool) (found : Option ℕ) (ks : List (List ℕ)) (lefts : List ℕ) (all_ks : List (List ℕ)) (all_lefts : List ℕ) → NamesSoFar known found (k ∷ ks) (left ∷ lefts) all_ks all_lefts
    → Knows known k new → known k ≡ true → NamesSoFar new (earlier found (Some left)) ks lefts all_ks all_lefts
name_again_at k left known new found ks lefts all_ks all_lefts so knows is =
    let among : is_among k so.so_far ≡ true = sym (so.has k) ∙ is in
    let more = repeated_among (k ∷ so.so_far) ks lefts in
    record {
      so_far = k ∷ so.so_far;
      has = knows so.so_far so.has;
      finds = earlier-assoc found (Some left) (earliest more) ∙ ap (λ b. earlier found (earliest ((if b then left ∷ [] else []) ++ more))) (sym among) ∙ so.finds;
    }

name_new_at : (k : List ℕ) (left : ℕ) (known new : List ℕ → Bool) (found : Option ℕ) (ks : List (List ℕ)) (lefts : List ℕ) (all_ks : List (List ℕ)) (all_lefts : List ℕ) → NamesSoFar known found (k ∷ ks) (left ∷ lefts) all_ks all_lefts
    → Knows known k new → known k ≡ false → NamesSoFar new found ks lefts all_ks all_lefts
name_new_at k left known new found ks lefts all_ks all_lefts so knows is =
    let among : is_among k so.so_far ≡ false = sym (so.has k) ∙ is in
    let more = repeated_among (k ∷ so.so_far) ks lefts in
    record {
      so_far = k ∷ so.so_far;
      has = knows so.so_far so.has;
      finds = ap (λ b. earlier found (earliest ((if b then left ∷ [] else []) ++ more))) (sym among) ∙ so.finds;
    }

name_again : (k : List ℕ) (left : ℕ) (known new : List ℕ → Bool) (found : Option ℕ) (was ks : List (List ℕ)) (were lefts : List ℕ) (all_ks : List (List ℕ)) (all_lefts : List ℕ) → NamesSoFar known found was were all_ks all_lefts → was ≡ k ∷ ks
    → were ≡ left ∷ lefts → Knows known k new → known k ≡ true → NamesSoFar new (earlier found (Some left)) ks lefts all_ks all_lefts
name_again k left known new found was ks were lefts all_ks all_lefts so e f knows is =
    name_again_at k left known new found ks lefts all_ks all_lefts (subst (λ z. NamesSoFar known found (k ∷ ks) z all_ks all_lefts) f (subst (λ z. NamesSoFar known found z were all_ks all_lefts) e so)) knows is

name_new : (k : List ℕ) (left : ℕ) (known new : List ℕ → Bool) (found : Option ℕ) (was ks : List (List ℕ)) (were lefts : List ℕ) (all_ks : List (List ℕ)) (all_lefts : List ℕ) → NamesSoFar known found was were all_ks all_lefts → was ≡ k ∷ ks
    → were ≡ left ∷ lefts → Knows known k new → known k ≡ false → NamesSoFar new found ks lefts all_ks all_lefts
name_new k left known new found was ks were lefts all_ks all_lefts so e f knows is =
    name_new_at k left known new found ks lefts all_ks all_lefts (subst (λ z. NamesSoFar known found (k ∷ ks) z all_ks all_lefts) f (subst (λ z. NamesSoFar known found z were all_ks all_lefts) e so)) knows is

-- ---- what is known is a set

abbrev pub Updates : Bor (List ℕ) → Names → Names → Type 0
Updates k old new = UpdatesBy (λ x y. slice_cmp nat_cmp x.now y.now) (λ n. slice_cmp nat_cmp k.now n.now) old new true

set_knows : (k : Bor (List ℕ)) (old new : Names) → Updates k old new → Knows (λ q. has_name q old) k.now (λ q. has_name q new)
set_knows k old new updates so_far has q = has_more k old new so_far updates has q

pub set_again : (k : Bor (List ℕ)) (left : ℕ) (names new : Names) (found : Option ℕ) (was ks : List (List ℕ)) (were lefts : List ℕ) (all_ks : List (List ℕ)) (all_lefts : List ℕ) → NamesSoFar (λ q. has_name q names) found was were all_ks all_lefts
    → was ≡ k.now ∷ ks → were ≡ left ∷ lefts → Updates k names new → false ≡ not (has_name k.now names) → NamesSoFar (λ q. has_name q new) (earlier found (Some left)) ks lefts all_ks all_lefts
set_again k left names new found was ks were lefts all_ks all_lefts so e f updates known =
    name_again k.now left (λ q. has_name q names) (λ q. has_name q new) found was ks were lefts all_ks all_lefts so e f (set_knows k names new updates) (not_false (has_name k.now names) known)

pub set_new : (k : Bor (List ℕ)) (left : ℕ) (names new : Names) (found : Option ℕ) (was ks : List (List ℕ)) (were lefts : List ℕ) (all_ks : List (List ℕ)) (all_lefts : List ℕ) → NamesSoFar (λ q. has_name q names) found was were all_ks all_lefts
    → was ≡ k.now ∷ ks → were ≡ left ∷ lefts → Updates k names new → true ≡ not (has_name k.now names) → NamesSoFar (λ q. has_name q new) found ks lefts all_ks all_lefts
set_new k left names new found was ks were lefts all_ks all_lefts so e f updates known =
    name_new k.now left (λ q. has_name q names) (λ q. has_name q new) found was ks were lefts all_ks all_lefts so e f (set_knows k names new updates) (not_true (has_name k.now names) known)

-- ---- what is known are the members before

or_swap : (a b c : Bool) → (a || (b || c)) ≡ (b || (a || c))
or_swap true true c = refl
or_swap true false c = refl
or_swap false b c = refl

among_last : (q k : List ℕ) (ns : List (List ℕ)) → is_among q (ns ++ k ∷ []) ≡ (bytes_eq q k || is_among q ns)
among_last q k [] = refl
among_last q k (n ∷ ns) = ap (λ b. bytes_eq q n || b) (among_last q k ns) ∙ or_swap (bytes_eq q n) (bytes_eq q k) (is_among q ns)

list_knows : (k : List ℕ) (old new : List (List ℕ)) → new ≡ old ++ k ∷ [] → Knows (λ q. is_among q old) k (λ q. is_among q new)
list_knows k old new is so_far has q = ap (is_among q) is ∙ among_last q k old ∙ ap (λ b. bytes_eq q k || b) (has q)

-- Of the items of a list some are passed, and these are left.
pub record Passed {X : Type 0} (xs : List X) (n : ℕ) (left : List X) : Type 0 where
  pub within : n ≤ length xs
  pub behind : drop n xs ≡ left

pass_one : {X : Type 0} (n : ℕ) (xs : List X) (x : X) (left : List X) → drop n xs ≡ x ∷ left → (n < length xs) × (take (suc n) xs ≡ take n xs ++ x ∷ []) × (drop (suc n) xs ≡ left)
pass_one zero [] x left e = absurd (omega (arith, ap length e))
pass_one zero (y ∷ ys) x left e = let h : y ≡ x = cc e in let t : ys ≡ left = cc e in (omega arith, ap (λ z. z ∷ []) h, t)
pass_one (suc n) [] x left e = absurd (omega (arith, ap length e))
pass_one (suc n) (y ∷ ys) x left e = let r = pass_one n ys x left e in (omega (arith, r.0), ap (λ z. y ∷ z) r.1, r.2)

-- one more of the members is before the next
members_know : {X : Type 0} (f : X → List ℕ) (xs : List X) (n : ℕ) (x : X) → take (n + 1) xs ≡ take n xs ++ x ∷ [] → Knows (λ q. is_among q (map f (take n xs))) (f x) (λ q. is_among q (map f (take (n + 1) xs)))
members_know f xs n x e = list_knows (f x) (map f (take n xs)) (map f (take (n + 1) xs)) (ap (map f) e ∙ map-append f (take n xs) (x ∷ []))

pub passed_next : {X : Type 0} (xs : List X) (n : ℕ) (was : List X) (x : X) (left : List X) → Passed xs n was → was ≡ x ∷ left → (n < length xs) × Passed xs (n + 1) left × (take (n + 1) xs ≡ take n xs ++ x ∷ [])
passed_next xs n was x left p e =
    let r = pass_one n xs x left (p.behind ∙ e) in
    let one : n + 1 ≡ suc n = omega arith in
    (r.0, record { within = omega (arith, r.0); behind = rw one r.2 }, rw one r.1)

pub few_again : {X : Type 0} (f : X → List ℕ) (xs : List X) (n left : ℕ) (found : Option ℕ) (was rest : List X) (x : X) (were lefts all_lefts k : List ℕ) (before : List X) (again : Bool) → Passed xs n was
    → NamesSoFar (λ q. is_among q (map f (take n xs))) found (map f was) were (map f xs) all_lefts → was ≡ x ∷ rest → were ≡ left ∷ lefts → f x ≡ k → before ≡ take n xs → again ≡ is_among k (map f before) → again ≡ true
    → NamesSoFar (λ q. is_among q (map f (take (n + 1) xs))) (earlier found (Some left)) (map f rest) lefts (map f xs) all_lefts
few_again f xs n left found was rest x were lefts all_lefts k before again p so e g named is tested holds =
    let known : is_among (f x) (map f (take n xs)) ≡ true = ap (λ z. is_among z (map f (take n xs))) named ∙ ap (λ z. is_among k (map f z)) (sym is) ∙ sym tested ∙ holds in
    name_again (f x) left (λ q. is_among q (map f (take n xs))) (λ q. is_among q (map f (take (n + 1) xs))) found (map f was) (map f rest) were lefts (map f xs) all_lefts so (ap (map f) e) g
    (members_know f xs n x (passed_next xs n was x rest p e).2) known

pub few_new : {X : Type 0} (f : X → List ℕ) (xs : List X) (n left : ℕ) (found : Option ℕ) (was rest : List X) (x : X) (were lefts all_lefts k : List ℕ) (before : List X) (again : Bool) → Passed xs n was
    → NamesSoFar (λ q. is_among q (map f (take n xs))) found (map f was) were (map f xs) all_lefts → was ≡ x ∷ rest → were ≡ left ∷ lefts → f x ≡ k → before ≡ take n xs → again ≡ is_among k (map f before) → again ≡ false
    → NamesSoFar (λ q. is_among q (map f (take (n + 1) xs))) found (map f rest) lefts (map f xs) all_lefts
few_new f xs n left found was rest x were lefts all_lefts k before again p so e g named is tested fails =
    let unknown : is_among (f x) (map f (take n xs)) ≡ false = ap (λ z. is_among z (map f (take n xs))) named ∙ ap (λ z. is_among k (map f z)) (sym is) ∙ sym tested ∙ fails in
    name_new (f x) left (λ q. is_among q (map f (take n xs))) (λ q. is_among q (map f (take (n + 1) xs))) found (map f was) (map f rest) were lefts (map f xs) all_lefts so (ap (map f) e) g
    (members_know f xs n x (passed_next xs n was x rest p e).2) unknown

-- ---- the end

no_names : (known : List ℕ → Bool) (found : Option ℕ) (ks : List (List ℕ)) (lefts : List ℕ) (all_ks : List (List ℕ)) (all_lefts : List ℕ) → NamesSoFar known found ks lefts all_ks all_lefts → ks ≡ []
    → found ≡ earliest (repeated_among [] all_ks all_lefts)
no_names known found ks lefts all_ks all_lefts so none = ap (λ z. earlier found (earliest (repeated_among so.so_far z lefts))) (sym none) ∙ so.finds

no_lefts : (known : List ℕ → Bool) (found : Option ℕ) (ks : List (List ℕ)) (lefts : List ℕ) (all_ks : List (List ℕ)) (all_lefts : List ℕ) → NamesSoFar known found ks lefts all_ks all_lefts → lefts ≡ []
    → found ≡ earliest (repeated_among [] all_ks all_lefts)
no_lefts known found [] lefts all_ks all_lefts so none = so.finds
no_lefts known found (k ∷ ks) lefts all_ks all_lefts so none = ap (λ z. earlier found (earliest (repeated_among so.so_far (k ∷ ks) z))) (sym none) ∙ so.finds

none_left : {X : Type 0} (f : X → List ℕ) (xs : List X) → length xs ≡ 0 → map f xs ≡ []
none_left f [] e = refl
none_left f (x ∷ xs) e = absurd (omega arith)

empty_left : (xs : List ℕ) → length xs ≡ 0 → xs ≡ []
empty_left [] e = refl
empty_left (x ∷ xs) e = absurd (omega arith)

-- where one of the lists is at its end
pub names_done : {X U V : Type 0} (f : X → List ℕ) {P : U → Type 0} {Q : V → Type 0} (known : List ℕ → Bool) (found : Option ℕ) (xs : List X) (lefts : List ℕ) (all_ks : List (List ℕ)) (all_lefts : List ℕ) → NamesSoFar known found (map f xs) lefts all_ks all_lefts
    → ((u : U) × ((length xs ≡ 0) × P u)) ⊎ ((v : V) × ((length lefts ≡ 0) × Q v)) → found ≡ earliest (repeated_among [] all_ks all_lefts)
names_done f known found xs lefts all_ks all_lefts so (inl e) = no_names known found (map f xs) lefts all_ks all_lefts so (none_left f xs e.1.0)
names_done f known found xs lefts all_ks all_lefts so (inr e) = no_lefts known found (map f xs) lefts all_ks all_lefts so (empty_left lefts e.1.0)
