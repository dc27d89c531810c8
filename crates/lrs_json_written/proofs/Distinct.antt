-- Whether the names of an object are distinct, as far as a loop came.
use Rattle.std.proofs.Common.{◌≡◌, ◌≤◌, ◌<◌, ◌+◌, ℕ, get_or, length, List, [], ◌∷◌, ◌++◌, map, take, drop, Bool, true, false, not, ◌&&◌, ◌||◌, refl, sym, ap, ◌∙◌, subst}
use Rattle.std.specs.BTreeSet.{UpdatesBy}
use Rattle.std.specs.Cmp.Lexicographic.{slice_cmp}
use Rattle.std.specs.Ordering.{nat_cmp}
use Rattle.std.specs.Str.{bytes_eq}
use Rattle.std.proofs.lemmas.List.{drop_all, take_more}
use denote.Ref.{Bor}
use Rattle.lrs_json.specs.Names.{are_new, is_among}
use Rattle.lrs_json.specs.View.{member_view}
use Rattle.lrs_json.specs.declared.tree.Member.{Member}
use Rattle.lrs_json.proofs.Sets.{Names, SetSoFar, has_name, name_again, name_new, names_done}
use Rattle.lrs_json.proofs.Lists.{drop_item}
use Rattle.lrs_json_written.specs.Fitting.{names_in}

-- The names before are those so far, and all are new where those that are left are, after these.
pub record NewSoFar (before left all : List (List ℕ)) : Type 0 where
  pub so_far : List (List ℕ)
  pub has : (k : List ℕ) → is_among k before ≡ is_among k so_far
  pub same : are_new so_far left ≡ are_new [] all

or_swap : (a b c : Bool) → a || (b || c) ≡ b || (a || c)
or_swap true true c = refl
or_swap true false c = refl
or_swap false true c = refl
or_swap false false c = refl

among_end : (k n : List ℕ) (ns : List (List ℕ)) → is_among k (ns ++ n ∷ []) ≡ bytes_eq k n || is_among k ns
among_end k n [] = refl
among_end k n (l ∷ ns) = ap (λ b. bytes_eq k l || b) (among_end k n ns) ∙ or_swap (bytes_eq k l) (bytes_eq k n) (is_among k ns)

names_end : (ms : List Member) (m : Member) → names_in (ms ++ m ∷ []) ≡ names_in ms ++ (member_view m).0 ∷ []
names_end [] m = refl
names_end (n ∷ ms) m = ap (λ ks. (member_view n).0 ∷ ks) (names_end ms m)

names_more : (ms : List Member) (i : ℕ) (m : Member) → i < length ms → m ≡ get_or ms i m → names_in (take (i + 1) ms) ≡ names_in (take i ms) ++ (member_view m).0 ∷ []
names_more ms i m within at =
    ap (λ us. names_in us) (take_more ms i m within ∙ ap (λ x. take i ms ++ x ∷ []) (sym at)) ∙ names_end (take i ms) m

names_left : (ms : List Member) (i : ℕ) (m : Member) → i < length ms → m ≡ get_or ms i m → names_in (drop i ms) ≡ (member_view m).0 ∷ names_in (drop (i + 1) ms)
names_left ms i m within at = ap (λ us. names_in us) (drop_item ms i m within at)

-- a name that is new
new_more : (before after left all : List (List ℕ)) (k : List ℕ) → NewSoFar before (k ∷ left) all → is_among k before ≡ false
    → ((q : List ℕ) → is_among q after ≡ bytes_eq q k || is_among q before) → NewSoFar after left all
new_more before after left all k so unknown more =
    let among : is_among k so.so_far ≡ false = sym (so.has k) ∙ unknown in
    record {
      so_far = k ∷ so.so_far;
      has = λ q. more q ∙ ap (λ b. bytes_eq q k || b) (so.has q);
      same = ap (λ b. not b && are_new (k ∷ so.so_far) left) (sym among) ∙ so.same;
    }

-- the same names
pub names_told : (ms : List Member) → names_in ms ≡ map (λ m. (member_view m).0) ms
names_told [] = refl
names_told (m ∷ ms) = ap (λ ks. (member_view m).0 ∷ ks) (names_told ms)

pub few_begin : (all : List (List ℕ)) → NewSoFar [] all all
few_begin all = record { so_far = []; has = λ k. refl; same = refl }

pub few_more : (ms : List Member) (i : ℕ) (m : Member) (named : Bool) → i < length ms → m ≡ get_or ms i m → named ≡ is_among (member_view m).0 (names_in (take i ms)) → named ≡ false
    → NewSoFar (names_in (take i ms)) (names_in (drop i ms)) (names_in ms) → NewSoFar (names_in (take (i + 1) ms)) (names_in (drop (i + 1) ms)) (names_in ms)
few_more ms i m named within at told new so =
    let k = (member_view m).0 in
    new_more (names_in (take i ms)) (names_in (take (i + 1) ms)) (names_in (drop (i + 1) ms)) (names_in ms) k
    (subst (λ left. NewSoFar (names_in (take i ms)) left (names_in ms)) (names_left ms i m within at) so) (sym told ∙ new)
    (λ q. ap (λ ns. is_among q ns) (names_more ms i m within at) ∙ among_end q k (names_in (take i ms)))

pub few_again : (ms : List Member) (i : ℕ) (m : Member) (named : Bool) → i < length ms → m ≡ get_or ms i m → named ≡ is_among (member_view m).0 (names_in (take i ms)) → named ≡ true
    → NewSoFar (names_in (take i ms)) (names_in (drop i ms)) (names_in ms) → false ≡ are_new [] (names_in ms)
few_again ms i m named within at told known so =
    let k = (member_view m).0 in
    let among : is_among k so.so_far ≡ true = sym (so.has k) ∙ sym told ∙ known in
    ap (λ b. not b && are_new (k ∷ so.so_far) (names_in (drop (i + 1) ms))) (sym among)
    ∙ ap (λ left. are_new so.so_far left) (sym (names_left ms i m within at)) ∙ so.same

pub few_done : (ms : List Member) (i : ℕ) → length ms ≤ i → NewSoFar (names_in (take i ms)) (names_in (drop i ms)) (names_in ms) → true ≡ are_new [] (names_in ms)
few_done ms i end so = ap (λ us. are_new so.so_far (names_in us)) (sym (drop_all i ms end)) ∙ so.same

-- the names from a member on, as borrowed
names_from : (k : Bor (List ℕ)) (ms : List Member) (i : ℕ) (m : Member) → i < length ms → m ≡ get_or ms i m → (member_view m).0 ≡ k.now → names_in (drop i ms) ≡ k.now ∷ names_in (drop (i + 1) ms)
names_from k ms i m within at name = names_left ms i m within at ∙ ap (λ n. n ∷ names_in (drop (i + 1) ms)) name

pub many_more : (k : Bor (List ℕ)) (names new : Names) (ms : List Member) (i : ℕ) (m : Member) → i < length ms → m ≡ get_or ms i m → (member_view m).0 ≡ k.now → SetSoFar names (names_in (drop i ms)) (names_in ms)
    → UpdatesBy (λ x y. slice_cmp nat_cmp x.now y.now) (λ n. slice_cmp nat_cmp k.now n.now) names new true → true ≡ not (has_name k.now names) → SetSoFar new (names_in (drop (i + 1) ms)) (names_in ms)
many_more k names new ms i m within at name so updates unknown =
    name_new k names new (names_in (drop i ms)) (names_in (drop (i + 1) ms)) (names_in ms) so (names_from k ms i m within at name) updates unknown

pub many_again : (k : Bor (List ℕ)) (names : Names) (ms : List Member) (i : ℕ) (m : Member) → i < length ms → m ≡ get_or ms i m → (member_view m).0 ≡ k.now → SetSoFar names (names_in (drop i ms)) (names_in ms)
    → false ≡ not (has_name k.now names) → false ≡ are_new [] (names_in ms)
many_again k names ms i m within at name so known =
    name_again k names (names_in (drop i ms)) (names_in (drop (i + 1) ms)) (names_in ms) so (names_from k ms i m within at name) known

pub many_done : (names : Names) (ms : List Member) (i : ℕ) → length ms ≤ i → SetSoFar names (names_in (drop i ms)) (names_in ms) → true ≡ are_new [] (names_in ms)
many_done names ms i end so = names_done names (names_in (drop i ms)) (names_in ms) so (ap (λ us. names_in us) (drop_all i ms end))
