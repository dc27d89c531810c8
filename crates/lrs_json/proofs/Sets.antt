-- A set of borrowed names, as the loops fill it that look for one that comes again.
use Rattle.std.proofs.Common.{◌≡◌, ℕ, List, [], ◌∷◌, Bool, true, false, not, cond, ◌&&◌, ◌||◌, refl, sym, ap, ◌∙◌}
use Rattle.std.specs.BTreeSet.{BTreeSet, contains_by, UpdatesBy}
use Rattle.std.specs.Str.{bytes_eq}
use Rattle.std.specs.Cmp.Lexicographic.{slice_cmp}
use Rattle.std.specs.Ordering.{nat_cmp}
use Rattle.std.proofs.lemmas.Cmp.{nat_list_eq_equiv}
use Rattle.std.proofs.lemmas.Map.Text.{is_eq-slice_cmp}
use denote.Ref.{Bor}
use Rattle.lrs_json.specs.Names.{are_new, is_among}

abbrev pub Names : Type 0
Names = BTreeSet (Bor (List ℕ))

-- the set has the name
abbrev pub has_name : List ℕ → Names → Bool
has_name k names = contains_by (λ n. slice_cmp nat_cmp k n.now) names

pub cond_or : (b c : Bool) → cond b true c ≡ (b || c)
cond_or true c = refl
cond_or false c = refl

pub not_false : (b : Bool) → false ≡ not b → b ≡ true
not_false true e = refl
not_false false e = e

pub not_true : (b : Bool) → true ≡ not b → b ≡ false
not_true true e = e
not_true false e = refl

key : List ℕ → Bor (List ℕ)
key k = record { ref_ptr = (0, 0); now = k }

-- a set that took a name has it and those before
pub has_more : (k : Bor (List ℕ)) (old new : Names) (so_far : List (List ℕ)) → UpdatesBy (λ x y. slice_cmp nat_cmp x.now y.now) (λ n. slice_cmp nat_cmp k.now n.now) old new true
    → ((q : List ℕ) → has_name q old ≡ is_among q so_far) → (q : List ℕ) → has_name q new ≡ is_among q (k.now ∷ so_far)
unfolding key
has_more k old new so_far updates has q =
    updates.0 (key q) ∙ ap (λ b. cond b true (has_name q old)) (is_eq-slice_cmp k.now q ∙ nat_list_eq_equiv.symm k.now q) ∙ cond_or (bytes_eq q k.now) (has_name q old) ∙ ap (λ b. bytes_eq q k.now || b) (has q)

-- The set has each name so far, and all are new where those that are left are, after these.
pub record SetSoFar (names : Names) (left all : List (List ℕ)) : Type 0 where
  pub so_far : List (List ℕ)
  pub has : (k : List ℕ) → has_name k names ≡ is_among k so_far
  pub same : are_new so_far left ≡ are_new [] all

-- a name that is new
pub name_new : (k : Bor (List ℕ)) (names new : Names) (was left all : List (List ℕ)) → SetSoFar names was all → was ≡ k.now ∷ left
    → UpdatesBy (λ x y. slice_cmp nat_cmp x.now y.now) (λ n. slice_cmp nat_cmp k.now n.now) names new true → true ≡ not (has_name k.now names) → SetSoFar new left all
name_new k names new was left all so e updates unknown =
    let among : is_among k.now so.so_far ≡ false = sym (so.has k.now) ∙ not_true (has_name k.now names) unknown in
    record {
      so_far = k.now ∷ so.so_far;
      has = has_more k names new so.so_far updates so.has;
      same = ap (λ b. not b && are_new (k.now ∷ so.so_far) left) (sym among) ∙ ap (are_new so.so_far) (sym e) ∙ so.same;
    }

-- a name that comes again
pub name_again : (k : Bor (List ℕ)) (names : Names) (was left all : List (List ℕ)) → SetSoFar names was all → was ≡ k.now ∷ left
    → false ≡ not (has_name k.now names) → false ≡ are_new [] all
name_again k names was left all so e known =
    let among : is_among k.now so.so_far ≡ true = sym (so.has k.now) ∙ not_false (has_name k.now names) known in
    ap (λ b. not b && are_new (k.now ∷ so.so_far) left) (sym among) ∙ ap (are_new so.so_far) (sym e) ∙ so.same

pub names_done : (names : Names) (was all : List (List ℕ)) → SetSoFar names was all → was ≡ [] → true ≡ are_new [] all
names_done names was all so e = ap (are_new so.so_far) (sym e) ∙ so.same
