-- Two objects that are the same have the same members, one by one.
use Rattle.std.proofs.Common.{◌≡◌, ℕ, List, [], ◌∷◌, refl, ap, sym, ◌∙◌}
use Rattle.lrs_json.specs.Json.{Json, Members, no_members, member, object}
use Rattle.lrs_json.specs.View.{members_of}

same_pair : (a p : List ℕ × Json) → a.0 ≡ p.0 → a.1 ≡ p.1 → a ≡ p
same_pair a p names values = ap (λ name. (name, a.1)) names ∙ ap (λ value. (p.0, value)) values

-- the first members are the same, and what follows them
first_member : (a p : List ℕ × Json) (ms ns : Members) → member a.0 a.1 ms ≡ member p.0 p.1 ns → (a ≡ p) × (ms ≡ ns)
first_member a p ms ns same =
    let names : a.0 ≡ p.0 = cc same in
    let values : a.1 ≡ p.1 = cc same in
    (same_pair a p names values, cc same)

same_members : (ms ns : Members) → object ms ≡ object ns → ms ≡ ns
same_members ms ns same = cc same

pub one_part : (seen : Json) (a p : List ℕ × Json) → seen ≡ object (members_of (a ∷ [])) → seen ≡ object (members_of (p ∷ [])) → a ≡ p
one_part seen a p x y = (first_member a p no_members no_members (same_members _ _ (sym x ∙ y))).0

same_lists : (a b : List ℕ × Json) (others more : List (List ℕ × Json)) → a ≡ b → others ≡ more → a ∷ others ≡ b ∷ more
same_lists a b others more x y = rw (x, y) refl

told_members : (ms ns : List (List ℕ × Json)) → members_of ms ≡ members_of ns → ms ≡ ns
told_members [] [] same = refl
told_members [] (b ∷ ns) same = absurd (cc same)
told_members (a ∷ ms) [] same = absurd (cc same)
told_members (a ∷ ms) (b ∷ ns) same =
    let parts = first_member a b (members_of ms) (members_of ns) same in
    same_lists a b ms ns parts.0 (told_members ms ns parts.1)

pub all_parts : (ms ns : List (List ℕ × Json)) → object (members_of ms) ≡ object (members_of ns) → ms ≡ ns
all_parts ms ns same = told_members ms ns (same_members (members_of ms) (members_of ns) same)

pub four_parts : (seen : Json) (a b c d p q r s : List ℕ × Json) → seen ≡ object (members_of (a ∷ b ∷ c ∷ d ∷ [])) → seen ≡ object (members_of (p ∷ q ∷ r ∷ s ∷ []))
    → (a ≡ p) × (b ≡ q) × (c ≡ r) × (d ≡ s)
four_parts seen a b c d p q r s x y =
    let first = first_member a p _ _ (same_members (members_of (a ∷ b ∷ c ∷ d ∷ [])) (members_of (p ∷ q ∷ r ∷ s ∷ [])) (sym x ∙ y)) in
    let second = first_member b q (members_of (c ∷ d ∷ [])) (members_of (r ∷ s ∷ [])) first.1 in
    let third = first_member c r (members_of (d ∷ [])) (members_of (s ∷ [])) second.1 in
    let fourth = first_member d s no_members no_members third.1 in
    (first.0, second.0, third.0, fourth.0)
