-- What is alike of arrays without order, given that what is alike of their items is an equivalence.
use Rattle.std.proofs.Common.{◌≡◌, ℕ, suc, ◌+◌, ◌≤◌, ◌==◌, ◌⊎◌, inl, inr, arith, Bool, true, false, ◌||◌, if◌then◌else◌, refl, sym, ap, ◌∙◌, subst, true≢false}
use Rattle.std.proofs.lemmas.Bool.{and_from, eq-eqb, or_cases, or_left, or_right}
use Rattle.std.proofs.lemmas.Bool.Decides.{Decides-eqb}
use Rattle.std.specs.Cmp.{both_ways, first_so, second_so}
use Rattle.xapi_alike.specs.Normal.{Normal, Normals, none, more}
use Rattle.xapi_alike.specs.Alike.{alike, size, count, same_count, as_often, same_bag}
use Rattle.xapi_alike.proofs.Neat.{Neat, NeatAll}
use Rattle.xapi_alike.proofs.Objects.{Agrees}

-- x is one of them
abbrev pub In : Normal → Normals → Type 0
In x none = ⊥
In x (more y ys) = (x ≡ y) ⊎ In x ys

-- each of them agrees with each that is alike
abbrev pub EachAgrees : Normals → Type 0
EachAgrees xs = (x y : Normal) → In x xs → Neat y → alike x y ≡ true → Agrees x y

-- each of them is alike to itself
abbrev pub EachAlike : Normals → Type 0
EachAlike xs = (x : Normal) → In x xs → alike x x ≡ true

pub neat_in : (xs : Normals) (x : Normal) → NeatAll xs → In x xs → Neat x
neat_in none x n i = absurd i
neat_in (more y ys) x n (inl e) = subst Neat (sym e) n.0
neat_in (more y ys) x n (inr i) = neat_in ys x n.1 i

-- ---- counting

-- the two tests agree on each of them
abbrev AgreeOn : (Normal → Bool) → (Normal → Bool) → Normals → Type 0
AgreeOn f g zs = (z : Normal) → In z zs → f z ≡ g z

count_agree : (f g : Normal → Bool) (zs : Normals) → AgreeOn f g zs → count f zs ≡ count g zs
count_agree f g none h = refl
count_agree f g (more z zs) h = rw (h z (inl refl), count_agree f g zs (λ w i. h w (inr i))) refl

some_here : (f : Normal → Bool) (z : Normal) (zs : Normals) (b : Bool) → f z ≡ b → (1 ≤ count f zs → (y : Normal) × In y zs × (f y ≡ true)) → 1 ≤ (if b then suc (count f zs) else count f zs) → (y : Normal) × In y (more z zs) × (f y ≡ true)
some_here f z zs true e later h = (z, inl refl, e)
some_here f z zs false e later h = let there = later h in (there.0, inr there.1, there.2)

count_some : (f : Normal → Bool) (zs : Normals) → 1 ≤ count f zs → (y : Normal) × In y zs × (f y ≡ true)
count_some f none h = absurd (omega (arith, h))
count_some f (more z zs) h = some_here f z zs (f z) refl (count_some f zs) h

count_one : (f : Normal → Bool) (zs : Normals) (x : Normal) → In x zs → f x ≡ true → 1 ≤ count f zs
count_one f none x i e = absurd i
count_one f (more z zs) x (inl i) e = subst (λ (b : Bool). 1 ≤ (if b then suc (count f zs) else count f zs)) (sym e ∙ ap f i) (omega arith)
count_one f (more z zs) x (inr i) e = at_least (f z) (count f zs) (count_one f zs x i e)
  where
    at_least : (b : Bool) (n : ℕ) → 1 ≤ n → 1 ≤ (if b then suc n else n)
    at_least true n h = omega (arith, h)
    at_least false n h = h

count_most : (f : Normal → Bool) (zs : Normals) → count f zs ≤ size zs
count_most f none = omega arith
count_most f (more z zs) = at_most (f z) (count f zs) (size zs) (count_most f zs)
  where
    at_most : (b : Bool) (n m : ℕ) → n ≤ m → (if b then suc n else n) ≤ suc m
    at_most true n m h = omega (arith, h)
    at_most false n m h = omega (arith, h)

-- where all pass, the count is the size, and the other way round
count_full : (f : Normal → Bool) (zs : Normals) → ((z : Normal) → In z zs → f z ≡ true) → count f zs ≡ size zs
count_full f none h = refl
count_full f (more z zs) h = rw (h z (inl refl)) (ap suc (count_full f zs (λ w i. h w (inr i))))

full_here : (f : Normal → Bool) (y z : Normal) (zs : Normals) (b : Bool) → f y ≡ b → count f zs ≤ size zs → (count f zs ≡ size zs → In z zs → f z ≡ true) → (if b then suc (count f zs) else count f zs) ≡ suc (size zs)
    → In z (more y zs) → f z ≡ true
full_here f y z zs false e most later h i = absurd (omega (arith, h, most))
full_here f y z zs true e most later h (inl i) = ap f i ∙ e
full_here f y z zs true e most later h (inr i) = later (omega (arith, h)) i

full_count : (f : Normal → Bool) (zs : Normals) → count f zs ≡ size zs → (z : Normal) → In z zs → f z ≡ true
full_count f none h z i = absurd i
full_count f (more y zs) h z i = full_here f y z zs (f y) refl (count_most f zs) (λ k j. full_count f zs k z j) h i

-- of two tests that no one passes both of
count_either : (f g : Normal → Bool) (zs : Normals) → ((z : Normal) → In z zs → f z ≡ true → g z ≡ false) → count (λ z. f z || g z) zs ≡ count f zs + count g zs
count_either f g none h = refl
count_either f g (more z zs) h = here (f z) (g z) (h z (inl refl)) (count_either f g zs (λ w i. h w (inr i)))
  where
    here : (a b : Bool) → (a ≡ true → b ≡ false) → count (λ z. f z || g z) zs ≡ count f zs + count g zs
        → (if a || b then suc (count (λ z. f z || g z) zs) else count (λ z. f z || g z) zs) ≡ (if a then suc (count f zs) else count f zs) + (if b then suc (count g zs) else count g zs)
    here true true d e = absurd (true≢false (d refl))
    here true false d e = omega (arith, e)
    here false true d e = omega (arith, e)
    here false false d e = e

-- ---- what is alike to one of them

abbrev covers : Normals → Normal → Bool
covers none z = false
covers (more x xs) z = alike x z || covers xs z

covered_here : (x z : Normal) (xs : Normals) → (alike x z ≡ true) ⊎ (covers xs z ≡ true) → (covers xs z ≡ true → (y : Normal) × In y xs × (alike y z ≡ true)) → (y : Normal) × In y (more x xs) × (alike y z ≡ true)
covered_here x z xs (inl f) later = (x, inl refl, f)
covered_here x z xs (inr f) later = let there = later f in (there.0, inr there.1, there.2)

covered_by : (xs : Normals) (z : Normal) → covers xs z ≡ true → (x : Normal) × In x xs × (alike x z ≡ true)
covered_by none z e = absurd (true≢false (sym e))
covered_by (more x xs) z e = covered_here x z xs (or_cases (alike x z) (covers xs z) e) (covered_by xs z)

covers_in : (xs : Normals) (x z : Normal) → In x xs → alike x z ≡ true → covers xs z ≡ true
covers_in none x z i e = absurd i
covers_in (more y xs) x z (inl i) e = or_left (alike y z) (covers xs z) (ap (λ (w : Normal). alike w z) (sym i) ∙ e)
covers_in (more y xs) x z (inr i) e = or_right (alike y z) (covers xs z) (covers_in xs x z i e)

count_none : (zs : Normals) → count (covers none) zs ≡ 0
count_none none = refl
count_none (more z zs) = count_none zs

-- each of the first is one of the second
abbrev Within : Normals → Normals → Type 0
Within ls xs = (x : Normal) → In x ls → In x xs

-- each of them occurs in both as often
abbrev SameCounts : Normals → Normals → Normals → Type 0
SameCounts ls xs ys = (x : Normal) → In x ls → count (alike x) xs ≡ count (alike x) ys

-- one more, which is alike to an earlier one, covers no more
covers_again : (x : Normal) (ls xs : Normals) → Within ls xs → Neat x → EachAgrees xs → covers ls x ≡ true → (z : Normal) → (alike x z || covers ls z) ≡ covers ls z
covers_again x ls xs within n agree e z =
    let by = covered_by ls x e in
    both_ways (alike x z || covers ls z) (covers ls z)
    (λ f. here (or_cases (alike x z) (covers ls z) f)) (λ f. or_right (alike x z) (covers ls z) f)
  where
    here : (alike x z ≡ true) ⊎ (covers ls z ≡ true) → covers ls z ≡ true
    here (inl f) = let by = covered_by ls x e in covers_in ls by.0 z by.1 (agree by.0 x (within by.0 by.1) n by.2 z ∙ f)
    here (inr f) = f

-- one more, which is alike to no earlier one, covers others
covers_others : (x : Normal) (ls xs : Normals) → Within ls xs → In x xs → EachAgrees xs → EachAlike xs → covers ls x ≡ false → (z : Normal) → Neat z → alike x z ≡ true → covers ls z ≡ false
covers_others x ls xs within i agree same e z n f = here (covers ls z) refl
  where
    here : (b : Bool) → covers ls z ≡ b → covers ls z ≡ false
    here false g = g
    here true g =
        let by = covered_by ls z g in
        absurd (true≢false (sym (covers_in ls by.0 x by.1 (agree by.0 z (within by.0 by.1) n by.2 x ∙ (sym (agree x z i n f x) ∙ same x i))) ∙ e))

apart : (x : Normal) (ls xs zs : Normals) → Within ls xs → In x xs → EachAgrees xs → EachAlike xs → covers ls x ≡ false → NeatAll zs → count (covers (more x ls)) zs ≡ count (alike x) zs + count (covers ls) zs
apart x ls xs zs within i agree same e nz = count_either (alike x) (covers ls) zs (λ z j f. covers_others x ls xs within i agree same e z (neat_in zs z nz j) f)

one_more : (x : Normal) (ls xs ys : Normals) (b : Bool) → covers ls x ≡ b → Within ls xs → In x xs → NeatAll xs → NeatAll ys → EachAgrees xs → EachAlike xs → SameCounts xs xs ys
    → count (covers ls) xs ≡ count (covers ls) ys → count (covers (more x ls)) xs ≡ count (covers (more x ls)) ys
one_more x ls xs ys true e within i nx ny agree same counts before =
    let again : (z : Normal) → covers (more x ls) z ≡ covers ls z = covers_again x ls xs within (neat_in xs x nx i) agree e in
    count_agree (covers (more x ls)) (covers ls) xs (λ z j. again z) ∙ (before ∙ sym (count_agree (covers (more x ls)) (covers ls) ys (λ z j. again z)))
one_more x ls xs ys false e within i nx ny agree same counts before =
    apart x ls xs xs within i agree same e nx ∙ (ap (λ (n : ℕ). n + count (covers ls) xs) (counts x i) ∙ (ap (λ (n : ℕ). count (alike x) ys + n) before ∙ sym (apart x ls xs ys within i agree same e ny)))

cover_counts : (ls xs ys : Normals) → Within ls xs → NeatAll xs → NeatAll ys → EachAgrees xs → EachAlike xs → SameCounts xs xs ys → count (covers ls) xs ≡ count (covers ls) ys
cover_counts none xs ys within nx ny agree same counts = count_none xs ∙ sym (count_none ys)
cover_counts (more x ls) xs ys within nx ny agree same counts =
    one_more x ls xs ys (covers ls x) refl (λ w j. within w (inr j)) (within x (inl refl)) nx ny agree same counts (cover_counts ls xs ys (λ w j. within w (inr j)) nx ny agree same counts)

-- each of ys is alike to one of xs
partner_in : (xs ys : Normals) → NeatAll xs → NeatAll ys → EachAgrees xs → EachAlike xs → size xs ≡ size ys → SameCounts xs xs ys → (y : Normal) → In y ys → (x : Normal) × In x xs × (alike x y ≡ true)
partner_in xs ys nx ny agree same sizes counts y i =
    let all : count (covers xs) xs ≡ size xs = count_full (covers xs) xs (λ z j. covers_in xs z z j (same z j)) in
    let there : count (covers xs) ys ≡ size ys = sym (cover_counts xs xs ys (λ x j. j) nx ny agree same counts) ∙ all ∙ sizes in
    covered_by xs y (full_count (covers xs) ys there y i)

-- ---- as often

pub as_often_counts : (ls xs ys : Normals) → as_often ls xs ys ≡ true → SameCounts ls xs ys
unfolding same_count
as_often_counts none xs ys e x i = absurd i
as_often_counts (more y ls) xs ys e x (inl i) =
    subst (λ (z : Normal). count (alike z) xs ≡ count (alike z) ys) (sym i) ((Decides-eqb (count (alike y) xs) (count (alike y) ys)).0 (first_so (same_count (alike y) xs ys) (as_often ls xs ys) e))
as_often_counts (more y ls) xs ys e x (inr i) = as_often_counts ls xs ys (second_so (same_count (alike y) xs ys) (as_often ls xs ys) e) x i

pub counts_as_often : (ls xs ys : Normals) → SameCounts ls xs ys → as_often ls xs ys ≡ true
unfolding same_count
counts_as_often none xs ys h = refl
counts_as_often (more y ls) xs ys h =
    and_from (same_count (alike y) xs ys) (as_often ls xs ys) (eq-eqb (count (alike y) xs) (count (alike y) ys) (h y (inl refl))) (counts_as_often ls xs ys (λ x i. h x (inr i)))

pub bag_refl : (xs : Normals) → same_bag xs xs ≡ true
bag_refl xs = and_from (size xs == size xs) (as_often xs xs xs) (eq-eqb (size xs) (size xs) refl) (counts_as_often xs xs xs (λ x i. refl))

pub bags_agree : (xs ys : Normals) → NeatAll xs → NeatAll ys → EachAgrees xs → EachAlike xs → same_bag xs ys ≡ true → (zs : Normals) → same_bag xs zs ≡ same_bag ys zs
bags_agree xs ys nx ny agree same e zs = both_ways (same_bag xs zs) (same_bag ys zs) onward backward
  where
    sizes : size xs ≡ size ys
    sizes = (Decides-eqb (size xs) (size ys)).0 (first_so (size xs == size ys) (as_often xs xs ys) e)

    counts : SameCounts xs xs ys
    counts = as_often_counts xs xs ys (second_so (size xs == size ys) (as_often xs xs ys) e)

    joined : (x y : Normal) → In x xs → In y ys → alike x y ≡ true → (ws : Normals) → count (alike x) ws ≡ count (alike y) ws
    joined x y i j f ws = count_agree (alike x) (alike y) ws (λ z k. agree x y i (neat_in ys y ny j) f z)

    onward : same_bag xs zs ≡ true → same_bag ys zs ≡ true
    onward f =
        let far = as_often_counts xs xs zs (second_so (size xs == size zs) (as_often xs xs zs) f) in
        and_from (size ys == size zs) (as_often ys ys zs)
        (eq-eqb (size ys) (size zs) (sym sizes ∙ (Decides-eqb (size xs) (size zs)).0 (first_so (size xs == size zs) (as_often xs xs zs) f)))
        (counts_as_often ys ys zs (λ y j.
        let there = partner_in xs ys nx ny agree same sizes counts y j in
        let x = there.0 in
        sym (joined x y there.1 j there.2 ys) ∙ (sym (counts x there.1) ∙ (far x there.1 ∙ joined x y there.1 j there.2 zs))))

    backward : same_bag ys zs ≡ true → same_bag xs zs ≡ true
    backward f =
        let far = as_often_counts ys ys zs (second_so (size ys == size zs) (as_often ys ys zs) f) in
        and_from (size xs == size zs) (as_often xs xs zs)
        (eq-eqb (size xs) (size zs) (sizes ∙ (Decides-eqb (size ys) (size zs)).0 (first_so (size ys == size zs) (as_often ys ys zs) f)))
        (counts_as_often xs xs zs (λ x i.
        let there = count_some (alike x) ys (subst (λ (n : ℕ). 1 ≤ n) (counts x i) (count_one (alike x) xs x i (same x i))) in
        let y = there.0 in
        counts x i ∙ (joined x y i there.1 there.2 ys ∙ (far y there.1 ∙ sym (joined x y i there.1 there.2 zs)))))
