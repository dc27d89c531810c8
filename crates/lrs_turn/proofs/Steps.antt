-- The steps of the turn keep its rule.
use Rattle.std.proofs.Common.{◌≡◌, ◌⊎◌, ◌≢◌, ℕ, zero, suc, ◌+◌, ◌-◌, ◌%◌, ◌^◌, ◌<◌, ◌≤◌, ◌==◌, Bool, List, [], ◌∷◌, ◌++◌, map, length, Option, Some, None, refl, sym, ap, ◌∙◌, subst, inl, inr, true, false, arith, set, eq-eqb, ne_eqb, length-append}
use Rattle.std.specs.Prelude.{slice_index}
use Rattle.std.proofs.lemmas.Bool.{cases_eq}
use mathlib.Core.Option as core
use mathlib.Core.Option.{some-injective, some-ne-none}
use prog.Atomic.{either}
use lib.ListN.{get_elem?}
use Rattle.atomic_table.specs.Table.{State, Me, takes, gives, keeps, Allows, Splits, Joins, stepped, opening}
use Rattle.atomic_table.proofs.Lists.{at_set, set_again, set_else, at_snoc, at_longer}
use Rattle.lrs_turn.specs.declared.view.View.{View}
use Rattle.lrs_turn.specs.declared.view.Sight.{Sight}
use Rattle.lrs_turn.specs.Lists.{Each, NoneFalls, total, times}
use Rattle.lrs_turn.specs.Rule.{Meaning, Whole, Fits, AreAt, parts_of, own_times, Books, seeing, pointed_view, committed_view, rising, given_view, spent, less, another, both, starter, turn_of, Shows, StandsAt, Turn, KeptBy, Kept, Takes, Gives, Rests, Fetches, Points, Commits}

-- lists
module _ {A : Type 0} where
  pub total_set : (f : A → ℕ) (l : List A) (i : ℕ) (v w : A) → get_elem? l i ≡ core.some v → total f (set l i w) + f v ≡ total f l + f w
  total_set f [] i v w e = absurd (some-ne-none v (sym e))
  total_set f (x ∷ xs) zero v w e = let same : f x ≡ f v = ap f (some-injective x v e) in omega (arith, same)
  total_set f (x ∷ xs) (suc i) v w e = let r = total_set f xs i v w e in omega (arith, r)

  pub total_snoc : (f : A → ℕ) (l : List A) (x : A) → total f (l ++ x ∷ []) ≡ total f l + f x
  total_snoc f [] x = omega arith
  total_snoc f (y ∷ ys) x = let r = total_snoc f ys x in omega (arith, r)

  total_zero : (f g : A → ℕ) (l : List A) → ((k : ℕ) (u : A) → get_elem? l k ≡ core.some u → f u ≡ 0 → g u ≡ 0) → total f l ≡ 0 → total g l ≡ 0
  total_zero f g [] h z = refl
  total_zero f g (x ∷ xs) h z =
      let here : g x ≡ 0 = h 0 x refl (omega (arith, z)) in
      let there : total g xs ≡ 0 = total_zero f g xs (λ k u e. h (suc k) u e) (omega (arith, z)) in
      omega (arith, here, there)

  pub total_least : (f : A → ℕ) (l : List A) (i : ℕ) (v : A) → get_elem? l i ≡ core.some v → f v ≤ total f l
  total_least f [] i v e = absurd (some-ne-none v (sym e))
  total_least f (x ∷ xs) zero v e = let same : f x ≡ f v = ap f (some-injective x v e) in omega (arith, same)
  total_least f (x ∷ xs) (suc i) v e = let r = total_least f xs i v e in omega (arith, r)

  -- one has all of f, and what has nothing of f has nothing of g
  pub total_alone : (f g : A → ℕ) (l : List A) (i : ℕ) (v : A) → ((k : ℕ) (u : A) → get_elem? l k ≡ core.some u → f u ≡ 0 → g u ≡ 0)
      → get_elem? l i ≡ core.some v → total f l ≡ f v → total g l ≡ g v
  total_alone f g [] i v h e t = absurd (some-ne-none v (sym e))
  total_alone f g (x ∷ xs) zero v h e t =
      let same = some-injective x v e in
      let fs : f x ≡ f v = ap f same in
      let gs : g x ≡ g v = ap g same in
      let rest : total g xs ≡ 0 = total_zero f g xs (λ k u e'. h (suc k) u e') (omega (arith, fs, t)) in
      omega (arith, gs, rest)
  total_alone f g (x ∷ xs) (suc i) v h e t =
      let low = total_least f xs i v e in
      let here : g x ≡ 0 = h 0 x refl (omega (arith, low, t)) in
      let rest : total g xs ≡ g v = total_alone f g xs i v (λ k u e'. h (suc k) u e') e (omega (arith, low, t)) in
      omega (arith, here, rest)

  -- where one has all, another has nothing
  pub total_others : (f : A → ℕ) (l : List A) (i j : ℕ) (v u : A) → get_elem? l i ≡ core.some v → get_elem? l j ≡ core.some u → j ≢ i → total f l ≡ f v → f u ≡ 0
  total_others f [] i j v u e d n t = absurd (some-ne-none v (sym e))
  total_others f (x ∷ xs) zero zero v u e d n t = absurd (n refl)
  total_others f (x ∷ xs) zero (suc j) v u e d n t =
      let same : f x ≡ f v = ap f (some-injective x v e) in
      let low = total_least f xs j u d in
      omega (arith, same, low, t)
  total_others f (x ∷ xs) (suc i) zero v u e d n t =
      let same : f x ≡ f u = ap f (some-injective x u d) in
      let low = total_least f xs i v e in
      omega (arith, same, low, t)
  total_others f (x ∷ xs) (suc i) (suc j) v u e d n t =
      let low = total_least f xs i v e in
      total_others f xs i j v u e d (λ is. n (ap suc is)) (omega (arith, low, t))

  pub set_it : (l : List A) (i : ℕ) (v w : A) → get_elem? l i ≡ core.some v → get_elem? (set l i w) i ≡ core.some w
  set_it [] i v w e = absurd (some-ne-none v (sym e))
  set_it (x ∷ xs) zero v w e = refl
  set_it (x ∷ xs) (suc i) v w e = set_it xs i v w e

  pub each_map : (P Q : A → Type 0) (f : A → A) → ((x : A) → P x → Q (f x)) → (xs : List A) → Each P xs → Each Q (map f xs)
  each_map P Q f h [] e = tt
  each_map P Q f h (x ∷ xs) e = (h x e.0, each_map P Q f h xs e.1)

  pub each_all : (P Q : A → Type 0) → ((x : A) → P x → Q x) → (xs : List A) → Each P xs → Each Q xs
  each_all P Q h [] e = tt
  each_all P Q h (x ∷ xs) e = (h x e.0, each_all P Q h xs e.1)

  nothing_both : (xs ys : List A) → xs ≡ [] → ys ≡ [] → xs ++ ys ≡ []
  nothing_both xs ys e f = ap (λ (l : List A). l ++ ys) e ∙ f

  some_not_none : (x : A) (xs : List A) → x ∷ xs ≡ [] → ⊥
  some_not_none x xs e = let long : suc (length xs) ≡ 0 = ap (λ (l : List A). length l) e in omega (arith, long)

  pub each_append : (P : A → Type 0) (xs ys : List A) → Each P xs → Each P ys → Each P (xs ++ ys)
  each_append P [] ys e f = f
  each_append P (x ∷ xs) ys e f = (e.0, each_append P xs ys e.1 f)

pub times_append : (n : ℕ) (xs ys : List ℕ) → times n (xs ++ ys) ≡ times n xs + times n ys
times_append n [] ys = omega arith
times_append n (x ∷ xs) ys = let r = times_append n xs ys in omega (arith, r)

pub none_falls_same : (xs : List ℕ) → NoneFalls xs xs
none_falls_same [] = tt
none_falls_same (x ∷ xs) = (omega arith, none_falls_same xs)

pub none_falls_then : (xs ys zs : List ℕ) → NoneFalls xs ys → NoneFalls ys zs → NoneFalls xs zs
none_falls_then [] [] zs a b = b
none_falls_then [] (y ∷ ys) zs a b = absurd a
none_falls_then (x ∷ xs) [] zs a b = absurd a
none_falls_then (x ∷ xs) (y ∷ ys) [] a b = absurd b
none_falls_then (x ∷ xs) (y ∷ ys) (z ∷ zs) a b =
    let low = a.0 in
    let high = b.0 in
    (omega (arith, low, high), none_falls_then xs ys zs a.1 b.1)

pub apart : (b : Bool) → b ≡ true → b ≡ false → ⊥
apart b on off = grind (arith, on, off)

hit : (n x : ℕ) → n ≡ x → either (n == x) 1 0 ≡ 1
hit n x e = subst (λ (b : Bool). either b 1 0 ≡ 1) (sym (eq-eqb n x e)) refl

miss : (n x : ℕ) → n ≢ x → either (n == x) 1 0 ≡ 0
miss n x ne = subst (λ (b : Bool). either b 1 0 ≡ 0) (sym (ne_eqb n x ne)) refl

-- the books
module _ {T : Type 0} where
  append_again : (xs ys zs : List T) → (xs ++ ys) ++ zs ≡ xs ++ (ys ++ zs)
  append_again [] ys zs = refl
  append_again (x ∷ xs) ys zs = ap (λ (l : List T). x ∷ l) (append_again xs ys zs)

  nothing_behind : (xs : List T) → xs ≡ xs ++ []
  nothing_behind [] = refl
  nothing_behind (x ∷ xs) = ap (λ (l : List T). x ∷ l) (nothing_behind xs)

  has_part : (v w u : View T) → w.parts ≡ v.parts → 0 < v.parts → w ≡ u → u.parts ≡ 0 → ⊥
  has_part v w u parts some is z = let p : w.parts ≡ u.parts = ap (λ (x : View T). x.parts) is in omega (arith, p, z, parts, some)

  pub books_same : (passes opening count : ℕ) (views : List (View T)) (id : ℕ) (v w : View T) → Books passes opening count views → AreAt views id v
      → w.parts ≡ v.parts → 0 < v.parts → w.own ≡ v.own → Books passes opening count (set views id w)
  books_same passes opening count views id v w b mine parts some own =
      let own_same : (n : ℕ) → total (own_times n) (set views id w) ≡ total (own_times n) views =
      λ n. (let t = total_set (own_times n) views id v w mine in let o : own_times n w ≡ own_times n v = ap (times n) own in omega (arith, t, o)) in
      record {
        parts = let t = total_set parts_of views id v w mine in omega (arith, t, parts, b.parts);
        spent = λ k u e z. elim (at_set views id k w u e) [
          | inl t ↦ absurd (has_part v w u parts some t.1 z)
          | inr t ↦ b.spent k u t.1 z
        ];
        blind = λ k u e z. elim (at_set views id k w u e) [
          | inl t ↦ absurd (has_part v w u parts some t.1 z)
          | inr t ↦ b.blind k u t.1 z
        ];
        once = λ n from to. own_same n ∙ b.once n from to;
        none = λ n out. own_same n ∙ b.none n out;
        grown = b.grown;
      }

  pub books_commit : (passes opening count : ℕ) (views : List (View T)) (id : ℕ) (v w : View T) → Books passes opening count views → AreAt views id v
      → w.parts ≡ v.parts → 0 < v.parts → w.own ≡ v.own ++ count ∷ [] → Books passes opening (count + 1) (set views id w)
  books_commit passes opening count views id v w b mine parts some own =
      let own_now : (n : ℕ) → total (own_times n) (set views id w) ≡ total (own_times n) views + either (n == count) 1 0 =
      λ n. (let t = total_set (own_times n) views id v w mine in
      let p = times_append n v.own (count ∷ []) in
      let o : own_times n w ≡ times n (v.own ++ count ∷ []) = ap (times n) own in omega (arith, t, o, p)) in
      record {
        parts = let t = total_set parts_of views id v w mine in omega (arith, t, parts, b.parts);
        spent = λ k u e z. elim (at_set views id k w u e) [
          | inl t ↦ absurd (has_part v w u parts some t.1 z)
          | inr t ↦ b.spent k u t.1 z
        ];
        blind = λ k u e z. elim (at_set views id k w u e) [
          | inl t ↦ absurd (has_part v w u parts some t.1 z)
          | inr t ↦ b.blind k u t.1 z
        ];
        once = λ n from to. elim (cases_eq n count) [
          | inl same ↦ (let o = own_now n in let h = hit n count same in let z = b.none n (inr (omega (arith, same))) in omega (arith, o, h, z))
          | inr other ↦ (let o = own_now n in let h = miss n count other in let z = b.once n from (omega (arith, other, to)) in omega (arith, o, h, z))
        ];
        none = λ n out. (
            let apart : n ≢ count = elim out [
              | inl low ↦ (λ is. omega (arith, is, low, b.grown))
              | inr high ↦ (λ is. omega (arith, is, high))
            ] in
            let before : (n < opening) ⊎ (count ≤ n) = elim out [
              | inl low ↦ inl low
              | inr high ↦ inr (omega (arith, high))
            ] in
            let o = own_now n in let h = miss n count apart in let z = b.none n before in omega (arith, o, h, z)
            );
        grown = let g = b.grown in omega (arith, g);
      }

  pub books_split : (passes opening count : ℕ) (views : List (View T)) (id : ℕ) (v : View T) → Books passes opening count views → AreAt views id v
      → 1 < v.parts → Books passes opening count (set views id (less v) ++ another v ∷ [])
  books_split passes opening count views id v b mine many =
      let own_same : (n : ℕ) → total (own_times n) (set views id (less v) ++ another v ∷ []) ≡ total (own_times n) views =
      λ n. (let t = total_set (own_times n) views id v (less v) mine in let q = total_snoc (own_times n) (set views id (less v)) (another v) in omega (arith, t, q)) in
      record {
        parts = let t = total_set parts_of views id v (less v) mine in let q = total_snoc parts_of (set views id (less v)) (another v) in omega (arith, t, q, many, b.parts);
        spent = λ k u e z. elim (at_snoc (set views id (less v)) (another v) u k e) [
          | inl old ↦ elim (at_set views id k (less v) u old) [
            | inl t ↦ (let p : v.parts - 1 ≡ u.parts = ap (λ (x : View T). x.parts) t.1 in absurd (omega (arith, p, z, many)))
            | inr t ↦ b.spent k u t.1 z
          ]
          | inr new ↦ (let p : 1 ≡ u.parts = ap (λ (x : View T). x.parts) new in absurd (omega (arith, p, z)))
        ];
        blind = λ k u e z. elim (at_snoc (set views id (less v)) (another v) u k e) [
          | inl old ↦ elim (at_set views id k (less v) u old) [
            | inl t ↦ (let p : v.parts - 1 ≡ u.parts = ap (λ (x : View T). x.parts) t.1 in absurd (omega (arith, p, z, many)))
            | inr t ↦ b.blind k u t.1 z
          ]
          | inr new ↦ (let p : 1 ≡ u.parts = ap (λ (x : View T). x.parts) new in absurd (omega (arith, p, z)))
        ];
        once = λ n from to. own_same n ∙ b.once n from to;
        none = λ n out. own_same n ∙ b.none n out;
        grown = b.grown;
      }

  pub books_join : (passes opening count : ℕ) (views : List (View T)) (id other : ℕ) (v w : View T) → Books passes opening count views → AreAt views id v
      → AreAt views other w → AreAt (set views id (both v w)) other w → Books passes opening count (set (set views id (both v w)) other spent)
  books_join passes opening count views id other v w b mine theirs theirs' =
      let own_same : (n : ℕ) → total (own_times n) (set (set views id (both v w)) other spent) ≡ total (own_times n) views =
      λ n. (let t = total_set (own_times n) views id v (both v w) mine in
      let q = total_set (own_times n) (set views id (both v w)) other w spent theirs' in
      let p = times_append n v.own w.own in omega (arith, t, q, p)) in
      record {
        parts = let t = total_set parts_of views id v (both v w) mine in let q = total_set parts_of (set views id (both v w)) other w spent theirs' in omega (arith, t, q, b.parts);
        spent = λ k u e z. elim (at_set (set views id (both v w)) other k spent u e) [
          | inl t ↦ sym (ap (λ (x : View T). x.own) t.1)
          | inr r ↦ elim (at_set views id k (both v w) u r.1) [
            | inl t ↦ (let p : v.parts + w.parts ≡ u.parts = ap (λ (x : View T). x.parts) t.1 in
                sym (ap (λ (x : View T). x.own) t.1) ∙ nothing_both v.own w.own (b.spent id v mine (omega (arith, p, z))) (b.spent other w theirs (omega (arith, p, z))))
            | inr t ↦ b.spent k u t.1 z
          ]
        ];
        blind = λ k u e z. elim (at_set (set views id (both v w)) other k spent u e) [
          | inl t ↦ sym (ap (λ (x : View T). x.sights) t.1)
          | inr r ↦ elim (at_set views id k (both v w) u r.1) [
            | inl t ↦ (let p : v.parts + w.parts ≡ u.parts = ap (λ (x : View T). x.parts) t.1 in
                sym (ap (λ (x : View T). x.sights) t.1) ∙ nothing_both v.sights w.sights (b.blind id v mine (omega (arith, p, z))) (b.blind other w theirs (omega (arith, p, z))))
            | inr t ↦ b.blind k u t.1 z
          ]
        ];
        once = λ n from to. own_same n ∙ b.once n from to;
        none = λ n out. own_same n ∙ b.none n out;
        grown = b.grown;
      }

  -- beside the view of the only pass there is none that has seen anything
  books_alone : (passes opening count : ℕ) (views : List (View T)) (id : ℕ) (v : View T) → Books passes opening count views → AreAt views id v
      → 0 < v.parts → passes ≡ 1 → (k : ℕ) (u : View T) → AreAt views k u → k ≢ id → u.sights ≡ []
  books_alone passes opening count views id v b mine some one k u e other =
      let low = total_least parts_of views id v mine in
      let all : total parts_of views ≡ parts_of v = omega (arith, low, b.parts, one, some) in
      b.blind k u e (total_others parts_of views id k v u mine e other all)

  -- a view with all parts has the own of all
  pub books_close : (passes opening count : ℕ) (views : List (View T)) (id : ℕ) (v : View T) → Books passes opening count views → AreAt views id v
      → v.parts ≡ passes → (n : ℕ) → total (own_times n) views ≡ times n v.own
  books_close passes opening count views id v b mine all n =
      total_alone parts_of (own_times n) views id v (λ k u e z. ap (times n) (b.spent k u e z)) mine (b.parts ∙ sym all)

  -- sights
  sights_else : (a : Whole T) (views : List (View T)) (id : ℕ) (w : View T) → ((k : ℕ) (u : View T) → AreAt views k u → k ≢ id → Each (Fits a) u.sights)
      → Each (Fits a) w.sights → (k : ℕ) (u : View T) → AreAt (set views id w) k u → Each (Fits a) u.sights
  sights_else a views id w others new k u e = elim (at_set views id k w u e) [
    | inl t ↦ subst (λ (x : View T). Each (Fits a) x.sights) t.1 new
    | inr t ↦ others k u t.1 t.0
  ]

  sights_set : (a : Whole T) (views : List (View T)) (id : ℕ) (w : View T) → ((k : ℕ) (u : View T) → AreAt views k u → Each (Fits a) u.sights)
      → Each (Fits a) w.sights → (k : ℕ) (u : View T) → AreAt (set views id w) k u → Each (Fits a) u.sights
  sights_set a views id w all new = sights_else a views id w (λ k u e _. all k u e) new

  fits_later : (a : Whole T) (list more : List T) → list ≡ a.log ++ more → (x : Sight T) → Fits a x → Fits (record a { log = list }) x
  fits_later a list more longer x f = record {
    front = (f.front.0 ++ more, sym (append_again x.front f.front.0 more) ∙ (ap (λ (l : List T). l ++ more) f.front.1 ∙ sym longer));
    marks = f.marks;
    tide = f.tide;
    opening = f.opening;
    passes = f.passes;
    alone = f.alone;
  }

  -- where others have seen nothing with one pass, they fit a whole whose tide has risen
  fits_higher : (a : Whole T) (tide : List ℕ) (xs : List (Sight T)) → NoneFalls a.tide tide → (a.passes ≡ 1 → xs ≡ []) → Each (Fits a) xs
      → Each (Fits (record a { tide = tide })) xs
  fits_higher a tide [] up blind e = tt
  fits_higher a tide (x ∷ xs) up blind e =
      let f = e.0 in (
        record {
          front = f.front;
          marks = f.marks;
          tide = none_falls_then x.tide a.tide tide f.tide up;
          opening = f.opening;
          passes = f.passes;
          alone = λ one. absurd (some_not_none x xs (blind one));
        },
        fits_higher a tide xs up (λ one. absurd (some_not_none x xs (blind one))) e.1,
      )

  fits_risen : (a : Whole T) (next tide : List ℕ) (x : Sight T) → NoneFalls tide next → (a.passes ≡ 1 → tide ≡ next) → Fits a x → Fits (record a { tide = next }) (rising tide x)
  fits_risen a next tide x low same f =
      record { front = f.front; marks = f.marks; tide = low; opening = f.opening; passes = f.passes; alone = same }

  first : (v : View T) (k : ℕ) (u : View T) → AreAt (v ∷ []) k u → v ≡ u
  first v zero u e = some-injective v u e
  first v (suc k) u e = absurd (some-ne-none u (sym e))

-- the steps
module _ {S T : Type 0} (m : Meaning S T) (passes : ℕ) where
  -- a view written again, and the turn as it was
  again : (s : State (Option S) (View T)) (a : Whole T) (h : Option ℕ) (n id : ℕ) (v : View T)
      → KeptBy m passes a h s → AreAt s.views id v → n ≡ turn_of h
      → KeptBy m passes a h (stepped s 1 n id [] v keeps)
  again s a h n id v kept mine one =
      subst (λ (vs : List (View T)). KeptBy m passes a h record { words = set s.words 1 n; homes = s.homes; views = vs }) (sym (set_again s.views id v mine))
      record {
        words = ap (λ (ws : List ℕ). set ws 1 n) kept.words ∙ ap (λ (x : ℕ). length a.log ∷ x ∷ []) one;
        count = kept.count;
        sights = kept.sights;
        turn = kept.turn;
        books = kept.books;
      }

  taken_by : (s : State (Option S) (View T)) (a : Whole T) (id : ℕ) (v : View T) (st : S)
      → KeptBy m passes a None s → s.homes ≡ core.some (Some st) ∷ [] → Shows m a st → AreAt s.views id v → 0 < v.parts
      → KeptBy m passes a (Some id) (stepped s 1 1 id [] (record v { holds = true; out = true; line = m.line st; level = m.tide st }) (takes 0 (Some st)))
  taken_by s a id v st kept at_home shows mine some =
      let w : View T = record v { holds = true; out = true; line = m.line st; level = m.tide st } in
      let out : set s.homes 0 core.none ≡ core.none ∷ [] = ap (λ (hs : List (core.Option (Option S))). set hs 0 core.none) at_home in
      record {
        words = ap (λ (ws : List ℕ). set ws 1 1) kept.words;
        count = kept.count;
        sights = sights_set a s.views id w kept.sights (kept.sights id v mine);
        turn = (
          λ k u e ne. elim (at_set s.views id k w u e) [
            | inl t ↦ absurd (ne t.0)
            | inr t ↦ kept.turn.0 k u t.1
          ],
          (w, set_it s.views id v w mine, some, shows.0, shows.2, inl (refl, out), refl),
        );
        books = books_same passes a.opening (length a.log) s.views id v w kept.books mine refl some refl;
      }

  pub take_allowed : (id : ℕ) (v : View T) → 0 < v.parts → Allows (Kept m passes) 1 id (v, []) 1 (λ n. either (n == 0) 1 n) (Takes m (v, []))
  take_allowed id v some s (a, None, kept) one mine small =
      let st = kept.turn.1.0 in
      let at_home = kept.turn.1.1 in
      let shows = kept.turn.1.2 in
      let zero_ : slice_index s.words 1 ≡ 0 = ap (λ (ws : List ℕ). slice_index ws 1) kept.words in
      let becomes : either (slice_index s.words 1 == 0) 1 (slice_index s.words 1) ≡ 1 = ap (λ (n : ℕ). either (n == 0) 1 n) zero_ in
      let w : View T = record v { holds = true; out = true; line = m.line st; level = m.tide st } in
      let valid : get_elem? s.homes 0 ≡ core.some (core.some (Some st)) = ap (λ (hs : List (core.Option (Option S))). get_elem? hs 0) at_home in (
        w,
        takes 0 (Some st),
        valid,
        (a, Some id, subst (λ (n : ℕ). KeptBy m passes a (Some id) (stepped s 1 n id [] w (takes 0 (Some st)))) (sym becomes) (taken_by s a id v st kept at_home shows mine some)),
        (λ is. absurd (omega (arith, is, zero_)), λ _. (a, st, shows, kept.sights id v mine, refl)),
      )
  take_allowed id v some s (a, Some j, kept) one mine small =
      let one_ : slice_index s.words 1 ≡ 1 = ap (λ (ws : List ℕ). slice_index ws 1) kept.words in
      let becomes : either (slice_index s.words 1 == 0) 1 (slice_index s.words 1) ≡ 1 = ap (λ (n : ℕ). either (n == 0) 1 n) one_ in
      (v, keeps, tt, (a, Some j, again s a (Some j) _ id v kept mine becomes), (λ _. refl, λ ne. absurd (ne one_)))

  -- what a worker with the turn knows
  abbrev Holds : Whole T → State (Option S) (View T) → ℕ → View T → Type 0
  Holds a s id v = KeptBy m passes a (Some id) s × (0 < v.parts) × (v.line ≡ a.log) × (v.level ≡ a.tide) × StandsAt m s.homes v.out × (v.holds ≡ true)

  knows : (s : State (Option S) (View T)) (a : Whole T) (h : Option ℕ) (id : ℕ) (v : View T) → KeptBy m passes a h s → AreAt s.views id v → v.holds ≡ true → Holds a s id v
  knows s a None id v kept mine on = absurd (apart v.holds on (kept.turn.0 id v mine))
  knows s a (Some j) id v kept mine on = elim (cases_eq id j) [
    | inl same ↦
        (let u = kept.turn.1.0 in
        let theirs : get_elem? s.views id ≡ core.some u = ap (get_elem? s.views) same ∙ kept.turn.1.1 in
        let is : u ≡ v = some-injective u v (sym theirs ∙ mine) in (
          subst (λ (i : ℕ). KeptBy m passes a (Some i) s) (sym same) kept,
          subst (λ (x : View T). 0 < x.parts) is kept.turn.1.2,
          subst (λ (x : View T). x.line ≡ a.log) is kept.turn.1.3,
          subst (λ (x : View T). x.level ≡ a.tide) is kept.turn.1.4,
          subst (λ (x : View T). StandsAt m s.homes x.out) is kept.turn.1.5,
          on,
        ))
    | inr other ↦ absurd (apart v.holds on (kept.turn.0 id v mine other))
  ]

  moved : (s : State (Option S) (View T)) (a : Whole T) (id i n : ℕ) (v w : View T) (homes : List (core.Option (Option S)))
      → Holds a s id v → AreAt s.views id v → w.parts ≡ v.parts → w.own ≡ v.own → w.line ≡ v.line → w.level ≡ v.level
      → w.holds ≡ v.holds → Each (Fits a) w.sights → StandsAt m homes w.out → set s.words i n ≡ s.words
      → KeptBy m passes a (Some id) record { words = set s.words i n; homes = homes; views = set s.views id w }
  moved s a id i n v w homes has mine parts own line level holds fits stands words =
      let kept = has.0 in
      record {
        words = words ∙ kept.words;
        count = kept.count;
        sights = sights_set a s.views id w kept.sights fits;
        turn = (
          λ k u e ne. elim (at_set s.views id k w u e) [
            | inl t ↦ absurd (ne t.0)
            | inr t ↦ kept.turn.0 k u t.1 ne
          ],
          (w, set_it s.views id v w mine, subst (λ (x : ℕ). 0 < x) (sym parts) has.1, line ∙ has.2, level ∙ has.3, stands, holds ∙ has.5),
        );
        books = books_same passes a.opening (length a.log) s.views id v w kept.books mine parts has.1 own;
      }

  unchanged : (s : State (Option S) (View T)) (a : Whole T) (h : Option ℕ) → s.words ≡ length a.log ∷ turn_of h ∷ [] → set s.words 0 (slice_index s.words 0) ≡ s.words
  unchanged s a h e = ap (λ (ws : List ℕ). set ws 0 (slice_index ws 0)) e ∙ sym e

  pub rest_allowed : (id : ℕ) (v : View T) → v.holds ≡ true → v.out ≡ true → Allows (Kept m passes) 1 id (v, (0, None) ∷ []) 0 (λ n. n) (λ n. Rests {S = S} (v, (0, None) ∷ []))
  rest_allowed id v on out s (a, h, kept) one mine small =
      let has = knows s a h id v kept mine on in
      elim has.4 [
        | inl p ↦
            (let back : set s.homes 0 (core.some None) ≡ core.some None ∷ [] = ap (λ (hs : List (core.Option (Option S))). set hs 0 (core.some None)) p.1 in (
              record v { out = false },
              gives,
              tt,
              (a, Some id, moved s a id 0 _ v (record v { out = false }) _ has mine refl refl refl refl refl (kept.sights id v mine) (inr (refl, back)) (unchanged s a h kept.words)),
              refl,
            ))
        | inr p ↦ absurd (apart v.out out p.0)
      ]

  pub fetch_allowed : (id : ℕ) (v : View T) → v.holds ≡ true → v.out ≡ false → Allows (Kept m passes) 1 id (v, []) 0 (λ n. n) (λ n. Fetches {S = S} (v, []))
  fetch_allowed id v on out s (a, h, kept) one mine small =
      let has = knows s a h id v kept mine on in
      elim has.4 [
        | inl p ↦ absurd (apart v.out p.0 out)
        | inr p ↦
            (let valid : get_elem? s.homes 0 ≡ core.some (core.some None) = ap (λ (hs : List (core.Option (Option S))). get_elem? hs 0) p.1 in
            let gone : set s.homes 0 core.none ≡ core.none ∷ [] = ap (λ (hs : List (core.Option (Option S))). set hs 0 core.none) p.1 in (
              record v { out = true },
              takes 0 None,
              valid,
              (a, Some id, moved s a id 0 _ v (record v { out = true }) _ has mine refl refl refl refl refl (kept.sights id v mine) (inl (refl, gone)) (unchanged s a h kept.words)),
              refl,
            ))
      ]

  all_of : (a : Whole T) (list : List T) → list ≡ a.log → (x : Sight T) → Fits a x → Fits a (seeing list x)
  all_of a list is x f = record {
    front = ([], sym (nothing_behind list) ∙ is);
    marks = f.marks;
    tide = f.tide;
    opening = f.opening;
    passes = f.passes;
    alone = f.alone;
  }

  pub point_allowed : (id : ℕ) (v : View T) → v.holds ≡ true → v.out ≡ false → Allows (Kept m passes) 1 id (v, []) 0 (λ n. n) (λ n. Points {S = S} (v, []))
  point_allowed id v on out s (a, h, kept) one mine small =
      let has = knows s a h id v kept mine on in
      let fits = each_map (Fits a) (Fits a) (seeing v.line) (all_of a v.line has.2) v.sights (kept.sights id v mine) in
      (pointed_view v, keeps, tt, (a, Some id, moved s a id 0 _ v (pointed_view v) s.homes has mine refl refl refl refl refl fits has.4 (unchanged s a h kept.words)), refl)

  -- one record more
  pub commit_allowed : (id : ℕ) (v : View T) (list : List T) (r : T) → v.holds ≡ true → list ≡ v.line ++ r ∷ [] → length list < 2 ^ 64
      → Allows (Kept m passes) 1 id (v, []) 0 (λ n. (n + 1) % 2 ^ 64) (λ n. Commits {S = S} list (v, []))
  commit_allowed id v list r on is fits64 s (a, h, kept) one mine small =
      let has = knows s a h id v kept mine on in
      let line = has.2 in
      let w = committed_view list v in
      let b : Whole T = record a { log = list } in
      let longer : list ≡ a.log ++ r ∷ [] = is ∙ ap (λ (l : List T). l ++ r ∷ []) line in
      let long : length list ≡ length a.log + 1 = ap (λ (l : List T). length l) longer ∙ length-append a.log (r ∷ []) in
      let found : slice_index s.words 0 ≡ length a.log = ap (λ (ws : List ℕ). slice_index ws 0) kept.words in
      let becomes : (slice_index s.words 0 + 1) % 2 ^ 64 ≡ length list = omega (arith, found, long, fits64) in
      let later = fits_later a list (r ∷ []) longer in
      let old : (k : ℕ) (u : View T) → AreAt s.views k u → Each (Fits b) u.sights = λ k u e. each_all (Fits a) (Fits b) later u.sights (kept.sights k u e) in
      let all = each_map (Fits b) (Fits b) (seeing list) (all_of b list refl) v.sights (old id v mine) in
      let count : length v.line ≡ length a.log = ap (λ (l : List T). length l) line in
      let books = books_commit passes a.opening (length a.log) s.views id v w kept.books mine refl has.1 (ap (λ (n : ℕ). v.own ++ n ∷ []) count) in (
        w,
        keeps,
        tt,
        (
          b,
          Some id,
          record {
            words = ap (λ (ws : List ℕ). set ws 0 ((slice_index s.words 0 + 1) % 2 ^ 64)) has.0.words ∙ ap (λ (n : ℕ). n ∷ 1 ∷ []) becomes;
            count = has.0.count;
            sights = sights_set b s.views id w old all;
            turn = (
              λ k u e ne. elim (at_set s.views id k w u e) [
                | inl t ↦ absurd (ne t.0)
                | inr t ↦ has.0.turn.0 k u t.1 ne
              ],
              (w, set_it s.views id v w mine, has.1, refl, has.3, has.4, has.5),
            );
            books = subst (λ (n : ℕ). Books passes a.opening n (set s.views id w)) (sym long) books;
          },
        ),
        refl,
      )

  -- The state goes home, and the whole's tide is then the state's. The pass knows it, or, where it is as it was taken,
  -- what it knew before.
  pub give_allowed : (id : ℕ) (v : View T) (x : Sight T) (st : S) (tide : List ℕ) → v.holds ≡ true → v.out ≡ true → m.line st ≡ v.line → v.sights ≡ x ∷ [] → m.marks st ≡ x.marks
      → NoneFalls v.level (m.tide st) → (tide ≡ m.tide st) ⊎ ((tide ≡ x.tide) × (m.tide st ≡ v.level))
      → Allows (Kept m passes) 1 id (v, (0, Some st) ∷ []) 1 (λ n. 0) (λ n. Gives {S = S} tide (v, (0, Some st) ∷ []))
  give_allowed id v x st tide on is_out shows only marks up knows_it s (a, h, kept) one mine small =
      let has = knows s a h id v kept mine on in
      let w : View T = given_view tide v in
      let b : Whole T = record a { tide = m.tide st } in
      let up' : NoneFalls a.tide (m.tide st) = subst (λ (l : List ℕ). NoneFalls l (m.tide st)) has.3 up in
      let f : Fits a x = (subst (Each (Fits a)) only (kept.sights id v mine)).0 in
      let others : (k : ℕ) (u : View T) → AreAt s.views k u → k ≢ id → Each (Fits b) u.sights =
      λ k u e other. fits_higher a (m.tide st) u.sights up'
      (λ alone. books_alone passes a.opening (length a.log) s.views id v kept.books mine has.1 (sym kept.count ∙ alone) k u e other) (kept.sights k u e) in
      let known : Fits b (rising tide x) = elim knows_it [
        | inl last ↦ fits_risen a (m.tide st) tide x (subst (λ (l : List ℕ). NoneFalls l (m.tide st)) (sym last) (none_falls_same (m.tide st))) (λ _. last) f
        | inr same ↦ fits_risen a (m.tide st) tide x
            (subst (λ (l : List ℕ). NoneFalls l (m.tide st)) (sym same.0) (none_falls_then x.tide a.tide (m.tide st) f.tide up'))
            (λ alone. same.0 ∙ (f.alone alone ∙ sym (same.1 ∙ has.3))) f
      ] in
      let all : Each (Fits b) w.sights = subst (λ (l : List (Sight T)). Each (Fits b) (map (rising tide) l)) (sym only) (known, tt) in
      elim has.4 [
        | inl p ↦
            (let home : set s.homes 0 (core.some (Some st)) ≡ core.some (Some st) ∷ [] = ap (λ (hs : List (core.Option (Option S))). set hs 0 (core.some (Some st))) p.1 in (
              w,
              gives,
              tt,
              (
                b,
                None,
                record {
                  words = ap (λ (ws : List ℕ). set ws 1 0) has.0.words;
                  count = has.0.count;
                  sights = sights_else b s.views id w others all;
                  turn = (
                    λ k u e. elim (at_set s.views id k w u e) [
                      | inl t ↦ sym (ap (λ (y : View T). y.holds) t.1)
                      | inr t ↦ has.0.turn.0 k u t.1 t.0
                    ],
                    (st, home, (shows ∙ has.2, marks ∙ f.marks, refl)),
                  );
                  books = books_same passes a.opening (length a.log) s.views id v w has.0.books mine refl has.1 refl;
                },
              ),
              refl,
            ))
        | inr p ↦ absurd (apart v.out is_out p.0)
      ]

  -- who has the turn is not idle
  busy_else : (homes : List (core.Option (Option S))) (views : List (View T)) (id j : ℕ) (v u : View T) → AreAt views id v → v.holds ≡ false → AreAt views j u → u.holds ≡ true → j ≢ id
  busy_else homes views id j v u mine idle theirs busy same =
      let is : u ≡ v = some-injective u v (sym theirs ∙ (ap (get_elem? views) same ∙ mine)) in
      apart u.holds busy (ap (λ (y : View T). y.holds) is ∙ idle)

  -- passes are dealt and come back
  split_turn : (a : Whole T) (homes : List (core.Option (Option S))) (views : List (View T)) (h : Option ℕ) (id : ℕ) (v : View T) → AreAt views id v → v.holds ≡ false
      → Turn m a homes views h → Turn m a homes (set views id (less v) ++ another v ∷ []) h
  split_turn a homes views None id v mine idle turn = (
    λ k u e. elim (at_snoc (set views id (less v)) (another v) u k e) [
      | inl old ↦ elim (at_set views id k (less v) u old) [
        | inl t ↦ (sym (ap (λ (y : View T). y.holds) t.1) ∙ idle)
        | inr t ↦ turn.0 k u t.1
      ]
      | inr new ↦ sym (ap (λ (y : View T). y.holds) new)
    ],
    turn.1,
  )
  split_turn a homes views (Some j) id v mine idle turn = (
    λ k u e ne. elim (at_snoc (set views id (less v)) (another v) u k e) [
      | inl old ↦ elim (at_set views id k (less v) u old) [
        | inl t ↦ (sym (ap (λ (y : View T). y.holds) t.1) ∙ idle)
        | inr t ↦ turn.0 k u t.1 ne
      ]
      | inr new ↦ sym (ap (λ (y : View T). y.holds) new)
    ],
    (
      turn.1.0,
      at_longer (set views id (less v)) (another v ∷ []) j turn.1.0
          (set_else views id j (less v) (busy_else homes views id j v turn.1.0 mine idle turn.1.1 turn.1.6) ∙ turn.1.1),
      turn.1.2,
      turn.1.3,
      turn.1.4,
      turn.1.5,
      turn.1.6,
    ),
  )

  pub splits : (id : ℕ) (v : View T) → v.holds ≡ false → 1 < v.parts → Splits (Kept m passes) id v (less v) (another v)
  splits id v idle many s (a, h, kept) mine = (
    a,
    h,
    record {
      words = kept.words;
      count = kept.count;
      sights = λ k u e. elim (at_snoc (set s.views id (less v)) (another v) u k e) [
        | inl old ↦ sights_set a s.views id (less v) kept.sights (kept.sights id v mine) k u old
        | inr new ↦ subst (λ (y : View T). Each (Fits a) y.sights) new (kept.sights id v mine)
      ];
      turn = split_turn a s.homes s.views h id v mine idle kept.turn;
      books = books_split passes a.opening (length a.log) s.views id v kept.books mine many;
    },
  )

  join_turn : (a : Whole T) (homes : List (core.Option (Option S))) (views : List (View T)) (h : Option ℕ) (id other : ℕ) (v w : View T) → AreAt views id v → AreAt views other w
      → v.holds ≡ false → w.holds ≡ false → Turn m a homes views h → Turn m a homes (set (set views id (both v w)) other spent) h
  join_turn a homes views None id other v w mine theirs idle idle' turn = (
    λ k u e. elim (at_set (set views id (both v w)) other k spent u e) [
      | inl t ↦ sym (ap (λ (y : View T). y.holds) t.1)
      | inr r ↦ elim (at_set views id k (both v w) u r.1) [
        | inl t ↦ (sym (ap (λ (y : View T). y.holds) t.1) ∙ idle)
        | inr t ↦ turn.0 k u t.1
      ]
    ],
    turn.1,
  )
  join_turn a homes views (Some j) id other v w mine theirs idle idle' turn = (
    λ k u e ne. elim (at_set (set views id (both v w)) other k spent u e) [
      | inl t ↦ sym (ap (λ (y : View T). y.holds) t.1)
      | inr r ↦ elim (at_set views id k (both v w) u r.1) [
        | inl t ↦ (sym (ap (λ (y : View T). y.holds) t.1) ∙ idle)
        | inr t ↦ turn.0 k u t.1 ne
      ]
    ],
    (
      turn.1.0,
      set_else (set views id (both v w)) other j spent (busy_else homes views other j w turn.1.0 theirs idle' turn.1.1 turn.1.6)
          ∙ (set_else views id j (both v w) (busy_else homes views id j v turn.1.0 mine idle turn.1.1 turn.1.6) ∙ turn.1.1),
      turn.1.2,
      turn.1.3,
      turn.1.4,
      turn.1.5,
      turn.1.6,
    ),
  )

  pub joins : (id other : ℕ) (v w : View T) → v.holds ≡ false → w.holds ≡ false → Joins (Kept m passes) id v other w (both v w) spent
  joins id other v w idle idle' s (a, h, kept) mine apart theirs' =
      let theirs : get_elem? s.views other ≡ core.some w = sym (set_else s.views id other (both v w) apart) ∙ theirs' in
      let fits = each_append (Fits a) v.sights w.sights (kept.sights id v mine) (kept.sights other w theirs) in (
        a,
        h,
        record {
          words = kept.words;
          count = kept.count;
          sights = sights_set a (set s.views id (both v w)) other spent (sights_set a s.views id (both v w) kept.sights fits) tt;
          turn = join_turn a s.homes s.views h id other v w mine theirs idle idle' kept.turn;
          books = books_join passes a.opening (length a.log) s.views id other v w kept.books mine theirs theirs';
        },
      )

  pub starts : (st : S) → 0 < passes → Kept m passes (opening (length (m.line st) ∷ 0 ∷ []) (Some st ∷ []) (starter (m.line st) (m.marks st) (m.tide st) passes))
  starts st some =
      let a : Whole T = record { log = m.line st; marks = m.marks st; tide = m.tide st; opening = length (m.line st); passes = passes } in
      let f : Fits a (record { front = m.line st; marks = m.marks st; tide = m.tide st; opening = length (m.line st); passes = passes }) =
      record { front = ([], sym (nothing_behind (m.line st))); marks = refl; tide = none_falls_same (m.tide st); opening = refl; passes = refl; alone = λ _. refl } in
      let v = starter (m.line st) (m.marks st) (m.tide st) passes in
      let only : (k : ℕ) (u : View T) → AreAt (v ∷ []) k u → v ≡ u = first v in (
        a,
        None,
        record {
          words = refl;
          count = refl;
          sights = λ k u e. subst (λ (y : View T). Each (Fits a) y.sights) (only k u e) (f, tt);
          turn = (λ k u e. sym (ap (λ (y : View T). y.holds) (only k u e)), (st, refl, (refl, refl, refl)));
          books = record {
            parts = omega arith;
            spent = λ k u e z. sym (ap (λ (y : View T). y.own) (only k u e));
            blind = λ k u e z. absurd (has_part v v u refl some (only k u e) z);
            once = λ n from to. absurd (omega (arith, from, to));
            none = λ n out. refl;
            grown = omega arith;
          };
        },
      )

  pub starts_at : (st v : S) (n : ℕ) (items : List (Option S)) → 0 < passes → n ≡ length (m.line st) → items ≡ Some st ∷ [] → v ≡ st
      → Kept m passes (opening (n ∷ 0 ∷ []) items (starter (m.line v) (m.marks v) (m.tide v) passes))
  starts_at st v n items some count only is =
      subst (λ (x : S). Kept m passes (opening (n ∷ 0 ∷ []) items (starter (m.line x) (m.marks x) (m.tide x) passes))) (sym is)
      (subst (λ (l : List (Option S)). Kept m passes (opening (n ∷ 0 ∷ []) l (starter (m.line st) (m.marks st) (m.tide st) passes))) (sym only)
      (subst (λ (k : ℕ). Kept m passes (opening (k ∷ 0 ∷ []) (Some st ∷ []) (starter (m.line st) (m.marks st) (m.tide st) passes))) (sym count) (starts st some)))

  -- with all parts back and no turn held the state is at home
  abbrev pub Ends : List (core.Option (Option S)) → View T → Type 0
  Ends homes v = (a : Whole T) × (st : S) × (homes ≡ core.some (Some st) ∷ []) × Shows m a st × Each (Fits a) v.sights
      × ((n : ℕ) → a.opening ≤ n → n < length a.log → times n v.own ≡ 1) × ((n : ℕ) → (n < a.opening) ⊎ (length a.log ≤ n) → times n v.own ≡ 0)
      × (a.passes ≡ passes)

  pub closes : (s : State (Option S) (View T)) (id : ℕ) (v : View T) → Kept m passes s → AreAt s.views id v → v.holds ≡ false → v.parts ≡ passes → Ends s.homes v
  closes s id v (a, None, kept) mine idle all =
      (let own = books_close passes a.opening (length a.log) s.views id v kept.books mine all in (
        a,
        kept.turn.1.0,
        kept.turn.1.1,
        kept.turn.1.2,
        kept.sights id v mine,
        λ n from to. (sym (own n) ∙ kept.books.once n from to),
        λ n out. (sym (own n) ∙ kept.books.none n out),
        kept.count,
      ))
  closes s id v (a, Some j, kept) mine idle all =
      let other = busy_else s.homes s.views id j v kept.turn.1.0 mine idle kept.turn.1.1 kept.turn.1.6 in
      let z = total_others parts_of s.views id j v kept.turn.1.0 mine kept.turn.1.1 other (kept.books.parts ∙ sym all) in
      let some : 0 < kept.turn.1.0.parts = kept.turn.1.2 in
      absurd (omega (arith, z, some))

  -- the same, as the calls ask for it
  pub take_asks : (id slots : ℕ) (me : Me (Option S) (View T)) (v : View T) → slots ≡ 1 → me ≡ (v, []) → 0 < v.parts
      → Allows (Kept m passes) slots id me 1 (λ n. either (n == 0) 1 n) (Takes m me)
  take_asks id slots me v one is some =
      subst (λ (k : ℕ). Allows (Kept m passes) k id me 1 (λ n. either (n == 0) 1 n) (Takes m me)) (sym one)
      (subst (λ (x : Me (Option S) (View T)). Allows (Kept m passes) 1 id x 1 (λ n. either (n == 0) 1 n) (Takes m x)) (sym is) (take_allowed id v some))

  pub rest_asks : (id slots : ℕ) (me : Me (Option S) (View T)) (v : View T) → slots ≡ 1 → me ≡ (v, (0, None) ∷ []) → v.holds ≡ true → v.out ≡ true
      → Allows (Kept m passes) slots id me 0 (λ n. n) (λ n. Rests {S = S} me)
  rest_asks id slots me v one is on out =
      subst (λ (k : ℕ). Allows (Kept m passes) k id me 0 (λ n. n) (λ n. Rests {S = S} me)) (sym one)
      (subst (λ (x : Me (Option S) (View T)). Allows (Kept m passes) 1 id x 0 (λ n. n) (λ n. Rests {S = S} x)) (sym is) (rest_allowed id v on out))

  pub fetch_asks : (id slots : ℕ) (me : Me (Option S) (View T)) (v : View T) → slots ≡ 1 → me ≡ (v, []) → v.holds ≡ true → v.out ≡ false
      → Allows (Kept m passes) slots id me 0 (λ n. n) (λ n. Fetches {S = S} me)
  fetch_asks id slots me v one is on out =
      subst (λ (k : ℕ). Allows (Kept m passes) k id me 0 (λ n. n) (λ n. Fetches {S = S} me)) (sym one)
      (subst (λ (x : Me (Option S) (View T)). Allows (Kept m passes) 1 id x 0 (λ n. n) (λ n. Fetches {S = S} x)) (sym is) (fetch_allowed id v on out))

  pub point_asks : (id slots : ℕ) (me : Me (Option S) (View T)) (v : View T) → slots ≡ 1 → me ≡ (v, []) → v.holds ≡ true → v.out ≡ false
      → Allows (Kept m passes) slots id me 0 (λ n. n) (λ n. Points {S = S} me)
  point_asks id slots me v one is on out =
      subst (λ (k : ℕ). Allows (Kept m passes) k id me 0 (λ n. n) (λ n. Points {S = S} me)) (sym one)
      (subst (λ (x : Me (Option S) (View T)). Allows (Kept m passes) 1 id x 0 (λ n. n) (λ n. Points {S = S} x)) (sym is) (point_allowed id v on out))

  pub commit_asks : (id slots : ℕ) (me : Me (Option S) (View T)) (v : View T) (list : List T) (r : T) → slots ≡ 1 → me ≡ (v, []) → v.holds ≡ true
      → list ≡ v.line ++ r ∷ [] → length list < 2 ^ 64
      → Allows (Kept m passes) slots id me 0 (λ n. (n + 1) % 2 ^ 64) (λ n. Commits {S = S} list me)
  commit_asks id slots me v list r one is on longer small =
      subst (λ (k : ℕ). Allows (Kept m passes) k id me 0 (λ n. (n + 1) % 2 ^ 64) (λ n. Commits {S = S} list me)) (sym one)
      (subst (λ (x : Me (Option S) (View T)). Allows (Kept m passes) 1 id x 0 (λ n. (n + 1) % 2 ^ 64) (λ n. Commits {S = S} list x)) (sym is)
      (commit_allowed id v list r on longer small))

  pub give_asks : (id slots : ℕ) (me : Me (Option S) (View T)) (v : View T) (x : Sight T) (st : S) (tide : List ℕ) → slots ≡ 1 → me ≡ (v, (0, Some st) ∷ [])
      → v.holds ≡ true → v.out ≡ true → m.line st ≡ v.line → v.sights ≡ x ∷ [] → m.marks st ≡ x.marks → NoneFalls v.level (m.tide st)
      → (tide ≡ m.tide st) ⊎ ((tide ≡ x.tide) × (m.tide st ≡ v.level))
      → Allows (Kept m passes) slots id me 1 (λ n. 0) (λ n. Gives {S = S} tide me)
  give_asks id slots me v x st tide one is on out shows only marks up known =
      subst (λ (k : ℕ). Allows (Kept m passes) k id me 1 (λ n. 0) (λ n. Gives {S = S} tide me)) (sym one)
      (subst (λ (y : Me (Option S) (View T)). Allows (Kept m passes) 1 id y 1 (λ n. 0) (λ n. Gives {S = S} tide y)) (sym is)
      (give_allowed id v x st tide on out shows only marks up known))
