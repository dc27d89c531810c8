-- Workers at their doors, and what they leave. They stand in the other order than their doors.
use Rattle.std.proofs.Common.{suc, arith, ◌≡◌, ◌+◌, ℕ, List, [], ◌∷◌, ◌++◌, length, refl, subst, sym, ap, ◌∙◌, append_assoc, length-append}
use Rattle.std.specs.Prelude.{map}
use Rattle.lrs_turn.specs.Lists.{total}
use Rattle.lrs_hall.specs.Draws.{start_of}
use Rattle.lrs_hall.specs.Steps.{AreNumbered, backwards}
use Rattle.lrs_hall.specs.Workers.{end_of, end_with}
use Rattle.lrs_hall.specs.declared.serving.ServeEnd.{ServeEnd}
use Rattle.lrs_hall.specs.declared.serving.ServeEnd.TheVariants as serve
use Rattle.lrs_hall.specs.declared.workers.DoorWorker.{DoorWorker}

-- ---- lists in the other order

module _ {A B : Type 0} (f : A → B) where
  pub backwards_more : (xs : List A) (a : A) → backwards f (xs ++ a ∷ []) ≡ f a ∷ backwards f xs
  backwards_more [] a = refl
  backwards_more (b ∷ xs) a = ap (λ (l : List B). l ++ f b ∷ []) (backwards_more xs a)

  pub backwards_length : (xs : List A) → length (backwards f xs) ≡ length xs
  backwards_length [] = refl
  backwards_length (a ∷ xs) =
      let rest = backwards_length xs in
      let len : length (backwards f xs ++ f a ∷ []) ≡ length (backwards f xs) + 1 = length-append (backwards f xs) (f a ∷ []) in
      let e : length (backwards f xs ++ f a ∷ []) ≡ suc (length xs) = omega (arith, rest, len) in
      e

  -- the last of what is left goes to the front of what is done
  pub goes_over : (all before left : List B) (done next : List A) (b : B) (a : A) → before ≡ left ++ b ∷ [] → next ≡ done ++ a ∷ [] → f a ≡ b → before ++ backwards f done ≡ all → left ++ backwards f next ≡ all
  goes_over all before left done next b a popped pushed same so =
      ap (λ (l : List A). left ++ backwards f l) pushed
      ∙ ap (λ (l : List B). left ++ l) (backwards_more done a)
      ∙ ap (λ (x : B). left ++ x ∷ backwards f done) same
      ∙ sym (append_assoc left (b ∷ []) (backwards f done))
      ∙ ap (λ (l : List B). l ++ backwards f done) (sym popped)
      ∙ so

  -- what the last one had goes to the end
  pub comes_over : (done : List A) (a : A) (b : B) (so next : List B) → so ≡ backwards f done → next ≡ so ++ b ∷ [] → f a ≡ b → next ≡ backwards f (a ∷ done)
  comes_over done a b so next is pushed same =
      pushed ∙ ap (λ (l : List B). l ++ b ∷ []) is ∙ ap (λ (x : B). backwards f done ++ x ∷ []) (sym same)

pub map_more : {B C : Type 0} (g : B → C) (bs : List B) (b : B) → map g (bs ++ b ∷ []) ≡ map g bs ++ g b ∷ []
map_more g [] b = refl
map_more {B} {C} g (x ∷ bs) b = ap (λ (l : List C). g x ∷ l) (map_more g bs b)

pub map_backwards : {A B C : Type 0} (f : A → B) (g : B → C) (xs : List A) → map g (backwards f xs) ≡ backwards (λ (a : A). g (f a)) xs
map_backwards f g [] = refl
map_backwards {A} {B} {C} f g (a ∷ xs) = map_more g (backwards f xs) (f a) ∙ ap (λ (l : List C). l ++ g (f a) ∷ []) (map_backwards f g xs)

pub total_more : {B : Type 0} (f : B → ℕ) (bs : List B) (b : B) → total f (bs ++ b ∷ []) ≡ total f bs + f b
total_more f [] b = omega arith
total_more f (x ∷ bs) b = (let rest = total_more f bs b in omega (arith, rest))

module _ {A : Type 0} where
  pub moved_left : (xs ys zs all : List A) (x : A) → all ≡ ys ++ zs → ys ≡ xs ++ x ∷ [] → all ≡ xs ++ x ∷ zs
  moved_left xs ys zs all x is popped = is ∙ ap (λ (l : List A). l ++ zs) popped ∙ append_assoc xs (x ∷ []) zs

  pub all_done : (xs ys all : List A) → all ≡ xs ++ ys → length xs ≡ 0 → all ≡ ys
  all_done [] ys all is none = is
  all_done (x ∷ xs) ys all is none = absurd (omega (arith, none))

  pub left_all : (xs ys all : List A) → xs ++ ys ≡ all → length xs ≡ 0 → ys ≡ all
  left_all [] ys all is none = is
  left_all (x ∷ xs) ys all is none = absurd (omega (arith, none))

  -- the last is one more
  pub length_popped : (xs ys : List A) (x : A) → ys ≡ xs ++ x ∷ [] → length ys ≡ suc (length xs)
  length_popped xs ys x is =
      let len : length ys ≡ length xs + 1 = ap length is ∙ length-append xs (x ∷ []) in
      omega (arith, len)

-- ---- the draws

pub numbered_more : {O : Type 0} (seed : List ℕ) (k n : ℕ) (ws next : List (DoorWorker O)) (w : DoorWorker O) → AreNumbered seed (suc k) ws → w.draws ≡ start_of seed n → n ≡ k + 1 → next ≡ ws ++ w ∷ []
    → AreNumbered seed k next
numbered_more {O} seed k n ws next w numbered draws is pushed = subst (λ (l : List (DoorWorker O)). AreNumbered seed k l) (sym pushed) (goes ws numbered)
  where
    goes : (vs : List (DoorWorker O)) → AreNumbered seed (suc k) vs → AreNumbered seed k (vs ++ w ∷ [])
    goes [] so =
        let e : n ≡ k + 0 + 1 = omega (arith, is) in
        (subst (λ (m : ℕ). w.draws ≡ start_of seed m) e draws, tt)
    goes (v ∷ vs) so =
        let len : length (vs ++ w ∷ []) ≡ length vs + 1 = length-append vs (w ∷ []) in
        let e : suc k + length vs + 1 ≡ k + length (vs ++ w ∷ []) + 1 = omega (arith, len) in
        (subst (λ (m : ℕ). v.draws ≡ start_of seed m) e so.0, goes vs so.1)

-- ---- how they ended

end_both : (a b c : ServeEnd) → end_with (end_with a b) c ≡ end_with a (end_with b c)
end_both serve.Done b c = refl
end_both serve.DoorFault b c = refl
end_both serve.Memory serve.DoorFault c = refl
end_both serve.Memory serve.Done c = refl
end_both serve.Memory serve.Memory serve.DoorFault = refl
end_both serve.Memory serve.Memory serve.Done = refl
end_both serve.Memory serve.Memory serve.Memory = refl

end_alone : (a : ServeEnd) → end_with a serve.Done ≡ a
end_alone serve.Done = refl
end_alone serve.DoorFault = refl
end_alone serve.Memory = refl

-- the end of one worker more
pub end_more : (ends : List ServeEnd) (last : ServeEnd) → end_of (ends ++ last ∷ []) ≡ end_with (end_of ends) last
end_more [] last = end_alone last
end_more (end ∷ ends) last = ap (end_with end) (end_more ends last) ∙ sym (end_both end (end_of ends) last)
