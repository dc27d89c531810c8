-- Passes as views, and seats with one slot.
use Rattle.std.proofs.Common.{zero, suc, ◌≡◌, ℕ, List, ◌∷◌, [], ◌++◌, length, Option, Some, None, sym, ap, ◌∙◌, refl, subst, arith}
use Rattle.std.specs.Prelude.{All, true}
use mathlib.Core.Option as core
use mathlib.Core.Option.{some-injective}
use lib.ListN.{get_elem?}
use Rattle.atomic_table.specs.Table.{Me, rest, Final, Seen}
use Rattle.atomic_table.specs.Seated.{TableId}
use Rattle.lrs_turn.specs.declared.view.View.{View}
use Rattle.lrs_turn.specs.Lists.{BeginsWith, Each, NoneFalls, times}
use Rattle.lrs_turn.specs.Passes.{Pass, OwnsEach}
use Rattle.lrs_turn.specs.Rule.{view_in, Fetches, Fits, Meaning, Shows, Whole, Kept, both}
use Rattle.lrs_turn.specs.Views.{sight_of, view_of, pass_in, Covers}
use Rattle.lrs_turn.proofs.Steps.{times_append, closes}

module _ {S T : Type 0} where
  pub carries : (m : Me (Option S) (View T)) (w : View T) (x : Option S) → m ≡ (w, (0, x) ∷ []) → m.1 ≡ (0, x) ∷ rest m.1
  carries m w x e =
      let one : m.1 ≡ (0, x) ∷ [] = ap (λ (n : Me (Option S) (View T)). n.1) e in
      one ∙ sym (ap (λ (c : List (ℕ × Option S)). (0, x) ∷ rest c) one)

-- a pass that is opened, stepped with and closed again
module _ {S T : Type 0} where
  pub opens : (table : TableId) (vs bs : List (View T)) (p : Pass T) (m : Me (Option S) (View T)) → pass_in table vs ≡ p → vs ≡ view_of (pass_in table vs) ∷ []
      → bs ≡ vs → bs ≡ m.0 ∷ [] → m.1 ≡ [] → m ≡ (view_of p, [])
  opens table vs bs p m is one same mine none =
      let v : m.0 ≡ view_of p = ap view_in (sym mine ∙ (same ∙ one)) ∙ ap view_of is in
      ap (λ (w : View T). (w, m.1)) v ∙ ap (λ (l : List (ℕ × Option S)). (view_of p, l)) none

  -- the seat after it put this into its slot
  pub puts : (m n : Me (Option S) (View T)) (w : View T) (x y : Option S) → m ≡ (w, (0, x) ∷ []) → n ≡ (m.0, (0, y) ∷ rest m.1) → n ≡ (w, (0, y) ∷ [])
  puts m n w x y is put = put ∙ ap (λ (k : Me (Option S) (View T)). (k.0, (0, y) ∷ rest k.1)) is

  pub fetched : (m n : Me (Option S) (View T)) (w : View T) → m ≡ (w, []) → Fetches {S = S} m n → n ≡ (record w { out = true }, (0, None) ∷ [])
  fetched m n w is took = took ∙ ap (λ (k : Me (Option S) (View T)). (record k.0 { out = true }, (0, None) ∷ [])) is

module _ {A : Type 0} where
  pub each_left : (P : A → Type 0) (xs ys : List A) → Each P (xs ++ ys) → Each P xs
  each_left P [] ys e = tt
  each_left P (x ∷ xs) ys e = (e.0, each_left P xs ys e.1)

  pub each_right : (P : A → Type 0) (xs ys : List A) → Each P (xs ++ ys) → Each P ys
  each_right P [] ys e = e
  each_right P (x ∷ xs) ys e = each_right P xs ys e.1

  pub each_last : (P : A → Type 0) (xs : List A) (y : A) → Each P (xs ++ y ∷ []) → P y
  each_last P xs y e = (each_right P xs (y ∷ []) e).0

  pub all_of : (P Q : A → Type 0) → ((x : A) → P x → Q x) → (xs : List A) → Each P xs → All Q xs
  all_of P Q f [] e k d near = absurd (omega (arith, near))
  all_of P Q f (x ∷ xs) e zero d near = f x e.0
  all_of P Q f (x ∷ xs) e (suc k) d near = all_of P Q f xs e.1 k d (omega (arith, near))

  pub moved_over : (xs : List A) (y : A) (ys : List A) → (xs ++ y ∷ []) ++ ys ≡ xs ++ y ∷ ys
  moved_over [] y ys = refl
  moved_over (x ∷ xs) y ys = ap (λ (l : List A). x ∷ l) (moved_over xs y ys)

module _ {T : Type 0} where
  pub covers_more : (p : Pass T) (done : List (Pass T)) (v w : View T) → w ≡ view_of p → Covers done v → Covers (p ∷ done) (both v w)
  covers_more p done v w is covers =
      let parts : w.parts ≡ 1 = ap (λ (u : View T). u.parts) is in
      let before = covers.parts in record {
        holds = covers.holds;
        parts = omega (arith, parts, before);
        own = λ n. (let o : times n w.own ≡ times n p.own = ap (λ (u : View T). times n u.own) is in
            let q = times_append n v.own w.own in let c = covers.own n in omega (arith, o, q, c));
        sights = λ a fits. ((subst (λ (u : View T). Each (Fits a) u.sights) is (each_right (Fits a) v.sights w.sights fits)).0, covers.sights a (each_left (Fits a) v.sights w.sights fits));
      }

-- a state that was found fits what a pass has seen
module _ {S T : Type 0} (m : Meaning S T) where
  pub goes_on : (a : Whole T) (s : S) (p : Pass T) → Shows m a s → Fits a (sight_of p) → BeginsWith p.front (m.line s) × (m.marks s ≡ p.marks) × NoneFalls p.tide (m.tide s)
  goes_on a s p shows f = ((f.front.0, f.front.1 ∙ sym shows.0), shows.1 ∙ sym f.marks, subst (λ (n : List ℕ). NoneFalls p.tide n) (sym shows.2) f.tide)

  -- and with one pass it has just the tide that this one has seen
  pub goes_on_alone : (a : Whole T) (s : S) (p : Pass T) → Shows m a s → Fits a (sight_of p) → p.turns.passes ≡ 1 → m.tide s ≡ p.tide
  goes_on_alone a s p shows f one = shows.2 ∙ sym (f.alone (sym f.passes ∙ one))

pub not_some : {S : Type 0} (s : S) → None ≡ Some s → ⊥
not_some s e = grind (arith, e)

pub same_some : {S : Type 0} (a b : S) → Some a ≡ Some b → a ≡ b
same_some a b e = grind (arith, e)

-- what is told of a state when all passes are back
module _ {S T : Type 0} (m : Meaning S T) where
  pub record Ends (passes : ℕ) (all : List (Pass T)) (st : S) : Type 0 where
    pub fronts : All (λ (p : Pass T). BeginsWith p.front (m.line st)) all
    pub marks : All (λ (p : Pass T). m.marks st ≡ p.marks) all
    pub tide : All (λ (p : Pass T). NoneFalls p.tide (m.tide st)) all
    pub alone : passes ≡ 1 → All (λ (p : Pass T). m.tide st ≡ p.tide) all
    pub own : (opening : ℕ) × OwnsEach all opening (length (m.line st))

  pub ending : (passes id : ℕ) (v : View T) (ws : List ℕ) (xs : List (Option S)) (r : Option S) (all : List (Pass T))
      → Final (Seen (Kept m passes) id v) ws xs → get_elem? xs 0 ≡ core.some r → Covers all v → length all ≡ passes → (st : S) × (r ≡ Some st) × Ends passes all st
  ending passes id v ws xs r all final at covers count =
      let s = final.0 in
      let ends = closes m passes s id v final.1.0 final.1.1 covers.holds (covers.parts ∙ count) in
      let a : Whole T = ends.0 in
      let st : S = ends.1 in
      let there = final.4 0 (Some st) (ap (λ (hs : List (core.Option (Option S))). get_elem? hs 0) ends.2) in
      let is : r ≡ Some st = some-injective r (Some st) (sym at ∙ there) in
      let shows : Shows m a st = ends.3 in
      let fits : Each (λ (p : Pass T). Fits a (sight_of p)) all = covers.sights a ends.4 in
      let long : length a.log ≡ length (m.line st) = ap (λ (l : List T). length l) (sym shows.0) in (
        st,
        is,
        record {
          fronts = all_of (λ (p : Pass T). Fits a (sight_of p)) (λ (p : Pass T). BeginsWith p.front (m.line st)) (λ p f. (goes_on m a st p shows f).0) all fits;
          marks = all_of (λ (p : Pass T). Fits a (sight_of p)) (λ (p : Pass T). m.marks st ≡ p.marks) (λ p f. (goes_on m a st p shows f).1) all fits;
          tide = all_of (λ (p : Pass T). Fits a (sight_of p)) (λ (p : Pass T). NoneFalls p.tide (m.tide st)) (λ p f. (goes_on m a st p shows f).2) all fits;
          alone = λ one. all_of (λ (p : Pass T). Fits a (sight_of p)) (λ (p : Pass T). m.tide st ≡ p.tide)
              (λ p f. goes_on_alone m a st p shows f (f.passes ∙ (ends.7 ∙ one))) all fits;
          own = (
            a.opening,
            subst (OwnsEach all a.opening) long
                record {
                  opened = all_of (λ (p : Pass T). Fits a (sight_of p)) (λ (p : Pass T). p.opening ≡ a.opening) (λ p f. f.opening) all fits;
                  once = λ n from to. sym (covers.own n) ∙ ends.5 n from to;
                  none = λ n out. sym (covers.own n) ∙ ends.6 n out;
                },
          );
        },
      )

  -- the same of the state that was found
  pub ended : (passes id : ℕ) (v : View T) (ws : List ℕ) (xs : List (Option S)) (r : Option S) (all : List (Pass T)) (st : S)
      → Final (Seen (Kept m passes) id v) ws xs → get_elem? xs 0 ≡ core.some r → Covers all v → length all ≡ passes → r ≡ Some st → Ends passes all st
  ended passes id v ws xs r all st final at covers count is =
      let end = ending passes id v ws xs r all final at covers count in
      subst (Ends passes all) (same_some end.0 st (sym end.1 ∙ is)) end.2
