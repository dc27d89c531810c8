-- Slots found by key, of which some are filled, and the list of those alone.
use Rattle.std.proofs.Common.{◌≡◌, Bool, true, false, cond, not, ◌||◌, List, [], ◌∷◌, Option, Some, None, Ordering, Less, Equal, Greater, filter, filter_map, option_map, is_eq, is_some, refl, sym, ap, subst, ◌∙◌, ⊎_elim, true≢false}
use Rattle.std.specs.BTreeMap.{insert_entry, is_at}
use Rattle.std.specs.Cmp.{IsTotalOrder}
use Rattle.std.specs.List.{AllByRecursion}
use Rattle.std.specs.List.Sorted.{IsStrictlySortedBy}
use Rattle.std.specs.Map.{keys_of, lookup, remove_entry, set_value}
use Rattle.std.specs.Option.{option_flatten}
use Rattle.std.specs.Ordering.{match_ordering}
use Rattle.std.proofs.lemmas.Bool.{cases_Bool}
use Rattle.std.proofs.lemmas.Cmp.{eq_by_cmp_equiv}
use Rattle.std.proofs.lemmas.Map.{NonePasses, lookup-none}
use Rattle.std.proofs.lemmas.Map.Entries.{lookup_head, lookup_tail, none_past_head, none_below_head}
use Rattle.std.proofs.lemmas.Map.Keys.{IsDistinct-from_sorted, sorted_head, sorted_tail}
use Rattle.std.proofs.lemmas.Map.Lookups.{CmpEqualImpliesEq}

module _ {K X : Type 0} where
  -- those whose slots are filled
  abbrev pub filled : List (K × Option X) → List (K × X)
  filled slots = filter_map (λ slot. option_map (λ x. (slot.0, x)) slot.1) slots

  -- a test that no slot passes is passed by none that is filled
  pub none_filled : (test : K → Bool) (slots : List (K × Option X)) → NonePasses test slots → NonePasses test (filled slots)
  none_filled test [] none = tt
  none_filled test ((k, None) ∷ slots) none = none_filled test slots none.1
  none_filled test ((k, Some x) ∷ slots) none = (none.0, none_filled test slots none.1)

  -- a filter that all pass leaves the list
  pub all_stay : (test : K → Bool) (xs : List (K × X)) → NonePasses test xs → filter (λ x. not (test x.0 || false)) xs ≡ xs
  all_stay test [] none = refl
  all_stay test (x ∷ xs) none = rw none.0 (ap (λ l. x ∷ l) (all_stay test xs none.1))

  module _ {R : K → K → Ordering} (o : IsTotalOrder R) where
    past : (q k : K) (p : Option X) (slots : List (K × Option X)) → IsStrictlySortedBy R (keys_of ((k, p) ∷ slots)) → is_at (R q) k ≡ true → NonePasses (is_at (R q)) slots
    past q k p slots s is = none_past_head (eq_by_cmp_equiv o) q (k, p) slots (IsDistinct-from_sorted R _ s) is

    -- what stands under a key is what fills its slot
    pub found : (q : K) (slots : List (K × Option X)) → IsStrictlySortedBy R (keys_of slots) → lookup (is_at (R q)) (filled slots) ≡ option_flatten (lookup (is_at (R q)) slots)
    found q [] s = refl
    found q ((k, None) ∷ slots) s = ⊎_elim
        (λ is. lookup-none (is_at (R q)) (filled slots) (none_filled (is_at (R q)) slots (past q k None slots s is)) ∙ sym (ap option_flatten (lookup_head (is_at (R q)) (k, None) slots is)))
        (λ off. found q slots (sorted_tail R k (keys_of slots) s) ∙ sym (ap option_flatten (lookup_tail (is_at (R q)) (k, None) slots off)))
        (cases_Bool (is_at (R q) k))
    found q ((k, Some x) ∷ slots) s = ⊎_elim
        (λ is. lookup_head (is_at (R q)) (k, x) (filled slots) is ∙ sym (ap option_flatten (lookup_head (is_at (R q)) (k, Some x) slots is)))
        (λ off. lookup_tail (is_at (R q)) (k, x) (filled slots) off ∙ found q slots (sorted_tail R k (keys_of slots) s) ∙ sym (ap option_flatten (lookup_tail (is_at (R q)) (k, Some x) slots off)))
        (cases_Bool (is_at (R q) k))

    -- a slot is let go, and so is what filled it
    pub removed : (q : K) (slots : List (K × Option X)) → IsStrictlySortedBy R (keys_of slots) → filled (remove_entry (is_at (R q)) slots) ≡ filter (λ x. not (is_at (R q) x.0 || false)) (filled slots)
    removed q [] s = refl
    removed q ((k, None) ∷ slots) s = ⊎_elim
        (λ is. ap (λ b. filled (cond b slots ((k, None) ∷ remove_entry (is_at (R q)) slots))) is ∙ sym (all_stay (is_at (R q)) (filled slots) (none_filled (is_at (R q)) slots (past q k None slots s is))))
        (λ off. ap (λ b. filled (cond b slots ((k, None) ∷ remove_entry (is_at (R q)) slots))) off ∙ removed q slots (sorted_tail R k (keys_of slots) s))
        (cases_Bool (is_at (R q) k))
    removed q ((k, Some x) ∷ slots) s =
        let rest = filter (λ (e : K × X). not (is_at (R q) e.0 || false)) (filled slots) in
        ⊎_elim
        (λ is. ap (λ b. filled (cond b slots ((k, Some x) ∷ remove_entry (is_at (R q)) slots))) is ∙ sym (all_stay (is_at (R q)) (filled slots) (none_filled (is_at (R q)) slots (past q k (Some x) slots s is)))
        ∙ sym (ap (λ b. cond (not (b || false)) ((k, x) ∷ rest) rest) is))
        (λ off. ap (λ b. filled (cond b slots ((k, Some x) ∷ remove_entry (is_at (R q)) slots))) off ∙ ap (λ l. (k, x) ∷ l) (removed q slots (sorted_tail R k (keys_of slots) s))
        ∙ sym (ap (λ b. cond (not (b || false)) ((k, x) ∷ rest) rest) off))
        (cases_Bool (is_at (R q) k))

  behind_slot : (q : K) (p : Option X) (few all : List (K × Option X)) → filled few ≡ filled all → filled ((q, p) ∷ few) ≡ filled ((q, p) ∷ all)
  behind_slot q None few all h = h
  behind_slot q (Some x) few all h = ap (λ l. (q, x) ∷ l) h

  -- a slot that is made is empty
  pub made : (R : K → K → Ordering) (k : K) (slots : List (K × Option X)) → lookup (is_at (R k)) slots ≡ None → filled (insert_entry R slots k None) ≡ filled slots
  made R k [] none = refl
  made R k ((q, p) ∷ slots) none = by_order (R k q) refl (λ off. made R k slots off)
    where
      by_order : (r : Ordering) → R k q ≡ r → (lookup (is_at (R k)) slots ≡ None → filled (insert_entry R slots k None) ≡ filled slots)
          → filled (match_ordering r ((k, None) ∷ (q, p) ∷ slots) ((q, None) ∷ slots) ((q, p) ∷ insert_entry R slots k None)) ≡ filled ((q, p) ∷ slots)
      by_order Less e rest = refl
      by_order Equal e rest = absurd (true≢false (ap is_some (sym (lookup_head (is_at (R k)) (q, p) slots (ap is_eq e)) ∙ none)))
      by_order Greater e rest = behind_slot q p (insert_entry R slots k None) slots (rest (sym (lookup_tail (is_at (R k)) (q, p) slots (ap is_eq e)) ∙ none))

  -- ---- what is written

  in_front : (R : K → K → Ordering) (k : K) (x : X) (es : List (K × X)) → AllByRecursion (λ q. R k q ≡ Less) (keys_of es) → insert_entry R es k x ≡ (k, x) ∷ es
  in_front R k x [] less = refl
  in_front R k x (e ∷ es) less = ap (λ r. match_ordering r ((k, x) ∷ e ∷ es) ((e.0, x) ∷ es) (e ∷ insert_entry R es k x)) less.0

  less_filled : (R : K → K → Ordering) (k : K) (slots : List (K × Option X)) → AllByRecursion (λ q. R k q ≡ Less) (keys_of slots) → AllByRecursion (λ q. R k q ≡ Less) (keys_of (filled slots))
  less_filled R k [] less = tt
  less_filled R k ((q, None) ∷ slots) less = less_filled R k slots less.1
  less_filled R k ((q, Some x) ∷ slots) less = (less.0, less_filled R k slots less.1)

  -- what is written into the slot at a key, and what is written behind it
  module _ {R : K → K → Ordering} (o : IsTotalOrder R) (exact : CmpEqualImpliesEq R) (k q : K) (x : X) (p : Option X) (slots : List (K × Option X)) where
    here : (p : Option X) → R k q ≡ Equal → AllByRecursion (λ y. R q y ≡ Less) (keys_of slots) → (q, x) ∷ filled slots ≡ insert_entry R (filled ((q, p) ∷ slots)) k x
    here None e less =
        let same = exact k q e in
        ap (λ (z : K). (z, x) ∷ filled slots) (sym same)
        ∙ sym (in_front R k x (filled slots) (subst (λ (z : K). AllByRecursion (λ y. R z y ≡ Less) (keys_of (filled slots))) (sym same) (less_filled R q slots less)))
    here (Some y) e less = sym (ap (λ r. match_ordering r ((k, x) ∷ (q, y) ∷ filled slots) ((q, x) ∷ filled slots) ((q, y) ∷ insert_entry R (filled slots) k x)) e)

    behind : (p : Option X) → R k q ≡ Greater → filled (set_value (is_at (R k)) slots (Some x)) ≡ insert_entry R (filled slots) k x
        → filled ((q, p) ∷ set_value (is_at (R k)) slots (Some x)) ≡ insert_entry R (filled ((q, p) ∷ slots)) k x
    behind None e h = h
    behind (Some y) e h = ap (λ l. (q, y) ∷ l) h ∙ sym (ap (λ r. match_ordering r ((k, x) ∷ (q, y) ∷ filled slots) ((q, x) ∷ filled slots) ((q, y) ∷ insert_entry R (filled slots) k x)) e)

    by_order : (r : Ordering) → R k q ≡ r → IsStrictlySortedBy R (keys_of ((q, p) ∷ slots)) → is_some (lookup (is_at (R k)) ((q, p) ∷ slots)) ≡ true
        → (is_some (lookup (is_at (R k)) slots) ≡ true → filled (set_value (is_at (R k)) slots (Some x)) ≡ insert_entry R (filled slots) k x)
        → filled (cond (is_eq r) ((q, Some x) ∷ slots) ((q, p) ∷ set_value (is_at (R k)) slots (Some x))) ≡ insert_entry R (filled ((q, p) ∷ slots)) k x
    by_order Less e s some rest = absurd (true≢false (sym some ∙ ap is_some (lookup-none (is_at (R k)) ((q, p) ∷ slots) (none_below_head o k (q, p) slots s e))))
    by_order Equal e s some rest = here p e (sorted_head R q (keys_of slots) s)
    by_order Greater e s some rest = behind p e (rest (ap is_some (sym (lookup_tail (is_at (R k)) (q, p) slots (ap is_eq e))) ∙ some))

  -- a slot that is filled, or filled anew
  pub written : {R : K → K → Ordering} (o : IsTotalOrder R) → CmpEqualImpliesEq R → (k : K) (x : X) (slots : List (K × Option X)) → IsStrictlySortedBy R (keys_of slots)
      → is_some (lookup (is_at (R k)) slots) ≡ true → filled (set_value (is_at (R k)) slots (Some x)) ≡ insert_entry R (filled slots) k x
  written {R} o exact k x [] s some = absurd (true≢false (sym some))
  written {R} o exact k x ((q, p) ∷ slots) s some =
      by_order o exact k q x p slots (R k q) refl s some (written o exact k x slots (sorted_tail R q (keys_of slots) s))

  -- ---- without many keys, one after the other

  pub none_left_out : (xs : List (K × X)) → filter (λ x. not false) xs ≡ xs
  none_left_out [] = refl
  none_left_out (x ∷ xs) = ap (λ l. x ∷ l) (none_left_out xs)

  pub one_more : (p q : K → Bool) (xs : List (K × X)) → filter (λ x. not (q x.0)) (filter (λ x. not (p x.0)) xs) ≡ filter (λ x. not (p x.0 || q x.0)) xs
  one_more p q [] = refl
  one_more p q (x ∷ xs) = ⊎_elim
      (λ e. rw e (one_more p q xs))
      (λ e. rw e (ap (λ l. cond (not (q x.0)) (x ∷ l) l) (one_more p q xs)))
      (cases_Bool (p x.0))
