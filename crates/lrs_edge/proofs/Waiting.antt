-- What waits is written over what is told.
use Rattle.std.proofs.Common.{◌≡◌, ◌∙◌, ◌⊎◌, ◌≤◌, ◌+◌, ◌-◌, ℕ, List, [], ◌++◌, Option, Some, None, length, take, drop, min, max, refl, sym, ap, subst, inl, inr, suc, zero, arith, append_assoc, length-append, length-take, length-drop, option_map}
use Rattle.std.proofs.lemmas.List.{take_all, take_at, drop_all, drop_at, drop-drop, take-append-drop, append-nil}
use Rattle.lrs_disk.specs.Disk.{written, Torn, Cut, BothTold}
use Rattle.lrs_edge.specs.Behind.{over}

-- ---- nothing waits

none_written : (b : List ℕ) (start : ℕ) → written b start [] ≡ b
none_written b start =
    let here : start + 0 ≡ start = omega arith in
    ap (λ (l : List ℕ). l ++ drop (start + 0) b) (append-nil (take start b)) ∙ ap (λ (n : ℕ). take start b ++ drop n b) here ∙ take-append-drop start b

pub over_none : (told : Option (List ℕ)) (start : ℕ) (waiting : List ℕ) → waiting ≡ [] → over told start waiting ≡ told
over_none None start waiting none = refl
over_none (Some b) start waiting none = ap (λ (l : List ℕ). Some (written b start l)) none ∙ ap Some (none_written b start)

-- ---- a write that was cut short still waits

pub torn_over : (start : ℕ) (waiting : List ℕ) (old new : Option (List ℕ)) → BothTold (Torn start (length waiting)) old new → over new start waiting ≡ over old start waiting
torn_over start waiting None None both = refl
torn_over start waiting None (Some c) both = absurd both
torn_over start waiting (Some b) None both = absurd both
torn_over start waiting (Some b) (Some c) both =
    ap (λ (l : List ℕ). Some (l ++ waiting ++ drop (start + length waiting) c)) both.before
    ∙ ap (λ (l : List ℕ). Some (take start b ++ waiting ++ l)) both.after

-- ---- writes one after the other are one

-- what is written from the end on, or from behind it, comes after all
behind_end : (b : List ℕ) (p : ℕ) (xs : List ℕ) → length b ≤ p → written b p xs ≡ b ++ xs
behind_end b p xs le =
    ap (λ (l : List ℕ). l ++ xs ++ drop (p + length xs) b) (take_all p b le)
    ∙ ap (λ (l : List ℕ). b ++ xs ++ l) (drop_all (p + length xs) b (omega (arith, le))) ∙ append-nil (b ++ xs)

on_inside : (b : List ℕ) (p q : ℕ) (xs ys : List ℕ) → p ≤ length b → p + length xs ≡ q → written b p (xs ++ ys) ≡ written (written b p xs) q ys
on_inside b p q xs ys le is =
    let size : length (take p b ++ xs) ≡ q = omega (arith, le, is, length-append (take p b) xs, length-take p b) in
    let front : take q (written b p xs) ≡ take p b ++ xs = take_at (take p b ++ xs) (drop (p + length xs) b) q size in
    let behind : drop q (written b p xs) ≡ drop (p + length xs) b = drop_at (take p b ++ xs) (drop (p + length xs) b) q size in
    let offset : p + length xs + length ys ≡ p + length (xs ++ ys) = omega (arith, length-append xs ys) in
    let back : drop (q + length ys) (written b p xs) ≡ drop (p + length (xs ++ ys)) b =
    sym (drop-drop (length ys) q (written b p xs)) ∙ ap (λ (l : List ℕ). drop (length ys) l) behind ∙ drop-drop (length ys) (p + length xs) b ∙ ap (λ (n : ℕ). drop n b) offset in
    sym (ap (λ (l : List ℕ). l ++ ys ++ drop (q + length ys) (written b p xs)) front
    ∙ ap (λ (l : List ℕ). take p b ++ xs ++ ys ++ l) back
    ∙ ap (λ (l : List ℕ). l ++ drop (p + length (xs ++ ys)) b) (append_assoc (take p b) xs ys))

on_behind : (b : List ℕ) (p q : ℕ) (xs ys : List ℕ) → length b ≤ p → p + length xs ≡ q → written b p (xs ++ ys) ≡ written (written b p xs) q ys
on_behind b p q xs ys le is =
    let short : length (b ++ xs) ≤ q = omega (arith, le, is, length-append b xs) in
    behind_end b p (xs ++ ys) le
    ∙ sym (append_assoc b xs ys)
    ∙ sym (behind_end (b ++ xs) q ys short)
    ∙ ap (λ (l : List ℕ). written l q ys) (sym (behind_end b p xs le))

one_more : (m n : ℕ) → (m ≤ n) ⊎ (n ≤ m) → (suc m ≤ suc n) ⊎ (suc n ≤ suc m)
one_more m n (inl le) = inl (omega (arith, le))
one_more m n (inr le) = inr (omega (arith, le))

either_side : (m n : ℕ) → (m ≤ n) ⊎ (n ≤ m)
either_side zero n = inl (omega arith)
either_side (suc m) zero = inr (omega arith)
either_side (suc m) (suc n) = one_more m n (either_side m n)

on_either : (b : List ℕ) (p q : ℕ) (xs ys : List ℕ) → p + length xs ≡ q → (p ≤ length b) ⊎ (length b ≤ p) → written b p (xs ++ ys) ≡ written (written b p xs) q ys
on_either b p q xs ys is (inl le) = on_inside b p q xs ys le is
on_either b p q xs ys is (inr le) = on_behind b p q xs ys le is

over_on : (told : Option (List ℕ)) (p q : ℕ) (xs ys : List ℕ) → p + length xs ≡ q → over told p (xs ++ ys) ≡ option_map (λ (b : List ℕ). written b q ys) (over told p xs)
over_on None p q xs ys is = refl
over_on (Some b) p q xs ys is = ap Some (on_either b p q xs ys is (either_side p (length b)))

-- what waits may be given another place while it is nothing
pub gathered : (told : Option (List ℕ)) (before start offset : ℕ) (waiting bytes : List ℕ) → (waiting ≡ []) ⊎ (start ≡ before) → start + length waiting ≡ offset
    → over told start (waiting ++ bytes) ≡ option_map (λ (b : List ℕ). written b offset bytes) (over told before waiting)
gathered told before start offset waiting bytes (inl none) is =
    over_on told start offset waiting bytes is
    ∙ ap (option_map (λ (b : List ℕ). written b offset bytes)) (over_none told start waiting none ∙ sym (over_none told before waiting none))
gathered told before start offset waiting bytes (inr same) is =
    over_on told start offset waiting bytes is
    ∙ ap (λ (n : ℕ). option_map (λ (b : List ℕ). written b offset bytes) (over told n waiting)) same

-- ---- calls that failed before they began

torn_self : (offset n : ℕ) (told : Option (List ℕ)) → BothTold (Torn offset n) told told
torn_self offset n None = tt
torn_self offset n (Some b) = record { before = refl; after = refl; no_shorter = omega arith; no_longer = omega arith }

pub torn_same : (offset n : ℕ) (old new : Option (List ℕ)) → new ≡ old → BothTold (Torn offset n) old new
torn_same offset n old new same = subst (λ (o : Option (List ℕ)). BothTold (Torn offset n) old o) (sym same) (torn_self offset n old)

cut_self : (to : ℕ) (told : Option (List ℕ)) → BothTold (Cut to) told told
cut_self to None = tt
cut_self to (Some b) = record { no_shorter = omega arith; front = take_all (length b) b (omega arith) }

pub cut_same : (to : ℕ) (old new : Option (List ℕ)) → new ≡ old → BothTold (Cut to) old new
cut_same to old new same = subst (λ (o : Option (List ℕ)). BothTold (Cut to) old o) (sym same) (cut_self to old)
