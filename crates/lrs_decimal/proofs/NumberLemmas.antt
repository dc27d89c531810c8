-- A number is read as far as it goes, and is found again before what doesn't go on.
use Rattle.std.proofs.Common.{◌≡◌, ◌≢◌, ◌≤◌, ℕ, ◌-◌, length, take, drop, length-append, Option, ◌==◌, ◌||◌, inl, inr, List, [], ◌∷◌, ◌++◌, Bool, true, false, Some, None, option_and_then, if◌then◌else◌, refl, sym, ap, ◌∙◌, subst, IsTrue, arith, append_assoc}
use Rattle.std.proofs.lemmas.Option.{option_and_then_some, same_Some}
use Rattle.std.proofs.lemmas.Grind.{common_steps}
use Rattle.lrs_decimal.specs.Numbers.{is_digit, Each, IsDigits, IsWhole, IsFraction, IsExponent, IsNumber, without, unsigned, digits_end, whole_end, fraction_end, exponent_end, number_end}
use Rattle.lrs_decimal.specs.Numbers.{Stops, Ends}
use Rattle.lrs_decimal.proofs.Runs.{run, behind, Each-run, run-behind, behind_again, take_front}
use Rattle.lrs_decimal.proofs.Digits.{Each-append}
use Rattle.std.proofs.Math.Seq.{drop-append_seam}

-- ---- again

pub not_eq : (a b : ℕ) → a ≢ b → (a == b) ≡ false
not_eq a b h = grind (arith, common_steps)

unsigned_append_at : (b : ℕ) (bs x : List ℕ) (t : Bool) → (if t then bs ++ x else b ∷ (bs ++ x)) ≡ (if t then bs else b ∷ bs) ++ x
unsigned_append_at b bs x true = refl
unsigned_append_at b bs x false = refl

pub Ends-digit : (x : List ℕ) → Ends x → Stops is_digit x
Ends-digit [] s = tt
Ends-digit (b ∷ x) s = grind (arith, common_steps)

Ends-point : (x : List ℕ) → Ends x → Stops (λ b. b == 46) x
Ends-point [] s = tt
Ends-point (b ∷ x) s = grind (arith, common_steps)

digits_again : (ds x : List ℕ) → IsDigits ds → Stops is_digit x → digits_end (ds ++ x) ≡ Some x
unfolding digits_end
digits_again [] x d s = absurd d
digits_again (b ∷ ds) x d s = let first : is_digit b ≡ true = d.0 in rw (first, behind_again is_digit (ds ++ x) ds x refl d.1 s) refl

whole_again : (w x : List ℕ) → IsWhole w → Stops is_digit x → whole_end (w ++ x) ≡ Some x
unfolding whole_end
whole_again [] x d s = absurd d
whole_again (b ∷ bs) x (inl d) s = rw (d.0, d.1) refl
whole_again (b ∷ bs) x (inr d) s = let n : (b == 48) ≡ false = not_eq b 48 d.0 in rw n (digits_again (b ∷ bs) x d.1 s)

fraction_again : (f x : List ℕ) → IsFraction f → Stops is_digit x → Stops (λ b. b == 46) x → fraction_end (f ++ x) ≡ Some x
unfolding fraction_end
fraction_again [] [] d s t = refl
fraction_again [] (b ∷ x) d s t = rw t refl
fraction_again (b ∷ bs) x d s t = rw d.0 (digits_again bs x d.1 s)

unsigned_append : (bs x : List ℕ) → IsDigits (unsigned bs) → unsigned (bs ++ x) ≡ unsigned bs ++ x
unsigned_append [] x d = absurd d
unsigned_append (b ∷ bs) x d = unsigned_append_at b bs x (b == 43 || b == 45)

exponent_again : (e x : List ℕ) → IsExponent e → Ends x → exponent_end (e ++ x) ≡ Some x
unfolding exponent_end
exponent_again [] [] d s = refl
exponent_again [] (b ∷ x) d s = let n : (b == 101 || b == 69) ≡ false = grind (arith, common_steps) in rw n refl
exponent_again (b ∷ bs) x d s = let y : (b == 101 || b == 69) ≡ true = d.0 in rw (y, unsigned_append bs x d.1) (digits_again (unsigned bs) x d.1 (Ends-digit x s))

-- ---- the bytes of a number

e_no_digit : (b : ℕ) → IsTrue (b == 101 || b == 69) → is_digit b ≡ false
e_no_digit b e = grind arith

e_no_point : (b : ℕ) → IsTrue (b == 101 || b == 69) → (b == 46) ≡ false
e_no_point b e = grind (arith, common_steps)

nil_cons : (b : ℕ) (more : List ℕ) → ◌≡◌ {A = List ℕ} [] (b ∷ more) → ⊥
nil_cons b more e = cc e

-- what may stand in one
abbrev pub is_numeric : ℕ → Bool
is_numeric b = is_digit b || b == 43 || b == 45 || b == 46 || b == 69 || b == 101

e_numeric : (b : ℕ) → IsTrue (b == 101 || b == 69) → IsTrue (is_numeric b)
e_numeric b e = grind arith

digit_numeric : (b : ℕ) → IsTrue (is_digit b) → IsTrue (is_numeric b)
digit_numeric b d = grind arith

digits_numeric : (ds : List ℕ) → Each is_digit ds → Each is_numeric ds
digits_numeric [] d = tt
digits_numeric (b ∷ ds) d = (digit_numeric b d.0, digits_numeric ds d.1)

IsDigits-Each : (ds : List ℕ) → IsDigits ds → Each is_digit ds
IsDigits-Each [] d = absurd d
IsDigits-Each (b ∷ ds) d = d

whole_numeric : (w : List ℕ) → IsWhole w → Each is_numeric w
whole_numeric [] d = absurd d
whole_numeric (b ∷ bs) (inl d) = rw (d.0, d.1) (refl, tt)
whole_numeric (b ∷ bs) (inr d) = digits_numeric (b ∷ bs) d.1

fraction_numeric : (f : List ℕ) → IsFraction f → Each is_numeric f
fraction_numeric [] d = tt
fraction_numeric (b ∷ bs) d = rw d.0 (refl, digits_numeric bs (IsDigits-Each bs d.1))

signed_numeric : (b : ℕ) (bs : List ℕ) (t : Bool) → (b == 43 || b == 45) ≡ t → IsDigits (if t then bs else b ∷ bs) → Each is_numeric (b ∷ bs)
signed_numeric b bs true e d = let n : IsTrue (is_numeric b) = grind arith in (n, digits_numeric bs (IsDigits-Each bs d))
signed_numeric b bs false e d = digits_numeric (b ∷ bs) d

exponent_numeric : (e : List ℕ) → IsExponent e → Each is_numeric e
exponent_numeric [] d = tt
exponent_numeric (b ∷ []) d = absurd d.1
exponent_numeric (b ∷ c ∷ cs) d = let n : IsTrue (is_numeric b) = e_numeric b d.0 in (n, signed_numeric c cs (c == 43 || c == 45) refl d.1)

minus_numeric : (b : ℕ) (bs : List ℕ) (t : Bool) → (b == 45) ≡ t → Each is_numeric (if t then bs else b ∷ bs) → Each is_numeric (b ∷ bs)
minus_numeric b bs true e d = let n : IsTrue (is_numeric b) = grind arith in (n, d)
minus_numeric b bs false e d = d

pub IsNumber-numeric : (s : List ℕ) → IsNumber s → Each is_numeric s
IsNumber-numeric [] n = tt
IsNumber-numeric (b ∷ bs) n =
    let all = Each-append is_numeric n.0 (n.1 ++ n.2) (whole_numeric n.0 n.3) (Each-append is_numeric n.1 n.2 (fraction_numeric n.1 n.4) (exponent_numeric n.2 n.5)) in
    minus_numeric b bs (b == 45) refl (subst (Each is_numeric) (sym n.6) all)

-- ---- how a number begins

abbrev pub begins_number : ℕ → Bool
begins_number b = is_digit b || b == 45

whole_first : (w x : List ℕ) → IsWhole w → (b : ℕ) × (more : List ℕ) × (w ++ x ≡ b ∷ more) × IsTrue (is_digit b)
whole_first [] x d = absurd d
whole_first (b ∷ bs) x (inl d) = (b, bs ++ x, refl, rw d.0 refl)
whole_first (b ∷ bs) x (inr d) = (b, bs ++ x, refl, d.1.0)

begins_at : (b : ℕ) (bs y : List ℕ) (t : Bool) → (b == 45) ≡ t → (if t then bs else b ∷ bs) ≡ y → (c : ℕ) × (more : List ℕ) × (y ≡ c ∷ more) × IsTrue (is_digit c) → IsTrue (begins_number b)
begins_at b bs y true e h f = grind arith
begins_at b bs y false e h f = let same : b ≡ f.0 = cc (h, f.2) in let d : IsTrue (is_digit b) = subst (λ z. IsTrue (is_digit z)) (sym same) f.3 in grind arith

pub IsNumber-begins : (s : List ℕ) → IsNumber s → (b : ℕ) × (more : List ℕ) × (s ≡ b ∷ more) × IsTrue (begins_number b)
IsNumber-begins [] n = let f = whole_first n.0 (n.1 ++ n.2) n.3 in absurd (nil_cons f.0 f.1 (n.6 ∙ f.2))
IsNumber-begins (b ∷ bs) n = (b, bs, refl, begins_at b bs (n.0 ++ (n.1 ++ n.2)) (b == 45) refl n.6 (whole_first n.0 (n.1 ++ n.2) n.3))

-- ---- the whole, again

fraction_Stops : (f e x : List ℕ) → IsFraction f → IsExponent e → Ends x → Stops is_digit (f ++ (e ++ x))
fraction_Stops [] [] x d c s = Ends-digit x s
fraction_Stops [] (b ∷ e) x d c s = e_no_digit b c.0
fraction_Stops (b ∷ f) e x d c s = rw d.0 refl

exponent_Stops : (e x : List ℕ) → IsExponent e → Ends x → Stops (λ b. b == 46) (e ++ x)
exponent_Stops [] x c s = Ends-point x s
exponent_Stops (b ∷ e) x c s = e_no_point b c.0

exponent_digit_Stops : (e x : List ℕ) → IsExponent e → Ends x → Stops is_digit (e ++ x)
exponent_digit_Stops e x c s = fraction_Stops [] e x tt c s

without_append : (s x : List ℕ) (b : ℕ) (more : List ℕ) → s ≡ b ∷ more → without 45 (s ++ x) ≡ without 45 s ++ x
without_append [] x b more e = absurd (nil_cons b more e)
without_append (c ∷ cs) x b more e = unsigned_append_at c cs x (c == 45)

pub number_again : (s x : List ℕ) → IsNumber s → Ends x → number_end (s ++ x) ≡ Some x
unfolding number_end
number_again s x n ends =
    let b = IsNumber-begins s n in
    let parts : without 45 (s ++ x) ≡ n.0 ++ (n.1 ++ (n.2 ++ x)) = without_append s x b.0 b.1 b.2 ∙ ap (λ z. z ++ x) n.6 ∙ append_assoc n.0 (n.1 ++ n.2) x ∙ ap (λ z. n.0 ++ z) (append_assoc n.1 n.2 x) in
    let w = whole_again n.0 (n.1 ++ (n.2 ++ x)) n.3 (fraction_Stops n.1 n.2 x n.4 n.5 ends) in
    let f = fraction_again n.1 (n.2 ++ x) n.4 (exponent_digit_Stops n.2 x n.5 ends) (exponent_Stops n.2 x n.5 ends) in
    rw (parts, w, f) (exponent_again n.2 x n.5 ends)

-- ---- what is read is a number

abbrev StartsWith : (List ℕ → Type 0) → List ℕ → List ℕ → Type 0
StartsWith P bs r = (s : List ℕ) × (bs ≡ s ++ r) × P s

digits_at : (b : ℕ) (bs r : List ℕ) (t : Bool) → is_digit b ≡ t → (if t then Some (behind is_digit bs) else None) ≡ Some r → StartsWith IsDigits (b ∷ bs) r
digits_at b bs r true e h = (b ∷ run is_digit bs, ap (λ z. b ∷ z) (run-behind is_digit bs ∙ ap (λ z. run is_digit bs ++ z) (same_Some _ r h)), (e, Each-run is_digit bs))
digits_at b bs r false e h = cc h

digits_found : (bs r : List ℕ) → digits_end bs ≡ Some r → StartsWith IsDigits bs r
unfolding digits_end
digits_found [] r e = cc e
digits_found (b ∷ bs) r e = digits_at b bs r (is_digit b) refl e

no_zero : (b : ℕ) (bs r ds : List ℕ) → b ≢ 48 → b ∷ bs ≡ ds ++ r → IsDigits ds → IsWhole ds
no_zero b bs r [] n e d = absurd d
no_zero b bs r (c ∷ ds) n e d = let same : b ≡ c = cc e in inr ((λ z. n (same ∙ z)), d)

whole_at : (b : ℕ) (bs r : List ℕ) (t : Bool) → (b == 48) ≡ t → (if t then Some bs else digits_end (b ∷ bs)) ≡ Some r → StartsWith IsWhole (b ∷ bs) r
whole_at b bs r true e h = let z : b ≡ 48 = grind (arith, common_steps) in (b ∷ [], ap (λ z. b ∷ z) (same_Some bs r h), inl (z, refl))
whole_at b bs r false e h =
    let d = digits_found (b ∷ bs) r h in
    let n : b ≢ 48 = grind (arith, common_steps) in
    (d.0, d.1, no_zero b bs r d.0 n d.1 d.2)

whole_found : (bs r : List ℕ) → whole_end bs ≡ Some r → StartsWith IsWhole bs r
unfolding whole_end
whole_found [] r e = cc e
whole_found (b ∷ bs) r e = whole_at b bs r (b == 48) refl e

fraction_at : (b : ℕ) (bs r : List ℕ) (t : Bool) → (b == 46) ≡ t → (if t then digits_end bs else Some (b ∷ bs)) ≡ Some r → StartsWith IsFraction (b ∷ bs) r
fraction_at b bs r true e h = let d = digits_found bs r h in let z : b ≡ 46 = grind (arith, common_steps) in (b ∷ d.0, ap (λ z. b ∷ z) d.1, (z, d.2))
fraction_at b bs r false e h = ([], same_Some (b ∷ bs) r h, tt)

fraction_found : (bs r : List ℕ) → fraction_end bs ≡ Some r → StartsWith IsFraction bs r
unfolding fraction_end
fraction_found [] r e = ([], same_Some [] r e, tt)
fraction_found (b ∷ bs) r e = fraction_at b bs r (b == 46) refl e

unsigned_digits : (ds : List ℕ) → IsDigits ds → unsigned ds ≡ ds
unsigned_digits [] d = absurd d
unsigned_digits (b ∷ ds) d = let n : (b == 43 || b == 45) ≡ false = grind arith in rw n refl

sign_at : (c : ℕ) (cs r : List ℕ) (t : Bool) → (c == 43 || c == 45) ≡ t → StartsWith IsDigits (if t then cs else c ∷ cs) r → StartsWith (λ s. IsDigits (unsigned s)) (c ∷ cs) r
sign_at c cs r true e d = (c ∷ d.0, ap (λ z. c ∷ z) d.1, rw e d.2)
sign_at c cs r false e d = (d.0, d.1, rw (unsigned_digits d.0 d.2) d.2)

signed_found : (bs r : List ℕ) → StartsWith IsDigits (unsigned bs) r → StartsWith (λ s. IsDigits (unsigned s)) bs r
signed_found [] r d = (d.0, d.1, rw (unsigned_digits d.0 d.2) d.2)
signed_found (c ∷ cs) r d = sign_at c cs r (c == 43 || c == 45) refl d

exponent_at : (b : ℕ) (bs r : List ℕ) (t : Bool) → (b == 101 || b == 69) ≡ t → (if t then digits_end (unsigned bs) else Some (b ∷ bs)) ≡ Some r → StartsWith IsExponent (b ∷ bs) r
exponent_at b bs r true e h = let d = signed_found bs r (digits_found (unsigned bs) r h) in (b ∷ d.0, ap (λ z. b ∷ z) d.1, (e, d.2))
exponent_at b bs r false e h = ([], same_Some (b ∷ bs) r h, tt)

exponent_found : (bs r : List ℕ) → exponent_end bs ≡ Some r → StartsWith IsExponent bs r
unfolding exponent_end
exponent_found [] r e = ([], same_Some [] r e, tt)
exponent_found (b ∷ bs) r e = exponent_at b bs r (b == 101 || b == 69) refl e

digit_no_minus : (b : ℕ) → IsTrue (is_digit b) → (b == 45) ≡ false
digit_no_minus b d = grind (arith, common_steps)

without_whole : (w x : List ℕ) → IsWhole w → without 45 (w ++ x) ≡ w ++ x
without_whole w x d = let f = whole_first w x d in rw (f.2, digit_no_minus f.0 f.3) refl

minus_at : (b : ℕ) (bs r y : List ℕ) (t : Bool) → (b == 45) ≡ t → (if t then bs else b ∷ bs) ≡ y ++ r → without 45 y ≡ y → (s : List ℕ) × (b ∷ bs ≡ s ++ r) × (without 45 s ≡ y)
minus_at b bs r y true e h w = (b ∷ y, ap (λ z. b ∷ z) h, rw e refl)
minus_at b bs r y false e h w = (y, h, w)

minus_front : (bs r y : List ℕ) → without 45 bs ≡ y ++ r → without 45 y ≡ y → (s : List ℕ) × (bs ≡ s ++ r) × (without 45 s ≡ y)
minus_front [] r y h w = (y, h, w)
minus_front (b ∷ bs) r y h w = minus_at b bs r y (b == 45) refl h w

pub number_found : (bs r : List ℕ) → number_end bs ≡ Some r → StartsWith IsNumber bs r
unfolding number_end
number_found bs r e =
    option_and_then_some exponent_end (option_and_then fraction_end (whole_end (without 45 bs))) r e (λ x ex ee. option_and_then_some fraction_end (whole_end (without 45 bs)) x ex (λ y ey fe.
    let w = whole_found (without 45 bs) y ey in
    let f = fraction_found y x fe in
    let p = exponent_found x r ee in
    let whole : without 45 bs ≡ (w.0 ++ (f.0 ++ p.0)) ++ r = w.1 ∙ ap (λ z. w.0 ++ z) (f.1 ∙ ap (λ z. f.0 ++ z) p.1 ∙ sym (append_assoc f.0 p.0 r)) ∙ sym (append_assoc w.0 (f.0 ++ p.0) r) in
    let m = minus_front bs r (w.0 ++ (f.0 ++ p.0)) whole (without_whole w.0 (f.0 ++ p.0) w.2) in
    (m.0, m.1, (w.0, f.0, p.0, w.2, f.2, p.2, m.2))))

-- ---- lengths

front_len : (bs s rest : List ℕ) (n : ℕ) → bs ≡ s ++ rest → n ≡ length bs - length rest → n ≡ length s
front_len bs s rest n e en = omega (arith, en, ap length e, length-append s rest)

front_taken : (bs s rest : List ℕ) (n : ℕ) → bs ≡ s ++ rest → n ≡ length s → take n bs ≡ s
front_taken bs s rest n e en = rw (en, e) (take_front s rest)

-- the bytes after the number at the front tell its length
pub len_found : (bs rest : List ℕ) (n : ℕ) → number_end bs ≡ Some rest → n ≡ length bs - length rest → (n ≤ length bs) × IsNumber (take n bs)
len_found bs rest n e en =
    let f = number_found bs rest e in
    let is : n ≡ length f.0 = front_len bs f.0 rest n f.1 en in
    (omega (arith, is, ap length f.1, length-append f.0 rest), subst IsNumber (sym (front_taken bs f.0 rest n f.1 is)) f.2)

front_dropped : (bs s rest : List ℕ) (n : ℕ) → bs ≡ s ++ rest → n ≡ length s → drop n bs ≡ rest
front_dropped bs s rest n e en = rw (en, e) (drop-append_seam s rest)

pub behind_len : (bs rest : List ℕ) (n : ℕ) → number_end bs ≡ Some rest → n ≡ length bs - length rest → drop n bs ≡ rest
behind_len bs rest n e en =
    let f = number_found bs rest e in
    front_dropped bs f.0 rest n f.1 (front_len bs f.0 rest n f.1 en)

pub len_again : (bs rest : List ℕ) (n : ℕ) → number_end bs ≡ Some rest → n ≡ length bs - length rest → (s end : List ℕ) → bs ≡ s ++ end → IsNumber s → Ends end → Some n ≡ Some (length s)
len_again bs rest n e en s end is num ends =
    let same : rest ≡ end = same_Some rest end (sym e ∙ ap number_end is ∙ number_again s end num ends) in
    ap Some (front_len bs s end n is (subst (λ z. n ≡ length bs - length z) same en))

none_some : (x : List ℕ) → ◌≡◌ {A = Option (List ℕ)} None (Some x) → ⊥
none_some x e = cc e

pub no_number : (bs : List ℕ) → number_end bs ≡ None → (s end : List ℕ) → bs ≡ s ++ end → IsNumber s → Ends end → ⊥
no_number bs e s end is num ends = none_some end (sym e ∙ ap number_end is ∙ number_again s end num ends)
