-- The texts of durations are read as what they spell, and sameness is an equivalence.
use Rattle.std.proofs.Common.{◌≡◌, ◌↔◌, ◌⊎◌, inl, inr, ℕ, ◌+◌, ◌*◌, ◌==◌, ◌&&◌, ◌||◌, not, IsTrue, IsNone, is_some, List, [], ◌∷◌, ◌++◌, Bool, true, false, length, drop, Option, Some, None, option_and_then, option_map, if◌then◌else◌, refl, sym, ap, ◌∙◌, subst, arith, append_assoc, true≢false}
use Rattle.std.specs.Cmp.{IsEquivalence, equiv, both_ways}
use Rattle.std.specs.Char.{is_ascii_digit}
use Rattle.std.specs.Str.Parse.{digits_value}
use Rattle.std.proofs.lemmas.Grind.{common_steps}
use Rattle.std.proofs.lemmas.List.{append-nil}
use Rattle.std.proofs.lemmas.Option.{cond_some, option_and_then_some, same_Some, none-some}
use Rattle.std.proofs.lemmas.Bool.{or_right}
use Rattle.lrs_time.specs.Digits.{IsNumeral, cut_fraction}
use Rattle.lrs_time.specs.Duration.{Amount, is_decimal_sign, IsDecimalPart, IsAmount, billionths, field_text, fields_text, EachAmount, all_missing, FractionIsLast, Fields, date_fields, clock_fields, date_units, clock_units, clock_text, SpellsDuration, Span, span_of, IsNoDuration, IsDurationOf, IsSameSpan, same_span}
use Rattle.lrs_time.specs.Reading.{numeral_at, after, quantity_behind, quantity_at, is_empty, unit_behind, field_at, fields_at, all_none, if_some_field, clock_fields_at, span_from, fields_together, duration_at}
use Rattle.lrs_time.specs.declared.durations.Quantity.{Quantity}
use Rattle.lrs_time.specs.declared.durations.TheConstants.{BILLION}
use Rattle.lrs_time.proofs.DigitLemmas.{numeral_found, numeral_again}
use Rattle.lrs_time.proofs.TimestampLemmas.{after_found, after_again}

-- ---- sameness

same_true : (a b : Span) → same_span a b ≡ true → IsSameSpan a b
same_true a b h = record {
  years = grind (arith, common_steps);
  months = grind (arith, common_steps);
  weeks = grind (arith, common_steps);
  days = grind (arith, common_steps);
  hours = grind (arith, common_steps);
  minutes = grind (arith, common_steps);
  seconds = grind (arith, common_steps);
}

true_same : (a b : Span) → IsSameSpan a b → same_span a b ≡ true
true_same a b h = grind (arith, common_steps)

turned : (a b : Span) → IsSameSpan a b → IsSameSpan b a
turned a b h = record { years = sym h.years; months = sym h.months; weeks = sym h.weeks; days = sym h.days; hours = sym h.hours; minutes = sym h.minutes; seconds = sym h.seconds }

joined : (a b c : Span) → IsSameSpan a b → IsSameSpan b c → IsSameSpan a c
joined a b c h k = record { years = h.years ∙ k.years; months = h.months ∙ k.months; weeks = h.weeks ∙ k.weeks; days = h.days ∙ k.days; hours = h.hours ∙ k.hours; minutes = h.minutes ∙ k.minutes; seconds = h.seconds ∙ k.seconds }

pub same_span_equivalence : IsEquivalence same_span
same_span_equivalence =
    equiv (record {
      symm = λ a b. both_ways (same_span a b) (same_span b a) (λ e. true_same b a (turned a b (same_true a b e))) (λ e. true_same a b (turned b a (same_true b a e)));
      trans = λ a b c e f. true_same a c (joined a b c (same_true a b e) (same_true b c f));
    }) (λ a. true_same a a (record { years = refl; months = refl; weeks = refl; days = refl; hours = refl; minutes = refl; seconds = refl }))

-- ---- a number

-- the number of an amount, and whether it has no fraction
abbrev pub quantity_of : Amount → Quantity
quantity_of a = record { billionths = billionths a; is_whole = is_empty a.fraction }

-- the bytes are an amount, and those after it
abbrev IsQuantityFront : List ℕ → Quantity × List ℕ → Type 0
IsQuantityFront text q = (a : Amount) × IsAmount a × (quantity_of a ≡ q.0) × (text ≡ a.digits ++ (a.fraction ++ q.1))

whole_quantity : (text ds rest : List ℕ) → IsNumeral 9 ds → text ≡ ds ++ rest → IsQuantityFront text (record { billionths = digits_value 10 ds * BILLION; is_whole = true }, rest)
whole_quantity text ds rest n t =
    let none : digits_value 10 ds * BILLION + 0 ≡ digits_value 10 ds * BILLION = omega arith in
    (record { digits = ds; fraction = [] }, record { digits = n; fraction = tt }, ap (λ (b : ℕ). record { billionths = b; is_whole = true }) none, t)

behind_at : (text ds : List ℕ) (byte : ℕ) (rest : List ℕ) (q : Quantity × List ℕ) (t : Bool) → is_decimal_sign byte ≡ t → IsNumeral 9 ds → text ≡ ds ++ (byte ∷ rest) → (if t then option_and_then (λ (digits : List ℕ × List ℕ). Some (record { billionths = digits_value 10 ds * BILLION + cut_fraction 9 digits.0; is_whole = false }, digits.1)) (numeral_at 9 rest) else Some (record { billionths = digits_value 10 ds * BILLION; is_whole = true }, byte ∷ rest)) ≡ Some q → IsQuantityFront text q
behind_at text ds byte rest q true sign n t e =
    option_and_then_some _ (numeral_at 9 rest) q e (λ more is e.
    let f = numeral_found 9 rest more is in
    subst (IsQuantityFront text) (same_Some _ _ e) (record { digits = ds; fraction = byte ∷ more.0 }, record { digits = n; fraction = (sign, f.0) }, refl, t ∙ ap (λ z. ds ++ (byte ∷ z)) f.1))
behind_at text ds byte rest q false sign n t e = subst (IsQuantityFront text) (same_Some _ _ e) (whole_quantity text ds (byte ∷ rest) n t)

behind_found : (text ds rest : List ℕ) (q : Quantity × List ℕ) → IsNumeral 9 ds → text ≡ ds ++ rest → quantity_behind (digits_value 10 ds * BILLION) rest ≡ Some q → IsQuantityFront text q
unfolding quantity_behind
behind_found text ds [] q n t e = subst (IsQuantityFront text) (same_Some _ _ e) (whole_quantity text ds [] n t)
behind_found text ds (byte ∷ rest) q n t e = behind_at text ds byte rest q (is_decimal_sign byte) refl n t e

pub quantity_found : (text : List ℕ) (q : Quantity × List ℕ) → quantity_at text ≡ Some q → IsQuantityFront text q
unfolding quantity_at
quantity_found text q e =
    option_and_then_some _ (numeral_at 9 text) q e (λ ds is e.
    let f = numeral_found 9 text ds is in
    behind_found text ds.0 ds.1 q f.0 f.1 e)

-- a byte that ends an amount: no digit and no decimal sign
abbrev pub IsUnit : ℕ → Type 0
IsUnit unit = (is_ascii_digit unit ≡ false) × (is_decimal_sign unit ≡ false)

sign_no_digit : (byte : ℕ) → is_decimal_sign byte ≡ true → is_ascii_digit byte ≡ false
sign_no_digit byte h = grind arith

again_at : (ds fs : List ℕ) (unit : ℕ) (rest : List ℕ) → IsNumeral 9 ds → IsDecimalPart fs → IsUnit unit → quantity_at (ds ++ (fs ++ (unit ∷ rest))) ≡ Some (record { billionths = digits_value 10 ds * BILLION + cut_fraction 9 (drop 1 fs); is_whole = is_empty fs }, unit ∷ rest)
unfolding quantity_at quantity_behind
again_at ds [] unit rest n f u =
    let none : digits_value 10 ds * BILLION + 0 ≡ digits_value 10 ds * BILLION = omega arith in
    rw (numeral_again 9 ds (unit ∷ rest) n u.0) (rw u.1 (rw none refl))
again_at ds (byte ∷ more) unit rest n f u =
    rw (numeral_again 9 ds (byte ∷ (more ++ (unit ∷ rest))) n (sign_no_digit byte f.0)) (rw f.0 (rw (numeral_again 9 more (unit ∷ rest) f.1 u.0) refl))

-- an amount in front of its unit is found again
pub quantity_again : (a : Amount) (unit : ℕ) (rest : List ℕ) → IsAmount a → IsUnit unit → quantity_at (a.digits ++ (a.fraction ++ (unit ∷ rest))) ≡ Some (quantity_of a, unit ∷ rest)
quantity_again a unit rest h u = again_at a.digits a.fraction unit rest h.digits h.fraction u

-- ---- a field

-- what a reader knows of a field
abbrev pub value_of : Option Amount → Option ℕ
value_of f = option_map billionths f

abbrev pub IsField : Option Amount → Type 0
IsField None = Unit {0}
IsField (Some a) = IsAmount a

-- no fraction, or nothing after it
abbrev pub EndsFraction : Option Amount → List ℕ → Type 0
EndsFraction None rest = Unit {0}
EndsFraction (Some a) rest = (a.fraction ≡ []) ⊎ (rest ≡ [])

abbrev IsFieldFront : ℕ → List ℕ → Option ℕ × List ℕ → Type 0
IsFieldFront unit text r =
    (f : Option Amount) × IsField f × (value_of f ≡ r.0) × (text ≡ field_text unit f ++ r.1) × EndsFraction f r.1

no_field : (unit : ℕ) (text : List ℕ) → IsFieldFront unit text (None, text)
no_field unit text = (None, tt, refl, refl, tt)

empty_true : (xs : List ℕ) → is_empty xs ≡ true → xs ≡ []
empty_true [] e = refl
empty_true (x ∷ xs) e = absurd (true≢false (sym e))

ends_at : (fs rest : List ℕ) → (is_empty fs || is_empty rest) ≡ true → (fs ≡ []) ⊎ (rest ≡ [])
ends_at [] rest e = inl refl
ends_at (b ∷ fs) rest e = inr (empty_true rest e)

regroup : (a : Amount) (unit : ℕ) (rest : List ℕ) → a.digits ++ (a.fraction ++ (unit ∷ rest)) ≡ (a.digits ++ (a.fraction ++ (unit ∷ []))) ++ rest
regroup a unit rest = sym (append_assoc a.digits (a.fraction ++ (unit ∷ [])) rest ∙ ap (λ z. a.digits ++ z) (append_assoc a.fraction (unit ∷ []) rest))

letter_at : (unit : ℕ) (text : List ℕ) (a : Amount) (letter : ℕ) (rest : List ℕ) (t : Bool) → ((letter == unit) && (is_empty a.fraction || is_empty rest)) ≡ t → IsAmount a → text ≡ a.digits ++ (a.fraction ++ (letter ∷ rest)) → IsFieldFront unit text (if t then (Some (billionths a), rest) else (None, text))
letter_at unit text a letter rest true t h e =
    let same : letter ≡ unit = grind (arith, common_steps) in
    let ends : (is_empty a.fraction || is_empty rest) ≡ true = grind (arith, common_steps) in
    (Some a, h, refl, e ∙ ap (λ z. a.digits ++ (a.fraction ++ (z ∷ rest))) same ∙ regroup a unit rest, ends_at a.fraction rest ends)
letter_at unit text a letter rest false t h e = no_field unit text

field_of : (unit : ℕ) (text : List ℕ) (q : Option (Quantity × List ℕ)) → quantity_at text ≡ q → IsFieldFront unit text (unit_behind unit text q)
field_of unit text None e = no_field unit text
field_of unit text (Some (q, [])) e = no_field unit text
field_of unit text (Some (q, letter ∷ rest)) e =
    let f = quantity_found text (q, letter ∷ rest) e in
    subst (λ (q : Quantity). IsFieldFront unit text (unit_behind unit text (Some (q, letter ∷ rest)))) f.2 (letter_at unit text f.0 letter rest ((letter == unit) && (is_empty f.0.fraction || is_empty rest)) refl f.1 f.3)

field_found : (unit : ℕ) (text : List ℕ) → IsFieldFront unit text (field_at unit text)
unfolding field_at
field_found unit text = field_of unit text (quantity_at text) refl

-- ---- fields in a row

-- no fraction but in the last of the fields, with nothing after it
abbrev pub EndsFractions : List (Option Amount) → List ℕ → Type 0
EndsFractions [] rest = Unit {0}
EndsFractions (None ∷ fs) rest = EndsFractions fs rest
EndsFractions (Some a ∷ fs) rest = ((a.fraction ≡ []) ⊎ (IsTrue (all_missing fs) × (rest ≡ []))) × EndsFractions fs rest

abbrev pub values : List (Option Amount) → List (Option ℕ)
values [] = []
values (f ∷ fs) = value_of f ∷ values fs

abbrev pub IsFieldsFront : List ℕ → List ℕ → List (Option ℕ) × List ℕ → Type 0
IsFieldsFront units text r =
    (fs : List (Option Amount)) × (length fs ≡ length units) × EachAmount fs × (values fs ≡ r.0) × (text ≡ fields_text units fs ++ r.1) × EndsFractions fs r.1

nonempty : (xs : List ℕ) (x : ℕ) (ys : List ℕ) → xs ++ (x ∷ ys) ≡ [] → ⊥
nonempty [] x ys e = cc e
nonempty (z ∷ xs) x ys e = cc e

some_text : (a : Amount) (unit : ℕ) (rest : List ℕ) → (a.digits ++ (a.fraction ++ (unit ∷ []))) ++ rest ≡ [] → ⊥
some_text a unit rest e =
    nonempty (a.digits ++ a.fraction) unit rest (append_assoc a.digits a.fraction (unit ∷ rest) ∙ regroup a unit rest ∙ e)

-- where nothing stands, no field does
nothing_left : (units : List ℕ) (fs : List (Option Amount)) (rest : List ℕ) → length fs ≡ length units → fields_text units fs ++ rest ≡ [] → IsTrue (all_missing fs) × (rest ≡ [])
nothing_left [] [] rest l e = (refl, e)
nothing_left [] (f ∷ fs) rest l e = absurd (omega arith)
nothing_left (unit ∷ units) [] rest l e = absurd (omega arith)
nothing_left (unit ∷ units) (None ∷ fs) rest l e = nothing_left units fs rest (omega arith) e
nothing_left (unit ∷ units) (Some a ∷ fs) rest l e = absurd (some_text a unit (fields_text units fs ++ rest) (sym (append_assoc (field_text unit (Some a)) (fields_text units fs) rest) ∙ e))

add_field : (unit : ℕ) (units : List ℕ) (text : List ℕ) (f : Option Amount) (fs : List (Option Amount)) (r1 rest : List ℕ) → IsField f → EndsFraction f r1 → length fs ≡ length units → EachAmount fs → r1 ≡ fields_text units fs ++ rest → EndsFractions fs rest → EachAmount (f ∷ fs) × EndsFractions (f ∷ fs) rest
add_field unit units text None fs r1 rest h ends l each e later = (each, later)
add_field unit units text (Some a) fs r1 rest h (inl whole) l each e later = ((h, each), (inl whole, later))
add_field unit units text (Some a) fs r1 rest h (inr last) l each e later = ((h, each), (inr (nothing_left units fs rest l (sym e ∙ last)), later))

fields_found : (units text : List ℕ) → IsFieldsFront units text (fields_at units text)
fields_found [] text = ([], refl, tt, refl, refl, tt)
fields_found (unit ∷ units) text =
    let f = field_found unit text in
    let fs = fields_found units (field_at unit text).1 in
    let both = add_field unit units text f.0 fs.0 (field_at unit text).1 (fields_at units (field_at unit text).1).1 f.1 f.4 fs.1 fs.2 fs.4 fs.5 in
    (f.0 ∷ fs.0, omega (arith, fs.1), both.0, cc (f.2, fs.3), f.3 ∙ ap (λ z. field_text unit f.0 ++ z) fs.4 ∙ sym (append_assoc (field_text unit f.0) (fields_text units fs.0) (fields_at units (field_at unit text).1).1), both.1)

-- ---- fields that stand are found, and those that don't aren't

-- the text doesn't begin with a field of this unit
abbrev pub Avoids : ℕ → List ℕ → Type 0
Avoids unit text =
    (numeral_at 9 text ≡ None) ⊎ ((a : Amount) × (letter : ℕ) × (rest : List ℕ) × IsAmount a × IsUnit letter × ((letter == unit) ≡ false) × (text ≡ a.digits ++ (a.fraction ++ (letter ∷ rest))))

missing_again : (unit : ℕ) (text : List ℕ) → Avoids unit text → field_at unit text ≡ (None, text)
unfolding field_at quantity_at
missing_again unit text (inl none) = rw none refl
missing_again unit text (inr other) =
    let found : quantity_at text ≡ Some (quantity_of other.0, other.1 ∷ other.2) = ap quantity_at other.6 ∙ quantity_again other.0 other.1 other.2 other.3 other.4 in
    ap (unit_behind unit text) found ∙ rw other.5 refl

ends_test : (a : Amount) (rest : List ℕ) → (a.fraction ≡ []) ⊎ (rest ≡ []) → (is_empty a.fraction || is_empty rest) ≡ true
ends_test a rest (inl e) = rw e refl
ends_test a rest (inr e) = or_right (is_empty a.fraction) (is_empty rest) (ap is_empty e)

same_byte : (unit : ℕ) → (unit == unit) ≡ true
same_byte unit = grind (arith, common_steps)

field_again : (unit : ℕ) (a : Amount) (rest : List ℕ) → IsUnit unit → IsAmount a → (a.fraction ≡ []) ⊎ (rest ≡ []) → field_at unit (field_text unit (Some a) ++ rest) ≡ (Some (billionths a), rest)
unfolding field_at
field_again unit a rest u h ends =
    ap (field_at unit) (sym (regroup a unit rest)) ∙ ap (unit_behind unit (a.digits ++ (a.fraction ++ (unit ∷ rest)))) (quantity_again a unit rest h u) ∙ rw (same_byte unit, ends_test a rest ends) refl

-- the units are bytes that end an amount, none of them this one
abbrev pub AreOthers : ℕ → List ℕ → Type 0
AreOthers unit [] = Unit {0}
AreOthers unit (other ∷ others) = IsUnit other × ((other == unit) ≡ false) × AreOthers unit others

-- the units are different bytes that end an amount
abbrev pub AreUnits : List ℕ → Type 0
AreUnits [] = Unit {0}
AreUnits (unit ∷ units) = IsUnit unit × AreOthers unit units × AreUnits units

avoids : (unit : ℕ) (units : List ℕ) (fs : List (Option Amount)) (rest : List ℕ) → AreOthers unit units → EachAmount fs → numeral_at 9 rest ≡ None → Avoids unit (fields_text units fs ++ rest)
avoids unit [] fs rest o each none = inl none
avoids unit (other ∷ others) [] rest o each none = inl none
avoids unit (other ∷ others) (None ∷ fs) rest o each none = avoids unit others fs rest o.2 each none
avoids unit (other ∷ others) (Some a ∷ fs) rest o each none =
    inr (a, other, fields_text others fs ++ rest, each.0, o.0, o.1, append_assoc (field_text other (Some a)) (fields_text others fs) rest ∙ sym (regroup a other (fields_text others fs ++ rest)))

missing_text : (units : List ℕ) (fs : List (Option Amount)) → IsTrue (all_missing fs) → fields_text units fs ≡ []
missing_text [] fs h = refl
missing_text (unit ∷ units) [] h = refl
missing_text (unit ∷ units) (None ∷ fs) h = missing_text units fs h
missing_text (unit ∷ units) (Some a ∷ fs) h = absurd (true≢false (sym h))

ends_here : (units : List ℕ) (a : Amount) (fs : List (Option Amount)) (rest : List ℕ) → (a.fraction ≡ []) ⊎ (IsTrue (all_missing fs) × (rest ≡ [])) → (a.fraction ≡ []) ⊎ (fields_text units fs ++ rest ≡ [])
ends_here units a fs rest (inl e) = inl e
ends_here units a fs rest (inr e) = inr (rw (missing_text units fs e.0) e.1)

pub fields_again : (units : List ℕ) (fs : List (Option Amount)) (rest : List ℕ) → AreUnits units → length fs ≡ length units → EachAmount fs → EndsFractions fs rest → numeral_at 9 rest ≡ None → fields_at units (fields_text units fs ++ rest) ≡ (values fs, rest)
fields_again [] [] rest u l each ends none = refl
fields_again [] (f ∷ fs) rest u l each ends none = absurd (omega arith)
fields_again (unit ∷ units) [] rest u l each ends none = absurd (omega arith)
fields_again (unit ∷ units) (None ∷ fs) rest u l each ends none =
    rw (missing_again unit (fields_text units fs ++ rest) (avoids unit units fs rest u.1 each none), fields_again units fs rest u.2 (omega arith) each ends none) refl
fields_again (unit ∷ units) (Some a ∷ fs) rest u l each ends none =
    let here = field_again unit a (fields_text units fs ++ rest) u.0 each.0 (ends_here units a fs rest ends.0) in
    rw (append_assoc (field_text unit (Some a)) (fields_text units fs) rest, here, fields_again units fs rest u.2 (omega arith) each.1 ends.1 none) refl

-- ---- the fields after a `T`

all_none-values : (fs : List (Option Amount)) → all_none (values fs) ≡ all_missing fs
all_none-values [] = refl
all_none-values (None ∷ fs) = all_none-values fs
all_none-values (Some a ∷ fs) = refl

abbrev IsTimeFront : List ℕ → List (Option ℕ) × List ℕ → Type 0
IsTimeFront text r =
    (fs : List (Option Amount)) × (length fs ≡ 3) × EachAmount fs × (values fs ≡ r.0) × (text ≡ clock_text fs ++ r.1) × EndsFractions fs r.1

no_time : (text : List ℕ) → IsTimeFront text (None ∷ None ∷ None ∷ [], text)
no_time text = (None ∷ None ∷ None ∷ [], refl, tt, refl, refl, tt)

time_stands : (rest : List ℕ) (r : List (Option ℕ) × List ℕ) (t : Bool) → IsFieldsFront clock_units rest r → all_none r.0 ≡ t → t ≡ false → IsTimeFront (84 ∷ rest) r
time_stands rest r t f e no_t =
    let stands : all_missing f.0 ≡ false = sym (all_none-values f.0) ∙ ap all_none f.3 ∙ e ∙ no_t in
    (f.0, f.1, f.2, f.3, rw stands (ap (λ z. 84 ∷ z) f.4), f.5)

some_field_is : (rest : List ℕ) (fields r : List (Option ℕ) × List ℕ) (t : Bool) → all_none fields.0 ≡ t → IsFieldsFront clock_units rest fields → (if t then None else Some fields) ≡ Some r → IsTimeFront (84 ∷ rest) r
some_field_is rest fields r true t f e = cc e
some_field_is rest fields r false t f e = subst (IsTimeFront (84 ∷ rest)) (same_Some _ _ e) (time_stands rest fields false f t refl)

time_at : (byte : ℕ) (rest : List ℕ) (r : List (Option ℕ) × List ℕ) (t : Bool) → (byte == 84) ≡ t → (if t then if_some_field (fields_at clock_units rest) else Some (None ∷ None ∷ None ∷ [], byte ∷ rest)) ≡ Some r → IsTimeFront (byte ∷ rest) r
time_at byte rest r true t e =
    let is_t : byte ≡ 84 = grind (arith, common_steps) in
    rw is_t (some_field_is rest (fields_at clock_units rest) r (all_none (fields_at clock_units rest).0) refl (fields_found clock_units rest) e)
time_at byte rest r false t e = subst (IsTimeFront (byte ∷ rest)) (same_Some _ _ e) (no_time (byte ∷ rest))

time_found : (text : List ℕ) (r : List (Option ℕ) × List ℕ) → clock_fields_at text ≡ Some r → IsTimeFront text r
unfolding clock_fields_at
time_found [] r e = subst (IsTimeFront []) (same_Some _ _ e) (no_time [])
time_found (byte ∷ rest) r e = time_at byte rest r (byte == 84) refl e

three : (fs : List (Option Amount)) → length fs ≡ 3 → (a b c : Option Amount) × (fs ≡ a ∷ b ∷ c ∷ [])
three [] e = absurd (omega arith)
three (a ∷ []) e = absurd (omega arith)
three (a ∷ b ∷ []) e = absurd (omega arith)
three (a ∷ b ∷ c ∷ []) e = (a, b, c, refl)
three (a ∷ b ∷ c ∷ d ∷ fs) e = absurd (omega arith)

four : (fs : List (Option Amount)) → length fs ≡ 4 → (a b c d : Option Amount) × (fs ≡ a ∷ b ∷ c ∷ d ∷ [])
four [] e = absurd (omega arith)
four (a ∷ []) e = absurd (omega arith)
four (a ∷ b ∷ []) e = absurd (omega arith)
four (a ∷ b ∷ c ∷ []) e = absurd (omega arith)
four (a ∷ b ∷ c ∷ d ∷ []) e = (a, b, c, d, refl)
four (a ∷ b ∷ c ∷ d ∷ f ∷ fs) e = absurd (omega arith)

all_three_missing : (a b c : Option Amount) → all_missing (a ∷ b ∷ c ∷ []) ≡ true → ◌≡◌ {A = List (Option ℕ)} (values (a ∷ b ∷ c ∷ [])) (None ∷ None ∷ None ∷ [])
all_three_missing None None None e = refl
all_three_missing None None (Some c) e = absurd (true≢false (sym e))
all_three_missing None (Some b) c e = absurd (true≢false (sym e))
all_three_missing (Some a) b c e = absurd (true≢false (sym e))

nothing_at : numeral_at 9 [] ≡ None
unfolding numeral_at
nothing_at = refl

no_numeral_t : (rest : List ℕ) → numeral_at 9 (84 ∷ rest) ≡ None
unfolding numeral_at
no_numeral_t rest = refl

time_again_at : (a b c : Option Amount) (t : Bool) → all_missing (a ∷ b ∷ c ∷ []) ≡ t → EachAmount (a ∷ b ∷ c ∷ []) → EndsFractions (a ∷ b ∷ c ∷ []) [] → clock_fields_at (if t then [] else 84 ∷ fields_text clock_units (a ∷ b ∷ c ∷ [])) ≡ Some (values (a ∷ b ∷ c ∷ []), [])
unfolding clock_fields_at
time_again_at a b c true t each ends = rw (all_three_missing a b c t) refl
time_again_at a b c false t each ends =
    let units : AreUnits clock_units = ((refl, refl), ((refl, refl), refl, ((refl, refl), refl, tt)), ((refl, refl), ((refl, refl), refl, tt), ((refl, refl), tt, tt))) in
    let whole : fields_text clock_units (a ∷ b ∷ c ∷ []) ++ [] ≡ fields_text clock_units (a ∷ b ∷ c ∷ []) = append-nil (fields_text clock_units (a ∷ b ∷ c ∷ [])) in
    let found = fields_again clock_units (a ∷ b ∷ c ∷ []) [] units refl each ends nothing_at in
    let read : fields_at clock_units (fields_text clock_units (a ∷ b ∷ c ∷ [])) ≡ (values (a ∷ b ∷ c ∷ []), []) = ap (fields_at clock_units) (sym whole) ∙ found in
    ap if_some_field read ∙ rw (all_none-values (a ∷ b ∷ c ∷ []) ∙ t) refl

time_again : (a b c : Option Amount) → EachAmount (a ∷ b ∷ c ∷ []) → EndsFractions (a ∷ b ∷ c ∷ []) [] → clock_fields_at (clock_text (a ∷ b ∷ c ∷ [])) ≡ Some (values (a ∷ b ∷ c ∷ []), [])
time_again a b c each ends = time_again_at a b c (all_missing (a ∷ b ∷ c ∷ [])) refl each ends

no_numeral_at : (fs : List (Option Amount)) (t : Bool) → numeral_at 9 (if t then [] else 84 ∷ fields_text clock_units fs) ≡ None
no_numeral_at fs true = nothing_at
no_numeral_at fs false = no_numeral_t (fields_text clock_units fs)

-- ---- all fields together

EachAmount-append : (ds cs : List (Option Amount)) → EachAmount ds → EachAmount cs → EachAmount (ds ++ cs)
EachAmount-append [] cs x y = y
EachAmount-append (None ∷ ds) cs x y = EachAmount-append ds cs x y
EachAmount-append (Some a ∷ ds) cs x y = (x.0, EachAmount-append ds cs x.1 y)

EachAmount-parts : (ds cs : List (Option Amount)) → EachAmount (ds ++ cs) → EachAmount ds × EachAmount cs
EachAmount-parts [] cs x = (tt, x)
EachAmount-parts (None ∷ ds) cs x = EachAmount-parts ds cs x
EachAmount-parts (Some a ∷ ds) cs x = let p = EachAmount-parts ds cs x.1 in ((x.0, p.0), p.1)

all_missing-append : (ds cs : List (Option Amount)) → IsTrue (all_missing ds) → IsTrue (all_missing cs) → IsTrue (all_missing (ds ++ cs))
all_missing-append [] cs x y = y
all_missing-append (None ∷ ds) cs x y = all_missing-append ds cs x y
all_missing-append (Some a ∷ ds) cs x y = absurd (true≢false (sym x))

all_missing-parts : (ds cs : List (Option Amount)) → IsTrue (all_missing (ds ++ cs)) → IsTrue (all_missing ds) × IsTrue (all_missing cs)
all_missing-parts [] cs x = (refl, x)
all_missing-parts (None ∷ ds) cs x = all_missing-parts ds cs x
all_missing-parts (Some a ∷ ds) cs x = absurd (true≢false (sym x))

no_time_text : (cs : List (Option Amount)) (t : Bool) → all_missing cs ≡ t → ◌≡◌ {A = List ℕ} (if t then [] else 84 ∷ fields_text clock_units cs) [] → IsTrue (all_missing cs)
no_time_text cs true t e = t
no_time_text cs false t e = cc e

last_append : (ds cs : List (Option Amount)) → EndsFractions ds (clock_text cs) → FractionIsLast cs → FractionIsLast (ds ++ cs)
last_append [] cs x y = y
last_append (None ∷ ds) cs x y = last_append ds cs x y
last_append (Some a ∷ ds) cs (inl e, x) y = (inl e, last_append ds cs x y)
last_append (Some a ∷ ds) cs (inr e, x) y = (inr (all_missing-append ds cs e.0 (no_time_text cs (all_missing cs) refl e.1)), last_append ds cs x y)

last_ends : (cs : List (Option Amount)) (rest : List ℕ) → EndsFractions cs rest → FractionIsLast cs
last_ends [] rest x = tt
last_ends (None ∷ cs) rest x = last_ends cs rest x
last_ends (Some a ∷ cs) rest (inl e, x) = (inl e, last_ends cs rest x)
last_ends (Some a ∷ cs) rest (inr e, x) = (inr e.0, last_ends cs rest x)

ends_last : (cs : List (Option Amount)) → FractionIsLast cs → EndsFractions cs []
ends_last [] x = tt
ends_last (None ∷ cs) x = ends_last cs x
ends_last (Some a ∷ cs) (inl e, x) = (inl e, ends_last cs x)
ends_last (Some a ∷ cs) (inr e, x) = (inr (e, refl), ends_last cs x)

last_parts : (ds cs : List (Option Amount)) → FractionIsLast (ds ++ cs) → EndsFractions ds (clock_text cs) × FractionIsLast cs
last_parts [] cs x = (tt, x)
last_parts (None ∷ ds) cs x = last_parts ds cs x
last_parts (Some a ∷ ds) cs (inl e, x) = let p = last_parts ds cs x in ((inl e, p.0), p.1)
last_parts (Some a ∷ ds) cs (inr e, x) =
    let p = last_parts ds cs x in
    let m = all_missing-parts ds cs e in
    let none : clock_text cs ≡ [] = rw m.1 refl in
    ((inr (m.0, none), p.0), p.1)

all_none-append : (ds cs : List (Option Amount)) → all_none (values ds ++ values cs) ≡ all_missing (ds ++ cs)
all_none-append [] cs = all_none-values cs
all_none-append (None ∷ ds) cs = all_none-append ds cs
all_none-append (Some a ∷ ds) cs = refl

-- ---- the whole text

whole_is : (text : List ℕ) (y m w d h n s : Option Amount) → let ds = y ∷ m ∷ w ∷ d ∷ [] in let cs = h ∷ n ∷ s ∷ [] in EachAmount ds → EachAmount cs → text ≡ 80 ∷ (fields_text date_units ds ++ clock_text cs) → EndsFractions ds (clock_text cs) → EndsFractions cs [] → all_none (values ds ++ values cs) ≡ false → IsDurationOf text (span_from (values ds) (values cs))
whole_is text y m w d h n s a b e p q some =
    let ds = y ∷ m ∷ w ∷ d ∷ [] in
    let cs = h ∷ n ∷ s ∷ [] in
    let parts : Fields = record { years = y; months = m; weeks = w; days = d; hours = h; minutes = n; seconds = s } in
    (parts, record { fields = record { amounts = EachAmount-append ds cs a b; some = sym (all_none-append ds cs) ∙ some; fraction = last_append ds cs p (last_ends cs [] q) }; spelling = e }, refl)

lists_are : (text : List ℕ) (ds cs : List (Option Amount)) → length ds ≡ 4 → length cs ≡ 3 → EachAmount ds → EachAmount cs → text ≡ 80 ∷ (fields_text date_units ds ++ clock_text cs) → EndsFractions ds (clock_text cs) → EndsFractions cs [] → all_none (values ds ++ values cs) ≡ false → IsDurationOf text (span_from (values ds) (values cs))
lists_are text ds cs l k =
    let f = four ds l in
    let g = three cs k in
    let Goal : List (Option Amount) → List (Option Amount) → Type 0 = λ ds cs. EachAmount ds → EachAmount cs → text ≡ 80 ∷ (fields_text date_units ds ++ clock_text cs) → EndsFractions ds (clock_text cs) → EndsFractions cs [] → all_none (values ds ++ values cs) ≡ false → IsDurationOf text (span_from (values ds) (values cs)) in
    subst (λ (ds : List (Option Amount)). Goal ds cs) (sym f.4) (subst (Goal (f.0 ∷ f.1 ∷ f.2 ∷ f.3 ∷ [])) (sym g.3) (whole_is text f.0 f.1 f.2 f.3 g.0 g.1 g.2))

together_is : (text rest : List ℕ) (date clock : List (Option ℕ) × List ℕ) (span : Span) → text ≡ 80 ∷ rest → IsFieldsFront date_units rest date → IsTimeFront date.1 clock → fields_together date.0 clock ≡ Some span → IsDurationOf text span
together_is text rest date clock span t d c e =
    let g = cond_some (is_empty clock.1 && not (all_none (date.0 ++ clock.0))) (span_from date.0 clock.0) span e in
    let last : is_empty clock.1 ≡ true = grind arith in
    let some : all_none (date.0 ++ clock.0) ≡ false = grind arith in
    let nothing = empty_true clock.1 last in
    let time : date.1 ≡ clock_text c.0 = c.4 ∙ ap (λ z. clock_text c.0 ++ z) nothing ∙ append-nil (clock_text c.0) in
    let spelled : text ≡ 80 ∷ (fields_text date_units d.0 ++ clock_text c.0) = cc (t, d.4, time) in
    let ends : EndsFractions d.0 (clock_text c.0) = subst (EndsFractions d.0) time d.5 in
    let ends' : EndsFractions c.0 [] = subst (EndsFractions c.0) nothing c.5 in
    let stands : all_none (values d.0 ++ values c.0) ≡ false = rw (d.3, c.3) some in
    subst (IsDurationOf text) (ap (λ z. span_from z (values c.0)) d.3 ∙ ap (span_from date.0) c.3 ∙ g.1) (lists_are text d.0 c.0 d.1 c.1 d.2 c.2 spelled ends ends' stands)

pub duration_found : (text : List ℕ) (span : Span) → duration_at text ≡ Some span → IsDurationOf text span
unfolding duration_at
duration_found text span e =
    option_and_then_some _ (after 80 text) span e (λ rest is-rest e.
    option_and_then_some _ (clock_fields_at (fields_at date_units rest).1) span e (λ clock is-clock e.
    together_is text rest (fields_at date_units rest) clock span (after_found 80 text rest is-rest) (fields_found date_units rest) (time_found (fields_at date_units rest).1 clock is-clock) e))

pub duration_again : (text : List ℕ) (d : Fields) → SpellsDuration text d → duration_at text ≡ Some (span_of d)
unfolding duration_at
duration_again text d h =
    let ds = date_fields d in
    let cs = clock_fields d in
    let each = EachAmount-parts ds cs h.fields.amounts in
    let last = last_parts ds cs h.fields.fraction in
    let units : AreUnits date_units = ((refl, refl), ((refl, refl), refl, ((refl, refl), refl, ((refl, refl), refl, tt))), ((refl, refl), ((refl, refl), refl, ((refl, refl), refl, tt)), ((refl, refl), ((refl, refl), refl, tt), ((refl, refl), tt, tt)))) in
    let date : fields_at date_units (fields_text date_units ds ++ clock_text cs) ≡ (values ds, clock_text cs) = fields_again date_units ds (clock_text cs) units refl each.0 last.0 (no_numeral_at cs (all_missing cs)) in
    let time : clock_fields_at (clock_text cs) ≡ Some (values cs, []) = time_again d.hours d.minutes d.seconds each.1 (ends_last cs last.1) in
    let some : all_none (values ds ++ values cs) ≡ false = all_none-append ds cs ∙ h.fields.some in
    let body = λ (date : List (Option ℕ) × List ℕ). option_and_then (λ (clock : List (Option ℕ) × List ℕ). fields_together date.0 clock) (clock_fields_at date.1) in
    let end : fields_together (values ds) (values cs, []) ≡ Some (span_of d) = rw some refl in
    ap duration_at h.spelling ∙ rw (after_again 80 (fields_text date_units ds ++ clock_text cs)) (ap body date ∙ ap (option_and_then (λ (clock : List (Option ℕ) × List ℕ). fields_together (values ds) clock)) time ∙ end)

-- ---- the clauses of the reader

none_at : (o : Option Span) → ((span : Span) → o ≡ Some span → ⊥) → is_some o ≡ false
none_at None h = refl
none_at (Some span) h = absurd (h span refl)

some_at : (o : Option Span) (span : Span) → is_some o ≡ false → o ≡ Some span → ⊥
some_at None span e f = none-some span f
some_at (Some s) span e f = true≢false e

pub none_iff : (text : List ℕ) (r : Option Span) → r ≡ duration_at text → IsNone r ↔ IsNoDuration text
none_iff text r e = (
  λ none d h. some_at r (span_of d) none (e ∙ duration_again text d h),
  λ none. none_at r (λ span f. let found = duration_found text span (sym e ∙ f) in none found.0 found.1),
)

pub some_iff : (text : List ℕ) (r : Option Span) → r ≡ duration_at text → (span : Span) → (r ≡ Some span) ↔ IsDurationOf text span
some_iff text r e span =
    (λ f. duration_found text span (sym e ∙ f), λ h. e ∙ duration_again text h.0 h.1 ∙ ap Some h.2)
