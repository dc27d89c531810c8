-- Where bytes stop inside a target, and how many fields a head of a bounded length can have.
use Rattle.std.proofs.Common.{◌≡◌, ℕ, ◌+◌, ◌*◌, ◌<◌, ◌≤◌, Bool, true, false, cond, List, [], ◌∷◌, ◌++◌, length, refl, sym, ap, ◌∙◌, subst, arith, append_assoc, append-nil, inl, inr, length-append}
use Rattle.std.specs.Prelude.{All, IsTrue, ◌==◌, ◌&&◌}
use Rattle.std.proofs.lemmas.Bool.{cases_Bool, false≢true, and_parts, and_from}
use Rattle.std.proofs.lemmas.Bool.Decides.{nat_tests}
use Rattle.std.proofs.lemmas.List.Elements.{All-head, All-tail, All-cons, All-nil}
use Rattle.std.proofs.lemmas.List.Sums.{AllPass-from_list_all, list_all-from_AllPass}
use Rattle.std.specs.List.{list_all, flat_map}
use Rattle.httparse.specs.Grammar.{is_token_byte, is_uri_byte, AllPass, IsToken, LineEnd, crlf, lf, print_end, print_blank, print_version, Field, IsField, print_field, ReadsRequest, HasNoRequest, NeverHasRequest, MayBecomeRequest, EndsInTarget}
use Rattle.httparse.specs.Spans.{RequestExceeds}
use Rattle.httparse.proofs.GrammarLemmas.{print_request-append}
use Rattle.httparse.proofs.PieceLemmas.{space_ends_token, token_is_no_newline}
use Rattle.std.proofs.lemmas.List.Folds.{list_all-append}
use Rattle.lrs_http.specs.Reach.{reaches, method_reaches}

pub token_then_target : (method target : List ℕ) → AllPass is_token_byte method → AllPass is_uri_byte target
    → method_reaches false (method ++ 32 ∷ target) ≡ true
token_then_target [] target m t =
    let all = list_all-from_AllPass is_uri_byte target t in
    rw space_ends_token all
token_then_target (b ∷ method) target m t =
    let first : is_token_byte b ≡ true = All-head (λ (x : ℕ). IsTrue (is_token_byte x)) b method m in
    let rest = token_then_target method target (All-tail (λ (x : ℕ). IsTrue (is_token_byte x)) b method m) t in
    rw first rest

token_no_lf : (b : ℕ) → is_token_byte b ≡ true → (b == 10) ≡ false
token_no_lf b t = let n = token_is_no_newline b t in grind (arith, nat_tests)

token_no_cr : (b : ℕ) → is_token_byte b ≡ true → (b == 13) ≡ false
token_no_cr b t = let n = token_is_no_newline b t in grind (arith, nat_tests)

begins : (method target : List ℕ) → IsToken method → AllPass is_uri_byte target → reaches false false (method ++ 32 ∷ target) ≡ true
begins [] target m t = let h : 0 < 0 = m.0 in absurd (omega arith)
begins (a ∷ method) target m t =
    let ta : is_token_byte a ≡ true = All-head (λ (x : ℕ). IsTrue (is_token_byte x)) a method m.1 in
    let more = token_then_target method target (All-tail (λ (x : ℕ). IsTrue (is_token_byte x)) a method m.1) t in
    let lf_ = token_no_lf a ta in
    let cr = token_no_cr a ta in
    rw (lf_, cr, ta) more

after_blank : (blank : List LineEnd) (w : List ℕ) → reaches false false w ≡ true → reaches false false (print_blank blank ++ w) ≡ true
after_blank [] w e = e
after_blank (crlf ∷ rest) w e = after_blank rest w e
after_blank (lf ∷ rest) w e = after_blank rest w e

pub stops_complete : (w : List ℕ) → EndsInTarget w → reaches false false w ≡ true
stops_complete w (blank, method, target, m, t, e) =
    let known = after_blank blank (method ++ 32 ∷ target) (begins method target m t) in
    rw (e, append_assoc (print_blank blank) method (32 ∷ target)) known

pub method_reaches_sound : (w : List ℕ) → method_reaches false w ≡ true
    → (method : List ℕ) × (target : List ℕ) × AllPass is_token_byte method × AllPass is_uri_byte target × (w ≡ method ++ 32 ∷ target)
method_reaches_sound [] e = absurd (false≢true e)
method_reaches_sound (b ∷ rest) e = elim (cases_Bool (is_token_byte b)) [
  | inl t ↦
      let more = method_reaches_sound rest (rw t at e) in
      (b ∷ more.0, more.1, All-cons (λ (x : ℕ). IsTrue (is_token_byte x)) b more.0 t more.2, more.3, ap (λ (xs : List ℕ). b ∷ xs) more.4)
  | inr f ↦
      let known : ((b == 32) && list_all is_uri_byte rest) ≡ true = rw f at e in
      let parts = and_parts (b == 32) (list_all is_uri_byte rest) known in
      let space : b ≡ 32 = grind (arith, nat_tests, parts.0) in
      ([], rest, All-nil (λ (x : ℕ). IsTrue (is_token_byte x)), AllPass-from_list_all is_uri_byte rest parts.1, ap (λ (x : ℕ). x ∷ rest) space)
]

end_length : (e : LineEnd) → 1 ≤ length (print_end e)
end_length crlf = omega arith
end_length lf = omega arith

field_length : (f : Field) → 0 < length f.name → 3 ≤ length (print_field f)
field_length f name =
    let ending = end_length f.end in
    let one = length-append (f.name ++ 58 ∷ f.raw) (print_end f.end) in
    let two = length-append f.name (58 ∷ f.raw) in
    let three : length (58 ∷ f.raw) ≡ 1 + length f.raw = omega arith in
    omega (arith, ending, one, two, three, name)

pub fields_length : (fields : List Field) → All IsField fields → 3 * length fields ≤ length (flat_map print_field fields)
fields_length [] all = omega arith
fields_length (f ∷ fs) all =
    let more = fields_length fs (All-tail IsField f fs all) in
    let here : IsField f = All-head IsField f fs all in
    let long = field_length f here.name.0 in
    let split : length (flat_map print_field (f ∷ fs)) ≡ length (print_field f) + length (flat_map print_field fs) = length-append (print_field f) (flat_map print_field fs) in
    omega (arith, split, more, long)

-- a part of a text is no longer than the text
part_length : (a b c d e f g : List ℕ) (h last : List ℕ) → length (a ++ (b ++ 32 ∷ (c ++ 32 ∷ (d ++ (e ++ ((f ++ last) ++ [])))))) ≡ length g + length h → length f ≤ length g + length h
part_length a b c d e f g h last w = grind (arith, length-append)

pub no_excess : (w : List ℕ) (room : ℕ) → length w ≤ 16384 → 5462 ≤ room → RequestExceeds room w → ⊥
no_excess w room short wide (front, rest, e, h, r, over) =
    let all : All IsField h.fields = r.0.fields in
    let enough = fields_length h.fields all in
    let whole : length w ≡ length front + length rest = ap (λ (xs : List ℕ). length xs) e ∙ length-append front rest in
    let ended : length (front ++ print_end lf) ≡ length front + 1 = length-append front (print_end lf) in
    let printed = ap (λ (xs : List ℕ). length xs) (r.1 ∙ print_request-append h []) in
    let part : length (flat_map print_field h.fields) ≤ length front + 1 =
    part_length (print_blank h.blank) h.method h.target (print_version h.minor) (print_end h.line_end) (flat_map print_field h.fields) front (print_end lf) (print_end h.last) (sym printed ∙ ended) in
    omega (arith, enough, whole, part, short, over, wide)

pub never : (w : List ℕ) → NeverHasRequest w → HasNoRequest w
never w n h rest r = let same : ReadsRequest (w ++ []) h rest = rw (append-nil w) r in n [] h rest same

pub unmade : (w : List ℕ) → NeverHasRequest w → reaches false false w ≡ false → ¬ (MayBecomeRequest w)
unmade w n f may = elim may [
  | inl x ↦ n x.0 x.1 [] x.2
  | inr x ↦ false≢true (sym f ∙ stops_complete w x)
]

-- one more line end before bytes that stop in a target
sooner : (end : LineEnd) (w : List ℕ) → EndsInTarget w → EndsInTarget (print_end end ++ w)
sooner crlf w (blank, method, target, m, t, e) = (crlf ∷ blank, method, target, m, t, ap (λ (xs : List ℕ). 13 ∷ 10 ∷ xs) e)
sooner lf w (blank, method, target, m, t, e) = (lf ∷ blank, method, target, m, t, ap (λ (xs : List ℕ). 10 ∷ xs) e)

abbrev before : Bool → List ℕ → List ℕ
before true w = 13 ∷ w
before false w = w

at_lf : (returned : Bool) (w : List ℕ) → EndsInTarget w → EndsInTarget (before returned (10 ∷ w))
at_lf true w h = sooner crlf w h
at_lf false w h = sooner lf w h

at_method : (a : ℕ) (w : List ℕ) → (is_token_byte a && method_reaches false w) ≡ true → EndsInTarget (a ∷ w)
at_method a w e =
    let parts = and_parts (is_token_byte a) (method_reaches false w) e in
    let more = method_reaches_sound w parts.1 in
    let one : 0 < length (a ∷ more.0) = omega arith in
    ([], a ∷ more.0, more.1, (one, All-cons (λ (x : ℕ). IsTrue (is_token_byte x)) a more.0 parts.0 more.2), more.3, ap (λ (xs : List ℕ). a ∷ xs) more.4)

after_no_lf : (a : ℕ) (rest : List ℕ) (returned : Bool) → (reaches false true rest ≡ true → EndsInTarget (13 ∷ rest))
    → cond returned false (cond (a == 13) (reaches false true rest) (is_token_byte a && method_reaches false rest)) ≡ true → EndsInTarget (before returned (a ∷ rest))
after_no_lf a rest true deeper x = absurd (false≢true x)
after_no_lf a rest false deeper x = elim (cases_Bool (a == 13)) [
  | inl is ↦
      let cr : a ≡ 13 = grind (arith, nat_tests, is) in
      let deep = deeper (rw is at x) in
      rw cr deep
  | inr not ↦ at_method a rest (rw not at x)
]

sound : (w : List ℕ) (returned : Bool) → reaches false returned w ≡ true → EndsInTarget (before returned w)
sound [] returned e = absurd (false≢true e)
sound (a ∷ rest) returned e = elim (cases_Bool (a == 10)) [
  | inl is ↦
      let ten : a ≡ 10 = grind (arith, nat_tests, is) in
      let deep = sound rest false (rw is at e) in
      rw ten (at_lf returned rest deep)
  | inr not ↦ after_no_lf a rest returned (sound rest true) (rw not at e)
]

pub stops_sound : (w : List ℕ) → reaches false false w ≡ true → EndsInTarget w
stops_sound w e = sound w false e

-- ---- what is dead stays dead

front_passes : (w more : List ℕ) → list_all is_uri_byte (w ++ more) ≡ true → list_all is_uri_byte w ≡ true
front_passes w more e = (and_parts (list_all is_uri_byte w) (list_all is_uri_byte more) (sym (list_all-append is_uri_byte w more) ∙ e)).0

method_front : (w more : List ℕ) → method_reaches false (w ++ more) ≡ true → method_reaches true w ≡ true
method_front [] more e = refl
method_front (b ∷ w) more e = elim (cases_Bool (is_token_byte b)) [
  | inl is ↦ let deep = method_front w more (rw is at e) in rw is deep
  | inr not ↦
      let known : ((b == 32) && list_all is_uri_byte (w ++ more)) ≡ true = rw not at e in
      let parts = and_parts (b == 32) (list_all is_uri_byte (w ++ more)) known in
      let both = and_from (b == 32) (list_all is_uri_byte w) parts.0 (front_passes w more parts.1) in
      rw not both
]

no_lf_front : (a : ℕ) (w more : List ℕ) (returned : Bool) → (reaches false true (w ++ more) ≡ true → reaches true true w ≡ true)
    → cond returned false (cond (a == 13) (reaches false true (w ++ more)) (is_token_byte a && method_reaches false (w ++ more))) ≡ true
    → cond returned false (cond (a == 13) (reaches true true w) (is_token_byte a && method_reaches true w)) ≡ true
no_lf_front a w more true deeper e = absurd (false≢true e)
no_lf_front a w more false deeper e = elim (cases_Bool (a == 13)) [
  | inl is ↦ let deep = deeper (rw is at e) in rw is deep
  | inr not ↦
      let known : (is_token_byte a && method_reaches false (w ++ more)) ≡ true = rw not at e in
      let parts = and_parts (is_token_byte a) (method_reaches false (w ++ more)) known in
      let both = and_from (is_token_byte a) (method_reaches true w) parts.0 (method_front w more parts.1) in
      rw not both
]

pub stops_front : (w more : List ℕ) (returned : Bool) → reaches false returned (w ++ more) ≡ true → reaches true returned w ≡ true
stops_front [] more returned e = refl
stops_front (a ∷ w) more returned e = elim (cases_Bool (a == 10)) [
  | inl is ↦ let deep = stops_front w more false (rw is at e) in rw is deep
  | inr not ↦
      let known = no_lf_front a w more returned (stops_front w more true) (rw not at e) in
      rw not known
]

never_more : (w more : List ℕ) → NeverHasRequest w → NeverHasRequest (w ++ more)
never_more w more n further h rest r =
    n (more ++ further) h rest (subst (λ (l : List ℕ). ReadsRequest l h rest) (append_assoc w more further) r)

reaches_more : (w more : List ℕ) → reaches true false w ≡ false → reaches false false (w ++ more) ≡ false
reaches_more w more f = elim (cases_Bool (reaches false false (w ++ more))) [
  | inl is ↦ absurd (false≢true (sym f ∙ stops_front w more false is))
  | inr not ↦ not
]

-- what no bytes make a head, and what ends before no target, stays so
pub unmade_ever : (w : List ℕ) → NeverHasRequest w → reaches true false w ≡ false → (more : List ℕ) → HasNoRequest (w ++ more) × ¬ (MayBecomeRequest (w ++ more))
unmade_ever w n f more =
    let on = never_more w more n in
    (never (w ++ more) on, unmade (w ++ more) on (reaches_more w more f))
