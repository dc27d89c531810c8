-- The tests of a value agree with what is written in it.
use Rattle.std.proofs.Common.{◌≡◌, ℕ, List, Bool, true, false, Option, Some, None, refl, sym, ap, ◌∙◌, subst}
use Rattle.std.specs.Prelude.{IsTrue, ◌↔◌, ℤ, Result, Ok, Err, is_ok, is_some}
use Rattle.lrs_json.specs.Json.{Json, null, boolean, number, string, array, object}
use Rattle.lrs_time.specs.Duration.{Span, IsDurationOf}
use Rattle.lrs_time.specs.Timestamp.{IsTimestampOf}
use Rattle.lrs_time.specs.declared.timestamps.TimeRefused.{TimeRefused}
use Rattle.lrs_json.specs.LrsDecimalRange.{is_decimal}
use Rattle.lrs_names.specs.Members.{spelling_of}
use Rattle.xapi_values.specs.Numbers.{IsNumberInRange}
use Rattle.xapi_values.specs.Shapes.{IsTimestamp, IsDuration}
use Rattle.lrs_json.specs.LrsDecimalTestsProofs.{decimal-is, decimal-back}

false_true : false ≡ true → ⊥
false_true e = cc

string_same : (a b : List ℕ) → string a ≡ string b → a ≡ b
string_same a b e = cc

number_same : (a b : List ℕ) → number a ≡ number b → a ≡ b
number_same a b e = cc

err_ok : (e : TimeRefused) (i : ℤ) → Err e ≡ Ok i → ⊥
err_ok e i bad = cc

none_some : (s : Span) → None ≡ Some s → ⊥
none_some s bad = cc

timestamp-written : (text : List ℕ) (r : Result ℤ TimeRefused) → ((i : ℤ) → (r ≡ Ok i) ↔ IsTimestampOf text i) → IsTrue (is_ok r) ↔ IsTimestamp (string text)
timestamp-written text (Ok i) f = (λ e. (text, i, refl, (f i).0 refl), λ p. refl)
timestamp-written text (Err x) f =
    (λ e. absurd (false_true e), λ p. absurd (err_ok x p.1 ((f p.1).1 (subst (λ t. IsTimestampOf t p.1) (sym (string_same text p.0 p.2)) p.3))))

duration-written : (text : List ℕ) (r : Option Span) → ((s : Span) → (r ≡ Some s) ↔ IsDurationOf text s) → IsTrue (is_some r) ↔ IsDuration (string text)
duration-written text (Some s) f = (λ e. (text, s, refl, (f s).0 refl), λ p. refl)
duration-written text None f =
    (λ e. absurd (false_true e), λ p. absurd (none_some p.1 ((f p.1).1 (subst (λ t. IsDurationOf t p.1) (sym (string_same text p.0 p.2)) p.3))))

number-written : (s : List ℕ) (found : Bool) → found ≡ is_decimal s → IsTrue found ↔ IsNumberInRange (number s)
number-written s found e = (
  λ t. let b = decimal-back s (sym e ∙ t) in (s, refl, b.0, b.1),
  λ p. e ∙ ap is_decimal (number_same s p.0 p.1) ∙ decimal-is p.0 p.2 p.3,
)

pub timestamp-told : (j : Json) (text bytes : List ℕ) (r : Result ℤ TimeRefused) (found : Bool) → string text ≡ j → bytes ≡ text → found ≡ is_ok r
    → ((i : ℤ) → (r ≡ Ok i) ↔ IsTimestampOf bytes i) → IsTrue found ↔ IsTimestamp j
timestamp-told j text bytes r found at same is f =
    subst (λ z. IsTrue found ↔ IsTimestamp z) (ap string same ∙ at)
    (subst (λ b. IsTrue b ↔ IsTimestamp (string bytes)) (sym is) (timestamp-written bytes r f))

pub duration-told : (j : Json) (text bytes : List ℕ) (r : Option Span) (found : Bool) → string text ≡ j → bytes ≡ text → found ≡ is_some r
    → ((s : Span) → (r ≡ Some s) ↔ IsDurationOf bytes s) → IsTrue found ↔ IsDuration j
duration-told j text bytes r found at same is f =
    subst (λ z. IsTrue found ↔ IsDuration z) (ap string same ∙ at)
    (subst (λ b. IsTrue b ↔ IsDuration (string bytes)) (sym is) (duration-written bytes r f))

some_same : (a b : List ℕ) → Some a ≡ Some b → a ≡ b
some_same a b e = cc

number_of : (j : Json) (s : List ℕ) → Some s ≡ spelling_of j → number s ≡ j
number_of null s e = cc
number_of (boolean b) s e = cc
number_of (number t) s e = ap number (some_same s t e)
number_of (string t) s e = cc
number_of (array js) s e = cc
number_of (object ms) s e = cc

pub number-told : (j : Json) (s : List ℕ) (found : Bool) → Some s ≡ spelling_of j → found ≡ is_decimal s → IsTrue found ↔ IsNumberInRange j
number-told j s found at is = subst (λ z. IsTrue found ↔ IsNumberInRange z) (number_of j s at) (number-written s found is)
