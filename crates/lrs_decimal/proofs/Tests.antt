-- What `Decimal::of` says of a spelling, as a test.
use Rattle.std.proofs.Common.{◌≡◌, ℕ, List, [], ◌∷◌, Bool, true, Option, Some, None, refl, sym, ap, ◌∙◌}
use Rattle.std.proofs.Common.{subst}
use Rattle.std.proofs.lemmas.Bool.{and_from}
use Rattle.std.specs.Prelude.{IsTrue, ◌↔◌}
use Rattle.std.proofs.lemmas.List.{append-nil}
use Rattle.std.specs.Cmp.{both_ways, first_so, second_so}
use Rattle.lrs_decimal.specs.Numbers.{IsNumber, number_end}
use Rattle.lrs_decimal.specs.Range.{is_decimal, is_end, is_in_range}
use Rattle.lrs_decimal.proofs.NumberLemmas.{number_again, number_found}

at_end : (o : Option (List ℕ)) → is_end o ≡ true → o ≡ Some []
at_end None e = cc
at_end (Some []) e = refl
at_end (Some (b ∷ bs)) e = cc

pub decimal-is : (s : List ℕ) → IsNumber s → IsTrue (is_in_range s) → is_decimal s ≡ true
unfolding is_decimal
decimal-is s n r =
    let e : number_end s ≡ Some [] = ap number_end (sym (append-nil s)) ∙ number_again s [] n tt in
    and_from (is_end (number_end s)) (is_in_range s) (ap is_end e) r

pub decimal-back : (s : List ℕ) → is_decimal s ≡ true → IsNumber s × IsTrue (is_in_range s)
unfolding is_decimal
decimal-back s e =
    let w = at_end (number_end s) (first_so (is_end (number_end s)) (is_in_range s) e) in
    let f = number_found s [] w in
    (subst IsNumber (sym (f.1 ∙ append-nil f.0)) f.2, second_so (is_end (number_end s)) (is_in_range s) e)

-- the test that `of` makes
pub decimal-test : (s : List ℕ) (found : Bool) → IsTrue found ↔ (IsNumber s × IsTrue (is_in_range s))
    → found ≡ is_decimal s
decimal-test s found iff = both_ways found (is_decimal s) (λ e. let p = iff.0 e in decimal-is s p.0 p.1)
    (λ e. iff.1 (decimal-back s e))
