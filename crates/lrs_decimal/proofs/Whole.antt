-- Bytes that are a number from end to end.
use Rattle.std.proofs.Common.{◌≡◌, ℕ, List, [], ◌++◌, length, take, Option, Some, None, true, eqb, IfSome, sym, ap, ◌∙◌, subst, arith}
use Rattle.std.proofs.lemmas.List.{append-nil}
use Rattle.std.proofs.lemmas.Grind.{common_steps}
use Rattle.std.specs.Option.{option_eq}
use Rattle.lrs_decimal.specs.Numbers.{IsNumber, Ends}
use Rattle.lrs_decimal.proofs.Digits.{take_all}

len_same : (n m : ℕ) → eqb n m ≡ true → n ≡ m
len_same n m e = grind (arith, common_steps)

same_len : (n : ℕ) → eqb n n ≡ true
same_len n = grind (arith, common_steps)

pub whole_number : (bs : List ℕ) (r : Option ℕ) → IfSome r (λ n. IsNumber (take n bs)) → option_eq eqb r (Some (length bs)) ≡ true → IsNumber bs
whole_number bs None f e = cc e
whole_number bs (Some n) f e = subst IsNumber (ap (λ k. take k bs) (len_same n (length bs) e) ∙ take_all bs) f

pub number_whole : (bs : List ℕ) (r : Option ℕ) → ((s rest : List ℕ) → bs ≡ s ++ rest → IsNumber s → Ends rest → r ≡ Some (length s)) → IsNumber bs → option_eq eqb r (Some (length bs)) ≡ true
number_whole bs r all n = ap (λ o. option_eq eqb o (Some (length bs))) (all bs [] (sym (append-nil bs)) n tt) ∙ same_len (length bs)
