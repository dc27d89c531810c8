-- What is left of a text without the white space round it.
use Rattle.std.proofs.Common.{◌≡◌, ℕ, ◌-◌, List, length, take, drop, min, sym, ap, ◌∙◌, arith, ⊎_elim, length-drop, rules}
use Rattle.std.specs.Prelude.{Bool, IsTrue, ◌↔◌, ◌&&◌, map}
use Rattle.std.specs.List.{list_all}
use Rattle.std.specs.Str.{str_eq_ignore_ascii_case, bytes_eq}
use Rattle.std.specs.Char.{to_ascii_lowercase}
use Rattle.std.proofs.lemmas.Slice.Eq.{bytes_eq-Decides}
use Rattle.std.proofs.lemmas.Bool.{cases_lt}
use Rattle.std.proofs.lemmas.List.{take_all, drop_all}
use Rattle.httparse.specs.Grammar.{skip_ows, is_ows}
use Rattle.lrs_media.specs.Media.{trims_to}

-- the comparison of names in any case, as a test
pub named_is : (r : Bool) (a b : List ℕ) → (IsTrue r ↔ (map to_ascii_lowercase a ≡ map to_ascii_lowercase b)) → r ≡ str_eq_ignore_ascii_case a b
named_is r a b same = test (map to_ascii_lowercase a) (map to_ascii_lowercase b) same
  where
    test : (xs ys : List ℕ) → (IsTrue r ↔ (xs ≡ ys)) → r ≡ bytes_eq xs ys
    test xs ys h = search (rules, bytes_eq-Decides)

-- the rest of a text as a slice
pub rest_of : (done : ℕ) (text : List ℕ) → take (length text - done) (drop done text) ≡ drop done text
rest_of done text = take_all _ _ (omega (arith, length-drop done text))

pub take_min : (n m : ℕ) (xs : List ℕ) → m ≡ min (length xs) n → take m xs ≡ take n xs
take_min n m xs is = ⊎_elim
    (λ small. take_all m xs (omega arith) ∙ sym (take_all n xs (omega arith)))
    (λ large. let same : m ≡ n = omega arith in ap (λ k. take k xs) same)
    (cases_lt (length xs) n)

pub drop_min : (n m : ℕ) (xs : List ℕ) → m ≡ min (length xs) n → drop m xs ≡ drop n xs
drop_min n m xs is = ⊎_elim
    (λ small. drop_all m xs (omega arith) ∙ sym (drop_all n xs (omega arith)))
    (λ large. let same : m ≡ n = omega arith in ap (λ k. drop k xs) same)
    (cases_lt (length xs) n)

pub trimmed_is : (text word rest front : List ℕ) (end : ℕ) (r : Bool) → rest ≡ skip_ows text → end ≡ min (length rest) (length word) → front ≡ take end rest
    → (IsTrue r ↔ (map to_ascii_lowercase front ≡ map to_ascii_lowercase word)) → (r && list_all is_ows (drop end rest)) ≡ trims_to text word
unfolding trims_to
trimmed_is text word rest front end r is bound part same =
    let n = length word in
    let fronts : take end rest ≡ take n rest = take_min n end rest bound in
    let backs : drop end rest ≡ drop n rest = drop_min n end rest bound in
    let test : r ≡ str_eq_ignore_ascii_case front word = named_is r front word same in
    let front_is : front ≡ take n (skip_ows text) = part ∙ fronts ∙ ap (take n) is in
    ap (λ (b : Bool). b && list_all is_ows (drop end rest)) test
    ∙ ap (λ (l : List ℕ). str_eq_ignore_ascii_case l word && list_all is_ows (drop end rest)) front_is
    ∙ ap (λ (l : List ℕ). str_eq_ignore_ascii_case (take n (skip_ows text)) word && list_all is_ows l) (backs ∙ ap (drop n) is)
