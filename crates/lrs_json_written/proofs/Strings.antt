-- A string whose bytes each stand for themselves, and one that was compared with its written form.
use Rattle.std.proofs.Common.{◌≡◌, ℕ, List, [], ◌∷◌, ◌++◌, take, drop, true, false, Option, Some, None, IsUtf8, refl, sym, ap, ◌∙◌, subst, arith, append_assoc}
use Rattle.std.proofs.lemmas.Grind.{common_steps}
use Rattle.std.proofs.lemmas.List.{take-append-drop}
use Rattle.std.specs.List.{flat_map, prefix_len}
use Rattle.std.specs.Option.{option_copied}
use denote.Ref.{Bor}
use Rattle.lrs_decimal.specs.Numbers.{Each}
use Rattle.lrs_decimal.proofs.Runs.{Each-run}
use Rattle.lrs_json.specs.Behind.{left_behind}
use Rattle.lrs_json.specs.Written.{escaped, is_plain, quoted}
use Rattle.lrs_json.proofs.Behind.{is_something_else, left_is, none_behind}
use Rattle.lrs_json_reader.specs.Grammar.{Quoted}
use Rattle.lrs_json_reader.proofs.WrittenLemmas.{quoted-Quoted}

escaped_plain : (b : ℕ) → is_plain b ≡ true → escaped b ≡ b ∷ []
unfolding escaped
escaped_plain b p = grind (arith, common_steps)

run_plain : (run : List ℕ) → Each is_plain run → flat_map escaped run ≡ run
run_plain [] each = refl
run_plain (b ∷ run) each = rw (escaped_plain b each.0) (ap (λ z. b ∷ z) (run_plain run each.1))

-- what is left behind a beginning makes the bytes whole
pub comes : (word bytes : List ℕ) (r : Option (Bor (List ℕ))) (x : Bor (List ℕ)) → option_copied r ≡ left_behind word bytes → r ≡ Some x → bytes ≡ word ++ x.now
comes word bytes r x left is = left_is word bytes x.now (sym left ∙ ap option_copied is)

-- bytes that stand for themselves, between quotes
pub plain_quoted : (bytes inside text rest left : List ℕ) (n : ℕ) → n ≡ prefix_len is_plain inside → text ≡ take n inside → rest ≡ drop n inside → bytes ≡ (34 ∷ []) ++ inside → rest ≡ (34 ∷ []) ++ left → bytes ≡ quoted text ++ left
plain_quoted bytes inside text rest left n is front back opened closed =
    let plain : Each is_plain text = subst (Each is_plain) (sym (front ∙ ap (λ m. take m inside) is)) (Each-run is_plain inside) in
    let whole : inside ≡ text ++ rest = sym (take-append-drop n inside) ∙ ap (λ z. z ++ drop n inside) (sym front) ∙ ap (λ z. text ++ z) (sym back) in
    opened
    ∙ ap (λ z. 34 ∷ z) (whole ∙ ap (λ z. text ++ z) closed ∙ sym (append_assoc text (34 ∷ []) left) ∙ ap (λ z. (z ++ 34 ∷ []) ++ left) (sym (run_plain text plain)))

-- a text that stands there is not missed
pub not_missed : (word rest bytes : List ℕ) (r : Option (Bor (List ℕ))) → option_copied r ≡ left_behind word bytes → r ≡ None → bytes ≡ word ++ rest → ⊥
not_missed word rest bytes r left none e =
    let nothing : None ≡ left_behind (word ++ rest) bytes = sym (none_behind word rest bytes r left none) in
    let no : false ≡ true = (is_something_else (word ++ rest) bytes None nothing refl).1 (sym e) in cc no

pub quoted_at : (t bytes rest : List ℕ) → IsUtf8 t → bytes ≡ quoted t ++ rest → Quoted t bytes rest
quoted_at t bytes rest u e = subst (λ z. Quoted t z rest) (sym e) (quoted-Quoted t rest u)
