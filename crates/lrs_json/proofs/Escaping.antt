-- The escapes of a run of bytes that stand for themselves, and of the byte after it.
use Rattle.std.proofs.Common.{◌≡◌, ℕ, ◌+◌, ◌-◌, ◌≤◌, ◌&&◌, length, suc, drop-drop, length-drop, zero, List, [], ◌∷◌, ◌++◌, take, drop, Bool, true, false, refl, sym, ap, ◌∙◌, subst, arith, append_assoc}
use Rattle.std.proofs.lemmas.Grind.{common_steps}
use Rattle.std.specs.List.{flat_map, list_all, prefix_len}
use Rattle.lrs_json.specs.Written.{is_plain}
use Rattle.lrs_json.specs.Written.{escaped}

escaped_plain : (b : ℕ) → is_plain b ≡ true → escaped b ≡ b ∷ []
unfolding escaped
escaped_plain b p = grind (arith, common_steps)

abbrev Splits : List ℕ → Type 0
Splits bs = flat_map escaped bs ≡ take (prefix_len is_plain bs) bs ++ flat_map escaped (drop (prefix_len is_plain bs) bs)

splits_next : (b : ℕ) (bs : List ℕ) (plain : Bool) → is_plain b ≡ plain → Splits bs → Splits (b ∷ bs)
splits_next b bs true p s = let one : 1 + prefix_len is_plain bs ≡ suc (prefix_len is_plain bs) = omega arith in rw (p, escaped_plain b p, one) (ap (λ z. b ∷ z) s)
splits_next b bs false p s = rw (p) refl

-- a plain run at the front is its own escaped form
splits : (bs : List ℕ) → Splits bs
splits [] = refl
splits (b ∷ bs) = splits_next b bs (is_plain b) refl (splits bs)

pub run_put : (old bytes run behind mid : List ℕ) (n : ℕ) → n ≡ prefix_len is_plain bytes → run ≡ take n bytes → behind ≡ drop n bytes → mid ≡ old ++ run → mid ++ flat_map escaped behind ≡ old ++ flat_map escaped bytes
run_put old bytes run behind mid n is is_run is_behind put =
    rw (put, append_assoc old run (flat_map escaped behind), is_run, is_behind, is) (ap (λ z. old ++ z) (sym (splits bytes)))

pub byte_put : (mid behind new left : List ℕ) (b : ℕ) → behind ≡ b ∷ left → new ≡ mid ++ escaped b → new ++ flat_map escaped left ≡ mid ++ flat_map escaped behind
byte_put mid behind new left b is put = rw (put, is) (append_assoc mid (escaped b) (flat_map escaped left))

abbrev PassedBy : ℕ → List ℕ → Type 0
PassedBy n ys = prefix_len is_plain ys ≡ n + prefix_len is_plain (drop n ys)

passed_next : (n b : ℕ) (ys : List ℕ) (plain : Bool) → is_plain b ≡ plain → (list_all is_plain (take n ys) ≡ true → PassedBy n ys) → (plain && list_all is_plain (take n ys)) ≡ true → PassedBy (suc n) (b ∷ ys)
passed_next n b ys true p rest all = rw (p, rest all) (omega arith)
passed_next n b ys false p rest all = grind (arith, common_steps)

-- a block of bytes that all stand for themselves belongs to the run
pub passed_by : (n : ℕ) (ys : List ℕ) → n ≤ length ys → list_all is_plain (take n ys) ≡ true → PassedBy n ys
passed_by zero ys long all = omega arith
passed_by (suc n) [] long all = omega arith
passed_by (suc n) (b ∷ ys) long all = passed_next n b ys (is_plain b) refl (passed_by n ys (omega arith)) all

-- and so does one that begins behind a run
pub block_passed : (bytes : List ℕ) (at n : ℕ) → PassedBy at bytes → n ≤ length bytes - at → (tested : Bool) → tested ≡ list_all is_plain (take (at + n - at) (drop at bytes)) → tested ≡ true → PassedBy (at + n) bytes
block_passed bytes at n before long tested is holds =
    let fits : n ≤ length (drop at bytes) = rw (length-drop at bytes) long in
    let wide : at + n - at ≡ n = omega arith in
    let all : list_all is_plain (take n (drop at bytes)) ≡ true = subst (λ m. list_all is_plain (take m (drop at bytes)) ≡ true) wide (sym is ∙ holds) in
    let more = passed_by n (drop at bytes) fits all in
    rw (before, more, drop-drop n at bytes) (omega arith)

-- the run at the front, and what is behind it
pub run_behind : (text run rest : List ℕ) (n : ℕ) → n ≡ prefix_len is_plain text → run ≡ take n text → rest ≡ drop n text → run ++ flat_map escaped rest ≡ flat_map escaped text
run_behind text run rest n is is_run is_rest = rw (is_run, is_rest, is) (sym (splits text))
