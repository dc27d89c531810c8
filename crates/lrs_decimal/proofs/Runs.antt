-- Runs of bytes at the front of a list.
use Rattle.std.proofs.Common.{◌≡◌, ℕ, suc, ◌+◌, List, [], ◌∷◌, ◌++◌, Bool, true, false, length, take, drop, cond, refl, sym, ap, arith}
use Rattle.std.specs.List.{prefix_len}
use Rattle.std.proofs.lemmas.List.{take-append-drop}
use Rattle.lrs_decimal.specs.Numbers.{Each, Stops}

abbrev pub run : (ℕ → Bool) → List ℕ → List ℕ
run p bs = take (prefix_len p bs) bs

abbrev pub behind : (ℕ → Bool) → List ℕ → List ℕ
behind p bs = drop (prefix_len p bs) bs

Each-run_at : (p : ℕ → Bool) (b : ℕ) (bs : List ℕ) (t : Bool) → p b ≡ t → Each p (run p bs) → Each p (take (cond t (1 + prefix_len p bs) 0) (b ∷ bs))
Each-run_at p b bs true e each = let one : 1 + prefix_len p bs ≡ suc (prefix_len p bs) = omega arith in rw one (e, each)
Each-run_at p b bs false e each = tt

pub Each-run : (p : ℕ → Bool) (bs : List ℕ) → Each p (run p bs)
Each-run p [] = tt
Each-run p (b ∷ bs) = Each-run_at p b bs (p b) refl (Each-run p bs)

Stops-behind_at : (p : ℕ → Bool) (b : ℕ) (bs : List ℕ) (t : Bool) → p b ≡ t → Stops p (behind p bs) → Stops p (drop (cond t (1 + prefix_len p bs) 0) (b ∷ bs))
Stops-behind_at p b bs true e stops = let one : 1 + prefix_len p bs ≡ suc (prefix_len p bs) = omega arith in rw one stops
Stops-behind_at p b bs false e stops = e

pub Stops-behind : (p : ℕ → Bool) (bs : List ℕ) → Stops p (behind p bs)
Stops-behind p [] = tt
Stops-behind p (b ∷ bs) = Stops-behind_at p b bs (p b) refl (Stops-behind p bs)

pub run-behind : (p : ℕ → Bool) (bs : List ℕ) → bs ≡ run p bs ++ behind p bs
run-behind p bs = sym (take-append-drop (prefix_len p bs) bs)

len_stopped : (p : ℕ → Bool) (rest : List ℕ) → Stops p rest → prefix_len p rest ≡ 0
len_stopped p [] stops = refl
len_stopped p (b ∷ bs) stops = rw stops refl

-- a run, and what stops it, are found again
pub len_again : (p : ℕ → Bool) (xs rest : List ℕ) → Each p xs → Stops p rest → prefix_len p (xs ++ rest) ≡ length xs
len_again p [] rest each stops = len_stopped p rest stops
len_again p (x ∷ xs) rest each stops = let passes : p x ≡ true = each.0 in rw (passes, len_again p xs rest each.1 stops) (omega arith)

pub take_front : (xs rest : List ℕ) → take (length xs) (xs ++ rest) ≡ xs
take_front [] rest = refl
take_front (x ∷ xs) rest = ap (λ ys. x ∷ ys) (take_front xs rest)

pub drop_front : (xs rest : List ℕ) → drop (length xs) (xs ++ rest) ≡ rest
drop_front [] rest = refl
drop_front (x ∷ xs) rest = drop_front xs rest

pub run_again : (p : ℕ → Bool) (bs xs rest : List ℕ) → bs ≡ xs ++ rest → Each p xs → Stops p rest → run p bs ≡ xs
run_again p bs xs rest e each stops = rw (e, len_again p xs rest each stops) (take_front xs rest)

pub behind_again : (p : ℕ → Bool) (bs xs rest : List ℕ) → bs ≡ xs ++ rest → Each p xs → Stops p rest → behind p bs ≡ rest
behind_again p bs xs rest e each stops = rw (e, len_again p xs rest each stops) (drop_front xs rest)
