-- Where a byte first stands in a text.
use Rattle.std.proofs.Common.{◌≡◌, ℕ, ◌<◌, ◌==◌, true, false, List, length, get_or, arith}
use Rattle.std.specs.List.{list_any, position_or_len}
use Rattle.std.proofs.lemmas.Bool.Decides.{nat_tests}
use Rattle.std.proofs.lemmas.List.Elements.{All-from_get_or}
use Rattle.std.proofs.lemmas.List.Folds.{list_any_none}
use Rattle.std.proofs.lemmas.List.Sums.{position_or_len_is}

pub other : (c b : ℕ) → (b ≡ c → ⊥) → (b == c) ≡ false
other c b differs = grind (arith, nat_tests)

same : (c b : ℕ) → b ≡ c → (b == c) ≡ true
same c b e = grind (arith, nat_tests)

pub position_at : (c : ℕ) (bs : List ℕ) (k : ℕ) → k < length bs → get_or bs k 0 ≡ c → ((i : ℕ) → i < k → get_or bs i 0 ≡ c → ⊥) → position_or_len (λ b. b == c) bs ≡ k
position_at c bs k within at before =
    position_or_len_is (λ b. b == c) bs k 0 (omega arith) (λ i below. other c (get_or bs i 0) (before i below)) (λ below. same c (get_or bs k 0) at)

pub position_none : (c : ℕ) (bs : List ℕ) → ((i : ℕ) → i < length bs → get_or bs i 0 ≡ c → ⊥) → position_or_len (λ b. b == c) bs ≡ length bs
position_none c bs never =
    position_or_len_is (λ b. b == c) bs (length bs) 0 (omega arith) (λ i below. other c (get_or bs i 0) (never i below)) (λ below. absurd (omega arith))

pub none_stands : (c : ℕ) (bs : List ℕ) → ((i : ℕ) → i < length bs → get_or bs i 0 ≡ c → ⊥) → list_any (λ b. b == c) bs ≡ false
none_stands c bs never =
    list_any_none (λ b. b == c) bs (All-from_get_or (λ (b : ℕ). (b == c) ≡ false) bs 0 (λ i below. other c (get_or bs i 0) (never i below)))
