-- A text whose bytes are known and below 128 is ASCII, and so UTF-8: `IsUtf8-small _ refl`.
use Rattle.std.proofs.Common.{◌≡◌, ◌<◌, ℕ, List, [], ◌∷◌, Bool, true, ◌&&◌, nat_lt, IsAscii, IsUtf8, arith}
use Rattle.std.proofs.lemmas.Bool.{and_parts}
use Rattle.std.proofs.lemmas.Bool.Decides.{nat_tests}
use Rattle.std.proofs.lemmas.Str.{IsUtf8-from_ascii}
use Rattle.std.proofs.lemmas.Str.Ascii.{IsAscii-cons, IsAscii-nil}

abbrev pub are_small : List ℕ → Bool
are_small [] = true
are_small (b ∷ bs) = nat_lt b 128 && are_small bs

pub IsAscii-small : (bs : List ℕ) → are_small bs ≡ true → IsAscii bs
IsAscii-small [] h = IsAscii-nil
IsAscii-small (b ∷ bs) h =
    let parts = and_parts (nat_lt b 128) (are_small bs) h in
    let small : b < 128 = let test = parts.0 in grind (arith, nat_tests) in
    IsAscii-cons b bs small (IsAscii-small bs parts.1)

pub IsUtf8-small : (bs : List ℕ) → are_small bs ≡ true → IsUtf8 bs
IsUtf8-small bs h = IsUtf8-from_ascii bs (IsAscii-small bs h)
