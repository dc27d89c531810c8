-- How long what is written of the parts of a made statement is at most: of a string six bytes for each of its own.
use Rattle.std.proofs.Common.{◌≡◌, ℕ, suc, ◌+◌, ◌*◌, ◌≤◌, Bool, true, false, List, ◌∷◌, ◌++◌, length, refl, arith, length-append}
use Rattle.std.specs.Prelude.{nat_le}
use Rattle.std.proofs.lemmas.Bool.Decides.{nat_tests}
use Rattle.lrs_json.specs.Json.{Json, object, string, Members, no_members, member}
use Rattle.lrs_json.specs.Written.{comma_if, members_text, quoted, written}
use Rattle.xapi_statement.proofs.Sizes.{quoted_short}

-- by counting
pub within : (n : ℕ) (xs : List ℕ) → nat_le (length xs) n ≡ true → length xs ≤ n
within n xs e = grind (arith, nat_tests)

-- ---- strings

quoted_under : (text : List ℕ) (n : ℕ) → length text ≤ n → length (quoted text) ≤ 6 * n + 2
quoted_under text n few = omega (arith, quoted_short text, few)

pub string_short : (text : List ℕ) → length text ≤ 50 → length (written (string text)) ≤ 302
string_short text few = quoted_under text 50 few

-- ---- objects

comma_short : (later : Bool) → length (comma_if later) ≤ 1
comma_short true = omega arith
comma_short false = omega arith

pub end_short : length (members_text true no_members) ≤ 1
end_short = omega arith

-- a member whose name has at most ten bytes, with what stands behind it
pub member_short : (later : Bool) (name : List ℕ) (j : Json) (ms : Members) (b c : ℕ) → length name ≤ 10 → length (written j) ≤ b → length (members_text true ms) ≤ c
    → length (members_text later (member name j ms)) ≤ b + c + 64
member_short later name j ms b c few short rest =
    let front : length (comma_if later) ≤ 1 = comma_short later in
    let named : length (quoted name) ≤ 62 = quoted_under name 10 few in
    let begun : List ℕ = comma_if later ++ quoted name in
    let first : length begun ≡ length (comma_if later) + length (quoted name) = length-append (comma_if later) (quoted name) in
    let whole : length (begun ++ 58 ∷ written j) ≡ length begun + suc (length (written j)) = length-append begun (58 ∷ written j) in
    let all : length (members_text later (member name j ms)) ≡ length (begun ++ 58 ∷ written j) + length (members_text true ms) = length-append (begun ++ 58 ∷ written j) (members_text true ms) in
    omega arith

pub object_short : (ms : Members) (c : ℕ) → length (members_text false ms) ≤ c → length (written (object ms)) ≤ c + 1
object_short ms c short =
    let whole : length (written (object ms)) ≡ suc (length (members_text false ms)) = refl in
    omega arith
