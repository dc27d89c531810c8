-- How long written forms are at most.
use Rattle.std.proofs.Common.{◌≤◌, ◌+◌, ◌*◌, ℕ, List, [], ◌∷◌, Bool, true, false, length, arith, length-append}
use Rattle.std.specs.Prelude.{nat_lt, if◌then◌else◌, ◌==◌}
use Rattle.std.specs.List.{flat_map}
use Rattle.lrs_json.specs.Written.{escaped, list_text, object_text, quoted}
use Rattle.lrs_json.specs.declared.tree.Member.{Member}
use Rattle.lrs_json.specs.declared.tree.Tree.{Tree}

-- ---- of texts

either : (c : Bool) (x y : List ℕ) → length x ≤ 6 → length y ≤ 6 → length (if c then x else y) ≤ 6
either true x y first second = first
either false x y first second = second

-- a byte is written as six at most
escaped_short : (b : ℕ) → length (escaped b) ≤ 6
unfolding escaped
escaped_short b =
    either (b == 34) _ _ (omega arith)
    (either (b == 92) _ _ (omega arith)
    (either (b == 8) _ _ (omega arith)
    (either (b == 9) _ _ (omega arith)
    (either (b == 10) _ _ (omega arith)
    (either (b == 12) _ _ (omega arith)
    (either (b == 13) _ _ (omega arith)
    (either (nat_lt b 32) _ _ (omega arith) (omega arith))))))))

all_short : (text : List ℕ) → length (flat_map escaped text) ≤ 6 * length text
all_short [] = omega arith
all_short (b ∷ text) = omega (arith, length-append (escaped b) (flat_map escaped text), escaped_short b, all_short text)

pub quoted_short : (text : List ℕ) → length (quoted text) ≤ 2 + 6 * length text
quoted_short text = omega (arith, length-append (flat_map escaped text) (34 ∷ []), all_short text)

-- ---- of lists and objects

-- a comma in front only makes them longer
pub list_longer : (ts : List Tree) → length (list_text false ts) ≤ length (list_text true ts)
list_longer [] = omega arith
list_longer (t ∷ ts) = omega arith

pub object_longer : (ms : List Member) → length (object_text false ms) ≤ length (object_text true ms)
object_longer [] = omega arith
object_longer (m ∷ ms) = omega arith
