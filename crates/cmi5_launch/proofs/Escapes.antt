-- The set that escapes the values of an address is the one in words.
use Rattle.std.proofs.Common.{◌≡◌, ℕ, ◌<◌, Bool, true, false, not, List, [], ◌∷◌, refl}
use Rattle.std.specs.Prelude.{All, if◌then◌else◌}
use Rattle.std.proofs.lemmas.Bool.{agree_below, agree_below_at}
use Rattle.std.proofs.lemmas.List.Elements.{All-head, All-tail}
use Rattle.percent_encoding.specs.AsciiSet.{should_percent_encode}
use Rattle.percent_encoding.specs.Percent.{percent_encode, percent_encode_byte}
use Rattle.cmi5_launch.specs.declared.pairs.TheConstants.{ESCAPED}
use Rattle.cmi5_launch.specs.Addresses.{is_unreserved, escaped}

agrees : agree_below (should_percent_encode ESCAPED) (λ b. not (is_unreserved b)) 256 ≡ true
unfolding should_percent_encode
agrees = refl

by_test : (p q : Bool) (x y : List ℕ) → p ≡ not q → if◌then◌else◌ p x y ≡ if◌then◌else◌ q y x
by_test p true x y e = rw e refl
by_test p false x y e = rw e refl

pub percent_encode-is : (text : List ℕ) → All (λ b. b < 256) text → percent_encode ESCAPED text ≡ escaped text
unfolding percent_encode escaped
percent_encode-is [] small = refl
percent_encode-is (b ∷ text) small =
    let one = by_test (should_percent_encode ESCAPED b) (is_unreserved b) (percent_encode_byte b) (b ∷ [])
    (agree_below_at (should_percent_encode ESCAPED) (λ c. not (is_unreserved c)) 256 b agrees (All-head (λ (c : ℕ). c < 256) b text small)) in
    let more = percent_encode-is text (All-tail (λ (c : ℕ). c < 256) b text small) in
    rw (one, more) refl
