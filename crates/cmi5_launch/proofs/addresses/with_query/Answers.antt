use Rattle.std.proofs.Common.{◌≡◌, ℕ, List, ◌++◌, append_assoc, ap, ◌∙◌}
use Rattle.std.proofs.lemmas.Result.{IfOk-weaker}
use Rattle.cmi5_launch.specs.Addresses.{before_fragment, fragment, joint, with_query}
use Rattle.cmi5_launch.proofs.addresses.with_query.Goals as goal

pieces : (a b c d : List ℕ) → a ++ (b ++ (c ++ d)) ≡ a ++ b ++ c ++ d
pieces a b c d = simp append_assoc

whole : (text lent made address pairs before between behind : List ℕ) → text ≡ lent → lent ≡ made → made ≡ before ++ (between ++ (pairs ++ behind)) → before ≡ before_fragment address → between ≡ joint before → behind ≡ fragment address
    → text ≡ with_query pairs address
whole text lent made address pairs before between behind copied is formatted front link rest =
    copied ∙ is ∙ formatted ∙ ap (λ t. before ++ (t ++ (pairs ++ behind))) link ∙ ap (λ t. t ++ (joint t ++ (pairs ++ behind))) front
    ∙ ap (λ t. before_fragment address ++ (joint (before_fragment address) ++ (pairs ++ t))) rest
    ∙ pieces (before_fragment address) (joint (before_fragment address)) pairs (fragment address)

pub returns : goal.returns
returns c =
    IfOk-weaker c.of.result _ _
    (λ text e. whole text c.as_str.result.now _ c.args.address.now c.args.pairs.now c.split_at_fragment.result.0.now c.joint-joint.result.now c.split_at_fragment.result.1.now e c.as_str.ensures.value c.in_ok-text.ensures.ok
    c.split_at_fragment.ensures.before c.joint-joint.ensures c.split_at_fragment.ensures.fragment)
    c.of.ensures.copied
