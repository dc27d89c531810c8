-- `find` gives the index of the first number sign.
use Rattle.std.proofs.Common.{◌≡◌, ℕ, List, [], Some, None, length, take, drop, sym, ap, ◌∙◌, lit<, arith}
use Rattle.std.proofs.lemmas.Grind.{common_steps}
use Rattle.std.proofs.lemmas.List.{drop_all}
use Rattle.std.proofs.lemmas.Str.Pattern.{find_char}
use Rattle.cmi5_launch.proofs.FirstBytes.{position_at, position_none}
use Rattle.cmi5_launch.proofs.addresses.split_at_fragment.Goals as goal

pub returns-in-Some-clause-before : goal.returns-in-Some-clause-before
returns-in-Some-clause-before c =
    let found = find_char 35 c.args.address.now (Some c.in-Some.at) c.in-Some.ensures.cases (lit< tt) in
    let found_at = position_at 35 c.args.address.now c.in-Some.at found.0 found.1 found.2 in
    c.split_at.ensures.front ∙ ap (λ n. take n c.args.address.now) (sym found_at)

pub returns-in-Some-clause-fragment : goal.returns-in-Some-clause-fragment
returns-in-Some-clause-fragment c =
    let found = find_char 35 c.args.address.now (Some c.in-Some.at) c.in-Some.ensures.cases (lit< tt) in
    let found_at = position_at 35 c.args.address.now c.in-Some.at found.0 found.1 found.2 in
    c.split_at.ensures.back ∙ ap (λ n. drop n c.args.address.now) (sym found_at)

all_taken : (xs : List ℕ) (n : ℕ) → n ≡ length xs → xs ≡ take n xs
all_taken xs n e = grind (arith, common_steps)

none_left : (xs : List ℕ) (n : ℕ) → n ≡ length xs → ◌≡◌ {A = List ℕ} [] (drop n xs)
none_left xs n e = sym (drop_all n xs (omega arith))

pub returns-in-None-clause-before : goal.returns-in-None-clause-before
returns-in-None-clause-before c =
    all_taken c.args.address.now _ (position_none 35 c.args.address.now (find_char 35 c.args.address.now None c.in-None.ensures.cases (lit< tt)))

pub returns-in-None-clause-fragment : goal.returns-in-None-clause-fragment
returns-in-None-clause-fragment c =
    none_left c.args.address.now _ (position_none 35 c.args.address.now (find_char 35 c.args.address.now None c.in-None.ensures.cases (lit< tt)))
