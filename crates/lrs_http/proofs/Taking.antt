-- How much is taken off what a link has left.
use Rattle.std.proofs.Common.{◌≡◌, ◌∙◌, ◌++◌, ◌+◌, ◌≤◌, [], ℕ, List, Option, Some, option_map, length, ap, sym, arith, append_assoc, length-append}
use Rattle.lrs_http.specs.Links.{TakesOff}

pub takes_none : (most : ℕ) (before after : Option (List ℕ)) → after ≡ before → TakesOff most before after
takes_none most before after same rest is = ([], omega arith, sym same ∙ is)

-- one read
pub takes_read : (most : ℕ) (front : List ℕ) (before after : Option (List ℕ)) → length front ≤ most
    → before ≡ option_map (λ (rest : List ℕ). front ++ rest) after → TakesOff most before after
takes_read most front before after few given rest is =
    (front, few, given ∙ ap (option_map (λ (r : List ℕ). front ++ r)) is)

pub takes_both : (m n : ℕ) (a b c : Option (List ℕ)) → TakesOff m a b → TakesOff n b c → TakesOff (m + n) a c
takes_both m n a b c first second rest is =
    let later = second rest is in
    let sooner = first (later.0 ++ rest) later.2 in
    let size = length-append sooner.0 later.0 in
    let some = sooner.1 in
    let more = later.1 in
    (sooner.0 ++ later.0, omega (arith, size, some, more), sooner.2 ∙ ap Some (sym (append_assoc sooner.0 later.0 rest)))

pub takes_more : (m n : ℕ) (a b : Option (List ℕ)) → m ≤ n → TakesOff m a b → TakesOff n a b
takes_more m n a b le taken rest is =
    let so = taken rest is in
    let few = so.1 in
    (so.0, omega (arith, le, few), so.2)
