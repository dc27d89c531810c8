use Rattle.std.proofs.Common.{◌≡◌, ◌++◌, ◌∙◌, false, sym, ap, rules}
use Rattle.cmi5_verdict.specs.FoundIndices.{is_index}
use Rattle.cmi5_verdict.proofs.Named.{at_digits, no_base, no_digits, no_number, no_path}
use Rattle.cmi5_verdict.proofs.names.index_named.Goals as goal

pub returns-in_err-path : goal.returns-in_err-path
returns-in_err-path c = λ index small.
    let none : is_index index c.from_residual.result ≡ false = search rules in
    none ∙ no_base c.args.id.now c.args.base.now c.args.course index c.in_err-path.ensures

pub returns-in_err-numbers : goal.returns-in_err-numbers
returns-in_err-numbers c = λ index small.
    let none : is_index index c.from_residual-in_err-numbers.result ≡ false = search rules in
    none ∙ no_path c.args.id.now c.args.base.now c.args.course index c.in_ok-path.path.now c.in_ok-path.ensures c.in_err-numbers.ensures

pub returns-in_err-index : goal.returns-in_err-index
returns-in_err-index c = λ index small.
    let none : is_index index c.from_residual-in_err-index.result ≡ false = search rules in
    none ∙ no_number c.args.id.now c.args.base.now c.args.course index c.in_ok-path.path.now c.in_ok-numbers.numbers.now c.in_ok-path.ensures c.in_ok-numbers.ensures
    (λ rest e. c.in_err-index.ensures rest (e ∙ ap (λ d. d ++ rest) (sym c.format.ensures.text)))

pub returns-in_err-digits : goal.returns-in_err-digits
returns-in_err-digits c = λ index small.
    let none : is_index index c.from_residual-in_err-digits.result ≡ false = search rules in
    none ∙ no_digits c.args.id.now c.args.base.now c.args.course index c.in_ok-path.path.now c.in_ok-numbers.numbers.now c.in_ok-index.index.now c.in_ok-path.ensures c.in_ok-numbers.ensures
    (c.in_ok-index.ensures ∙ ap (λ d. d ++ c.in_ok-index.index.now) c.format.ensures.text) c.in_err-digits.ensures

pub returns : goal.returns
returns c = λ index small.
    c.number_of.ensures index small
    ∙ at_digits c.args.id.now c.args.base.now c.args.course index c.in_ok-path.path.now c.in_ok-numbers.numbers.now c.in_ok-index.index.now c.in_ok-digits.digits.now c.in_ok-path.ensures c.in_ok-numbers.ensures
    (c.in_ok-index.ensures ∙ ap (λ d. d ++ c.in_ok-index.index.now) c.format.ensures.text) c.in_ok-digits.ensures
