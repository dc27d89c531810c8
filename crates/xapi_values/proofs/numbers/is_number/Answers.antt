use Rattle.std.proofs.Common.{ap, sym, option_map, ◌∙◌}
use Rattle.lrs_json.specs.View.{view}
use Rattle.xapi_values.proofs.Written.{number-told}
use Rattle.xapi_values.proofs.numbers.is_number.Goals as goal

pub returns-in-Some-clause-written : goal.returns-in-Some-clause-written
returns-in-Some-clause-written c =
    number-told (view c.args.tree.now) c.in-Some.spelling.now c.is_decimal.result
    (ap (option_map (λ s. s.now)) (sym c.in-Some.is) ∙ c.spelling_of.ensures) c.is_decimal.ensures
