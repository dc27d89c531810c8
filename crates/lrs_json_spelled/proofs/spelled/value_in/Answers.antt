use Rattle.lrs_json.specs.View.{view}
use Rattle.lrs_json.specs.declared.limits.TheConstants.{DEPTH}
use Rattle.lrs_json_spelled.proofs.Law.{none_is_spelled, some_is_spelled}
use Rattle.lrs_json_spelled.proofs.spelled.value_in.Goals as goal

pub returns-in-Ok : goal.returns-in-Ok
returns-in-Ok c = some_is_spelled DEPTH c.args.bytes.now (view c.in-Ok.tree) c.in-Ok.ensures.found

pub returns-in-Err-TooDeep : goal.returns-in-Err-TooDeep
returns-in-Err-TooDeep c = none_is_spelled DEPTH c.args.bytes.now (λ j s. cc (c.in-Err-TooDeep.ensures.all j s))

pub returns-in-Err-Bad : goal.returns-in-Err-Bad
returns-in-Err-Bad c = none_is_spelled DEPTH c.args.bytes.now (λ j s. cc (c.in-Err-Bad.ensures.all j s))

pub returns-in-Err-Repeated : goal.returns-in-Err-Repeated
returns-in-Err-Repeated c = none_is_spelled DEPTH c.args.bytes.now (λ j s. cc (c.in-Err-Repeated.ensures.all j s))

pub returns-in-Err-NumberRange : goal.returns-in-Err-NumberRange
returns-in-Err-NumberRange c = none_is_spelled DEPTH c.args.bytes.now (λ j s. cc (c.in-Err-NumberRange.ensures.all j s))
