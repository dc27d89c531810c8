use Rattle.std.proofs.Common.{Some, None}
use Rattle.xapi_parameters.proofs.Least.{put_once, rule_answers, value_answers}
use Rattle.xapi_parameters.proofs.wanted.put_id.Goals as goal

pub returns-in-Some-clause-always : goal.returns-in-Some-clause-always
returns-in-Some-clause-always c = λ found least. rule_answers _ found c.in-Some.number (put_once c.args.pairs.now found (Some c.in-Some.number) least c.in-Some.ensures)

pub returns-in-Some-id_under-clause-always : goal.returns-in-Some-id_under-clause-always
returns-in-Some-id_under-clause-always c = λ found least. value_answers found _ (put_once c.args.pairs.now found None least c.in-None.ensures)
