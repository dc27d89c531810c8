use Rattle.std.proofs.Common.{sym, arith}
use Rattle.std.proofs.lemmas.Bool.{ne_eqb}
use Rattle.cmi5_running_verdicts.proofs.counting.if_below.Goals as goal

pub returns-else-index-count-clause-same : goal.returns-else-index-count-clause-same
returns-else-index-count-clause-same c = λ other lt. sym (ne_eqb c.args.index other (λ e. omega (arith, e, lt, c.if-index-count.false)))
