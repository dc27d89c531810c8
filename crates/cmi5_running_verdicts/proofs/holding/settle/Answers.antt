use Rattle.std.proofs.Common.{◌∙◌, ◌<◌, length, sym, ap, subst}
use Rattle.std.proofs.lemmas.List.{length-set}
use Rattle.cmi5_running_verdicts.specs.Changes.{is_met_with}
use Rattle.cmi5_running_verdicts.specs.declared.tally.Tally.{Tally}
use Rattle.cmi5_running_verdicts.proofs.Walks.{settled_by}
use Rattle.cmi5_running_verdicts.proofs.holding.settle.Goals as goal

pub returns-clause-long : goal.returns-clause-long
returns-clause-long c = c.pass_on.ensures.long ∙ (ap length c.set.ensures ∙ length-set c.args.tallies.now c.args.index c.args.tally)

pub returns-clause-settled : goal.returns-clause-settled
returns-clause-settled c = λ holder lt.
    let long = ap length c.set.ensures ∙ length-set c.args.tallies.now c.args.index c.args.tally in
    c.pass_on.ensures.passed holder (subst (λ n. holder < n) (sym long) lt)
    ∙ settled_by c.args.nodes.now c.args.index holder c.args.tally c.args.tallies.now c.set.new.tallies c.is_met_with-was_met.result c.is_met_with-met_now.result
    (c.is_met_with-was_met.ensures ∙ ap (λ (t : Tally). is_met_with c.args.nodes.now c.args.index t) c.tally_of.ensures) c.is_met_with-met_now.ensures c.set.ensures lt
