use Rattle.std.proofs.Common.{◌∙◌, ap}
use Rattle.cmi5_running_verdicts.specs.Changes.{added, settled}
use Rattle.cmi5_running_verdicts.specs.declared.tally.Tally.{Tally}
use Rattle.cmi5_running_verdicts.proofs.counting.count_at.Goals as goal

pub returns-clause-settled : goal.returns-clause-settled
returns-clause-settled c = λ holder lt.
    c.settle.ensures.settled holder lt
    ∙ ap (λ (t : Tally). settled c.args.nodes.now c.args.index t c.args.tallies.now holder) (c.added-tally.ensures ∙ ap (λ (t : Tally). added c.args.told t) c.tally_of.ensures)
