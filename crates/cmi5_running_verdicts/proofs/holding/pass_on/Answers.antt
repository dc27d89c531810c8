use Rattle.std.proofs.Common.{◌∙◌, ◌&&◌, sym, ap}
use Rattle.cmi5_running_verdicts.specs.Changes.{moved_if, tally_of}
use Rattle.cmi5_verdict.specs.Nodes.{is_under}
use Rattle.cmi5_running_verdicts.proofs.holding.pass_on.Goals as goal

pub returns-then-differ-clause-passed : goal.returns-then-differ-clause-passed
returns-then-differ-clause-passed c = λ holder lt.
    c.follow.ensures.moved holder lt
    ∙ ap (λ b. moved_if (b && is_under c.args.nodes.now holder c.args.index) c.args.is_met (tally_of c.args.tallies.now holder)) (sym (sym c.differ.ensures ∙ c.if-differ.true))

pub returns-else-differ-clause-passed : goal.returns-else-differ-clause-passed
returns-else-differ-clause-passed c = λ holder lt.
    ap (λ b. moved_if (b && is_under c.args.nodes.now holder c.args.index) c.args.is_met (tally_of c.args.tallies.now holder)) (sym (sym c.differ.ensures ∙ c.if-differ.false))
