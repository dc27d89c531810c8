use Rattle.std.proofs.Common.{◌∙◌, ◌&&◌, false, sym, ap}
use Rattle.std.proofs.Math.Bool.{and-true}
use Rattle.std.proofs.lemmas.Bool.{and_right}
use Rattle.cmi5_running_verdicts.specs.Changes.{is_unmet_untold, moved_if, tally_of}
use Rattle.cmi5_verdict.specs.Nodes.{is_under}
use Rattle.cmi5_running_verdicts.proofs.counting.raise_over.Goals as goal

pub returns-then-is_unmet_untold-clause-raised : goal.returns-then-is_unmet_untold-clause-raised
returns-then-is_unmet_untold-clause-raised c = λ holder lt.
    let under = is_under c.args.nodes.now holder c.args.index in
    c.follow.ensures.moved holder lt
    ∙ ap (λ b. moved_if b false (tally_of c.args.tallies.now holder)) (sym (ap (λ b. under && b) (sym c.is_unmet_untold.ensures ∙ c.if-is_unmet_untold.true) ∙ and-true under))

pub returns-else-is_unmet_untold-clause-raised : goal.returns-else-is_unmet_untold-clause-raised
returns-else-is_unmet_untold-clause-raised c = λ holder lt.
    let under = is_under c.args.nodes.now holder c.args.index in
    let none = and_right under (is_unmet_untold c.args.nodes.now c.args.index) (sym c.is_unmet_untold.ensures ∙ c.if-is_unmet_untold.false) in
    ap (λ b. moved_if b false (tally_of c.args.tallies.now holder)) (sym none)
