use Rattle.std.proofs.Common.{◌+◌, refl, subst, arith}
use Rattle.lrs_generator.specs.Progress.{AreMade}
use Rattle.lrs_generator.proofs.Batches.{none_made, one_more_made}
use Rattle.lrs_generator.proofs.generator.make.Goals as goal

pub loop-done-init : goal.loop-done-init
loop-done-init c = none_made c.args.seed c.args.first c.new-trees.result c.args.number.now c.new-trees.ensures c.requires.number

pub loop-done-preserved : goal.loop-done-preserved
loop-done-preserved c =
    let at = c.loop-done in
    one_more_made c.args.seed c.args.first at.done (c.args.first + at.done) at.trees c.push_statement.new.trees at.number c.next_number.result refl c.in_ok-push_statement.ensures c.next_number.ensures at.invariant

pub returns : goal.returns
returns c =
    let at = c.loop-done in
    subst (λ n. AreMade c.args.seed c.args.first n at.trees at.number) (omega arith) at.invariant
