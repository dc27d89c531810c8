use Rattle.std.proofs.Common.{List, subst}
use Rattle.std.proofs.lemmas.List.{take_all}
use Rattle.lrs_parts.specs.Trees.{AreTargets}
use Rattle.lrs_parts.proofs.Voided.{none_read, read_on}
use Rattle.xapi_statement.specs.Stored.{StoredStatement}
use Rattle.lrs_parts.proofs.trees.read_each.Goals as goal

pub loop-statement-init : goal.loop-statement-init
loop-statement-init c = none_read c.args.trees.now c.args.statements.now.held c.requires

pub loop-statement-preserved : goal.loop-statement-preserved
loop-statement-preserved c =
    let at = c.loop-statement in
    read_on at.trees c.read_one.new.trees c.args.statements.now.held c.args.coming.now at.statement-index c.statement-item.result c.loop-statement-test.true c.statement-item.is
    c.in_ok-read_one.ensures at.invariant

pub returns : goal.returns
returns c =
    let at = c.loop-statement in
    subst (λ (ss : List StoredStatement). AreTargets at.trees c.args.statements.now.held ss) (take_all at.statement-index c.args.coming.now c.loop-statement-test.false) at.invariant.are
