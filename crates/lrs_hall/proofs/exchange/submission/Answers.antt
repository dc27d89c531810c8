use Rattle.std.proofs.Common.{subst, sym}
use Rattle.std.proofs.lemmas.Result.{IfOk-weaker}
use Rattle.lrs_command.specs.Commands.{HasReadTrees}
use Rattle.lrs_command.specs.declared.command.Command.{Command}
use Rattle.lrs_routes.specs.Asked.{IsCommandOf}
use Rattle.lrs_hall.proofs.exchange.submission.Goals as goal

pub returns-clause-is : goal.returns-clause-is
returns-clause-is c =
    IfOk-weaker c.of.result _ _ (λ submission same. subst (λ (k : Command). IsCommandOf c.args.request.now c.args.routed.now k) (sym same) c.in_ok-command.ensures.is) c.of.ensures

pub returns-clause-trees : goal.returns-clause-trees
returns-clause-trees c = IfOk-weaker c.of.result _ _ (λ submission same. subst (λ (k : Command). HasReadTrees k) (sym same) c.in_ok-command.ensures.trees) c.of.ensures
