use Rattle.std.proofs.Common.{◌≡◌, IfOk, subst}
use Rattle.lrs_json.specs.View.{view}
use Rattle.lrs_json.specs.declared.tree.Tree.{Tree}
use Rattle.xapi_values.specs.LrsTimeMoments.{moment_text}
use Rattle.xapi_format.specs.Authorities.{authority_json}
use Rattle.xapi_format.specs.Completed.{completed}
use Rattle.xapi_format.proofs.building.completed.Goals as goal

pub returns : goal.returns
returns c =
    subst (λ (t : Tree). IfOk c.into_completed.result (λ tree. view tree ≡ completed (view t) c.args.id.now (moment_text c.args.stored) (authority_json c.args.authority.now)))
    c.in_ok-own.ensures.cases c.into_completed.ensures
