use Rattle.std.proofs.Common.{refl}
use Rattle.lrs_json.specs.View.{view}
use Rattle.lrs_bodies.proofs.Batches.{readable_batch}
use Rattle.lrs_bodies.proofs.statements.read_statements.Goals as goal

pub returns : goal.returns
returns c =
    let body = c.in_ok-body.body in
    let statements = c.in_ok-statements.statements in
    let tree = c.in_ok-body.ensures.1 in (
      c.in_ok-body.ensures.0,
      record {
        is = (statements, view body, tree.spelled, c.in_ok-statements.ensures, refl);
        kind = readable_batch (view body) statements tree.readable c.in_ok-statements.ensures;
      },
    )
