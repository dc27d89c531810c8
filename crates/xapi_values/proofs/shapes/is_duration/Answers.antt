use Rattle.std.proofs.Common.{ap, sym, ◌∙◌}
use Rattle.lrs_json.specs.View.{view}
use Rattle.lrs_json.proofs.Views.{view-Words}
use Rattle.xapi_values.proofs.Written.{duration-told}
use Rattle.xapi_values.proofs.shapes.is_duration.Goals as goal

pub returns-in-Words-clause-written : goal.returns-in-Words-clause-written
returns-in-Words-clause-written c =
    duration-told (view c.args.tree.now) c.in-Words.text c.as_bytes.result.now c.read.result c.is_some.result
    (sym (view-Words c.in-Words.text) ∙ ap view (sym c.in-Words.is)) c.as_bytes.ensures.lent c.is_some.ensures c.read.ensures.some
