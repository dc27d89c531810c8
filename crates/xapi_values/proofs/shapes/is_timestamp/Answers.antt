use Rattle.std.proofs.Common.{ap, sym, ◌∙◌}
use Rattle.lrs_json.specs.View.{view}
use Rattle.lrs_json.proofs.Views.{view-Words}
use Rattle.xapi_values.proofs.Written.{timestamp-told}
use Rattle.xapi_values.proofs.shapes.is_timestamp.Goals as goal

pub returns-in-Words-clause-written : goal.returns-in-Words-clause-written
returns-in-Words-clause-written c =
    timestamp-told (view c.args.tree.now) c.in-Words.text c.as_bytes.result.now c.read_timestamp.result c.is_ok.result
    (sym (view-Words c.in-Words.text) ∙ ap view (sym c.in-Words.is)) c.as_bytes.ensures.lent c.is_ok.ensures.value c.read_timestamp.ensures.instant
