use Rattle.std.proofs.Common.{◌++◌, true, codes, ap, ◌∙◌}
use Rattle.std.proofs.lemmas.Result.{on_ok_weaker}
use Rattle.lrs_json.specs.Json.{string}
use Rattle.lrs_json.specs.Texts.{member_text}
use Rattle.lrs_json.proofs.Pieces.{behind}
use Rattle.xapi_values.specs.LrsTimeMoments.{moment_text}
use Rattle.xapi_format.proofs.Added.{timestamp_name}
use Rattle.xapi_format.proofs.adding.put_given_times.Goals as goal

pub returns-clause-ok : goal.returns-clause-ok
returns-clause-ok c =
    let old = c.args.into.now.items in
    let stored = member_text true (codes "stored") (string (moment_text c.args.stored)) in
    on_ok_weaker c.put_stored.result (λ e. behind old c.put_both.new.into.items c.put_stored.new.into.items (codes ",\"timestamp\":" ++ c.args.given.now) stored c.in_ok-put_both.ensures.ok e
    ∙ ap (λ t. old ++ ((t ++ c.args.given.now) ++ stored)) timestamp_name) c.put_stored.ensures.ok
