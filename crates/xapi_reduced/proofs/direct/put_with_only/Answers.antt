use Rattle.std.proofs.Common.{◌++◌, ap, ◌∙◌}
use Rattle.std.proofs.lemmas.Result.{on_ok_weaker}
use Rattle.lrs_json.specs.Written.{written}
use Rattle.xapi_reduced.specs.Direct.{kept_names}
use Rattle.xapi_reduced.specs.Reduced.{with_only}
use Rattle.xapi_reduced.proofs.Fusing.{with_each_stays}
use Rattle.xapi_reduced.proofs.direct.put_with_only.Goals as goal

pub returns-clause-ok : goal.returns-clause-ok
returns-clause-ok c =
    on_ok_weaker c.put_only.result (λ e. e ∙ ap (λ j. c.args.into.now.items ++ written j) (with_each_stays (with_only (kept_names c.args.names) c.args.value.now))) c.put_only.ensures.ok
