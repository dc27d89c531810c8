use Rattle.std.proofs.Common.{◌++◌, ap, sym, ◌∙◌}
use Rattle.std.proofs.lemmas.Result.{on_ok_weaker}
use Rattle.lrs_json.specs.Written.{written}
use Rattle.xapi_values.specs.Memberwise.{with_each_member}
use Rattle.xapi_reduced.specs.Direct.{kept_names}
use Rattle.xapi_reduced.specs.Reduced.{with_only}
use Rattle.xapi_reduced.proofs.Unchanged.{not_only}
use Rattle.xapi_reduced.proofs.direct.put_only.Goals as goal

pub returns-in-Some-clause-ok : goal.returns-in-Some-clause-ok
returns-in-Some-clause-ok g c =
    on_ok_weaker c.put_only_object.result (λ e. e ∙ ap (λ j. c.args.into.now.items ++ written (with_each_member g.P.Part.change (with_only (kept_names c.args.names) j))) (sym c.in-Some.ensures)) c.put_only_object.ensures.ok

pub returns-in-None-clause-ok : goal.returns-in-None-clause-ok
returns-in-None-clause-ok g c =
    on_ok_weaker c.put.result (λ e. e ∙ ap (λ j. c.args.into.now.items ++ written j) (sym (not_only g.P.Part.change (kept_names c.args.names) c.args.value.now c.in-None.ensures))) c.put.ensures.ok
