use Rattle.std.proofs.Common.{◌++◌, ap, sym, ◌∙◌}
use Rattle.std.proofs.lemmas.Result.{on_ok_weaker}
use Rattle.lrs_json.specs.Written.{written}
use Rattle.xapi_reduced.specs.Direct.{kept_names}
use Rattle.xapi_reduced.specs.Reduced.{with_each_item, with_only}
use Rattle.xapi_reduced.proofs.Unchanged.{not_itemwise}
use Rattle.xapi_reduced.proofs.direct.put_with_only_in_each.Goals as goal

pub returns-in-Some-clause-ok : goal.returns-in-Some-clause-ok
returns-in-Some-clause-ok c =
    on_ok_weaker c.put_list.result (λ e. e ∙ ap (λ j. c.args.into.now.items ++ written (with_each_item (with_only (kept_names c.args.names)) j)) (sym c.in-Some.ensures)) c.put_list.ensures.ok

pub returns-in-None-clause-ok : goal.returns-in-None-clause-ok
returns-in-None-clause-ok c =
    on_ok_weaker c.put.result (λ e. e ∙ ap (λ j. c.args.into.now.items ++ written j) (sym (not_itemwise (with_only (kept_names c.args.names)) c.args.value.now c.in-None.ensures))) c.put.ensures.ok
