use Rattle.std.proofs.Common.{◌++◌, ap, sym, ◌∙◌}
use Rattle.std.proofs.lemmas.Result.{on_ok_weaker}
use Rattle.lrs_json.specs.Written.{written}
use Rattle.xapi_reduced.specs.Reduced.{reduced_activity, with_each_item}
use Rattle.xapi_reduced.proofs.Unchanged.{alone, not_alone}
use Rattle.xapi_reduced.proofs.direct.put_activities.Goals as goal

pub returns-in-Some-clause-ok : goal.returns-in-Some-clause-ok
returns-in-Some-clause-ok c =
    on_ok_weaker c.put_alone.result (λ e. e ∙ ap (λ t. c.args.into.now.items ++ t) (sym (alone c.args.value.now _ c.in-Some.ensures))) c.put_alone.ensures.ok

pub returns-in-None-clause-ok : goal.returns-in-None-clause-ok
returns-in-None-clause-ok c =
    on_ok_weaker c.put_with_only_in_each.result (λ e. e ∙ ap (λ j. c.args.into.now.items ++ written (with_each_item reduced_activity j)) (sym (not_alone c.args.value.now c.in-None.ensures))) c.put_with_only_in_each.ensures.ok
