use Rattle.std.proofs.Common.{map, ap, sym, ◌∙◌}
use Rattle.lrs_json.specs.View.{view}
use Rattle.xapi_reduced.specs.Reduced.{with_each_item, with_only}
use Rattle.xapi_reduced.proofs.Itemwise.{made_items}
use Rattle.xapi_reduced.proofs.reducing.with_only_in_each.Goals as goal

pub returns-in_ok-only_in_each-in-List : goal.returns-in_ok-only_in_each-in-List
returns-in_ok-only_in_each-in-List c =
    let change = with_only (map (λ name. name.now) c.args.names.now) in
    made_items change c.in_ok-only_in_each-in-List.field-0 c.in-List.items c.in_ok-only_in_each-in-List.ensures ∙ ap (λ t. with_each_item change (view t)) (sym c.in-List.is)
