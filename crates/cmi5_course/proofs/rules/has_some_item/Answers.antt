use Rattle.std.proofs.Common.{ap, sym, ◌∙◌}
use Rattle.lrs_json.specs.View.{view}
use Rattle.lrs_json.proofs.Views.{view-List}
use Rattle.cmi5_course.specs.Rules.{has_some_item}
use Rattle.cmi5_course.proofs.Lists.{items_stand}
use Rattle.cmi5_course.proofs.rules.has_some_item.Goals as goal

pub returns-in-List : goal.returns-in-List
returns-in-List c =
    items_stand c.in-List.items c.is_empty.result c.is_empty.ensures
    ∙ ap has_some_item (sym (view-List c.in-List.items))
    ∙ ap (λ t. has_some_item (view t)) (sym c.in-List.is)
