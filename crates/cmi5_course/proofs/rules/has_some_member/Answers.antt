use Rattle.std.proofs.Common.{ap, sym, ◌∙◌}
use Rattle.lrs_json.specs.View.{view}
use Rattle.lrs_json.proofs.Views.{view-Object}
use Rattle.cmi5_course.specs.Rules.{has_some_member}
use Rattle.cmi5_course.proofs.Lists.{members_stand}
use Rattle.cmi5_course.proofs.rules.has_some_member.Goals as goal

pub returns-in-Object : goal.returns-in-Object
returns-in-Object c =
    members_stand c.in-Object.members c.is_empty.result c.is_empty.ensures
    ∙ ap has_some_member (sym (view-Object c.in-Object.members))
    ∙ ap (λ t. has_some_member (view t)) (sym c.in-Object.is)
