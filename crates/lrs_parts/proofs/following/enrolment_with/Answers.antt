-- Its nodes are those of the course's text, where each stands behind the one that holds it.
use Rattle.std.proofs.Common.{◌∙◌, List, ap, subst, sym}
use Rattle.cmi5_course.specs.Courses.{Course}
use Rattle.cmi5_course.specs.declared.course.Node.{Node}
use Rattle.cmi5_running_verdicts.proofs.Courses.{behind_holders}
use Rattle.cmi5_running_verdicts.specs.Holding.{StandBehindHolders}
use Rattle.lrs_json.specs.View.{view}
use Rattle.lrs_parts.proofs.following.enrolment_with.Goals as goal

pub returns-clause-behind : goal.returns-clause-behind
returns-clause-behind c =
    subst (λ (ns : List Node). StandBehindHolders ns) (sym (c.nodes.ensures.lent ∙ ap (λ (x : Course). x.nodes) c.nodes.ensures.read)) (behind_holders (view c.course.result.now.tree))
