use Rattle.std.proofs.Common.{◌∙◌, ap}
use Rattle.cmi5_course.specs.Courses.{Course, unit_at}
use Rattle.lrs_made.proofs.Lent.{unit_within}
use Rattle.lrs_made.proofs.targets.target_at.Goals as goal

pub returns-in-Some-clause-index : goal.returns-in-Some-clause-index
returns-in-Some-clause-index c = unit_within c.args.edition.now.course c.args.index c.in-Some.unit.now
    (c.in-Some.ensures.value ∙ ap (λ (x : Course). unit_at c.args.index x) c.course.ensures)
