use Rattle.std.proofs.Common.{◌∙◌, ℕ, Option, ap, option_and_then}
use Rattle.cmi5_course.specs.Courses.{Course, index_of_unit}
use Rattle.lrs_history.specs.Launches.{target_at}
use Rattle.lrs_made.proofs.targets.target_in.Goals as goal

pub returns-in-Some-clause-found : goal.returns-in-Some-clause-found
returns-in-Some-clause-found c =
    c.target_at.ensures.found
    ∙ ap (λ (o : Option ℕ). option_and_then (target_at c.args.base.now c.args.registration.now c.args.publisher.now c.args.edition.now.course) o)
    (c.in-Some.ensures.value ∙ ap (λ (x : Course). index_of_unit c.args.publisher.now x) c.course.ensures)

pub returns-in-None-clause-found : goal.returns-in-None-clause-found
returns-in-None-clause-found c =
    ap (λ (o : Option ℕ). option_and_then (target_at c.args.base.now c.args.registration.now c.args.publisher.now c.args.edition.now.course) o)
    (c.in-None.ensures.value ∙ ap (λ (x : Course). index_of_unit c.args.publisher.now x) c.course.ensures)
