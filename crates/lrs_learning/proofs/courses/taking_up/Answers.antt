use Rattle.std.proofs.Common.{◌∙◌, ap}
use Rattle.cmi5_course.specs.Courses.{course_of}
use Rattle.lrs_learning.proofs.Taken.{taken_up_is}
use Rattle.lrs_sessions.specs.LrsHistoryDeskEffects.{next_number, with_one_more}
use Rattle.lrs_sessions.specs.LrsPartsParts.{SeenParts, state_of}
use Rattle.lrs_sessions.specs.LrsStateCourses.{course_under}
use Rattle.lrs_learning.proofs.courses.taking_up.Goals as goal

pub returns : goal.returns
returns c =
    let st = state_of c.args.parts.now in
    let id = c.args.id in
    let found = c.find-held.ensures ∙ ap (λ (parts : SeenParts). course_under id parts.learning.courses.held) c.parts.view_is in
    taken_up_is st c.args.moment (course_of c.args.tree.now) id c.in_ok-number.number c.in_ok-courses.courses c.in_ok-edition.edition c.taken_up.result c.requires.id
    (c.in_ok-number.ensures ∙ ap next_number found) (c.in_ok-courses.ensures ∙ ap (with_one_more id) found) c.in_ok-edition.ensures c.taken_up.ensures
