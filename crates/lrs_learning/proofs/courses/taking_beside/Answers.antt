use Rattle.std.proofs.Common.{◌≡◌, ◌∙◌, Some, None, ap, sym}
use Rattle.std.proofs.lemmas.Result.{IfOk-weaker}
use Rattle.cmi5_course.specs.Courses.{Course, course_of, same_course}
use Rattle.lrs_learning.proofs.Taken.{other_is, same_is}
use Rattle.lrs_sessions.specs.LrsHistoryDeskEffects.{same_newest, taking_as}
use Rattle.lrs_sessions.specs.LrsPartsParts.{state_of}
use Rattle.lrs_sessions.specs.LrsStateCourses.{course_under}
use Rattle.lrs_learning.proofs.courses.taking_beside.Goals as goal

pub returns-then-is_spelled : goal.returns-then-is_spelled
returns-then-is_spelled c =
    let course = course_of c.args.tree.now in
    same_is (state_of c.args.parts.now) c.args.moment course c.args.id c.args.newest.now c.number.result c.same_again.result c.requires.id c.number.ensures
    (ap (λ (x : Course). same_course x course) (sym c.course.ensures) ∙ (sym c.is_spelled.ensures ∙ c.if-is_spelled.true)) c.same_again.ensures

pub returns : goal.returns
returns c =
    let st = state_of c.args.parts.now in
    let course = course_of c.args.tree.now in
    IfOk-weaker c.taking_up.result (λ made. made ≡ taking_as c.args.moment course (course_under c.args.id st.courses) None)
    (λ made. made ≡ taking_as c.args.moment course (course_under c.args.id st.courses) (same_newest course (Some c.args.newest.now)))
    (λ made is. other_is st c.args.moment course c.args.id c.args.newest.now made
    (ap (λ (x : Course). same_course x course) (sym c.course.ensures) ∙ (sym c.is_spelled.ensures ∙ c.if-is_spelled.false)) is)
    c.taking_up.ensures
