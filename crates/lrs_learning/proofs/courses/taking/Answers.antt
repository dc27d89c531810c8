use Rattle.std.proofs.Common.{◌≡◌, ◌∙◌, Some, None, ap, sym}
use Rattle.std.proofs.lemmas.Result.{IfOk-weaker}
use Rattle.std.specs.Option.{option_copied}
use Rattle.cmi5_course.specs.Courses.{course_of}
use Rattle.lrs_learning.proofs.Taken.{taken_is}
use Rattle.lrs_sessions.specs.LrsHistoryDeskEffects.{same_newest, taking, taking_as}
use Rattle.lrs_sessions.specs.LrsPartsParts.{SeenParts, state_of}
use Rattle.lrs_sessions.specs.LrsStateCourses.{course_under, newest_edition}
use Rattle.lrs_learning.proofs.courses.taking.Goals as goal

pub returns-in-Some : goal.returns-in-Some
returns-in-Some c =
    let st = state_of c.args.parts.now in
    let course = course_of c.args.tree.now in
    let id = c.in_ok-id.id in
    IfOk-weaker c.taking_beside.result
    (λ made. made ≡ taking_as c.args.moment course (course_under id st.courses) (same_newest course (Some c.in-Some.newest.now)))
    (λ made. made ≡ taking st c.args.moment course)
    (λ made is. taken_is st c.args.moment course id (Some c.in-Some.newest.now) made c.in_ok-id.ensures
    (sym (ap option_copied c.in-Some.is) ∙ (c.in_ok-newest.ensures ∙ ap (λ (parts : SeenParts). newest_edition id parts.learning.courses.held parts.learning.editions.held) c.parts.view_is)) is)
    c.taking_beside.ensures

pub returns-in-None : goal.returns-in-None
returns-in-None c =
    let st = state_of c.args.parts.now in
    let course = course_of c.args.tree.now in
    let id = c.in_ok-id.id in
    IfOk-weaker c.taking_up.result (λ made. made ≡ taking_as c.args.moment course (course_under id st.courses) None)
    (λ made. made ≡ taking st c.args.moment course)
    (λ made is. taken_is st c.args.moment course id None made c.in_ok-id.ensures
    (sym (ap option_copied c.in-None.is) ∙ (c.in_ok-newest.ensures ∙ ap (λ (parts : SeenParts). newest_edition id parts.learning.courses.held parts.learning.editions.held) c.parts.view_is)) is)
    c.taking_up.ensures
