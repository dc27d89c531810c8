use Rattle.std.proofs.Common.{ℕ, List, Bool, None, ap, ◌∙◌}
use Rattle.cmi5_course.specs.Courses.{Course, course_key}
use Rattle.cmi5_course.specs.declared.course.Node.{Node}
use Rattle.lrs_refusals.specs.LrsMadeLent.{seen_enrolled}
use Rattle.lrs_replies.specs.Standings.{nodes_of, standing_body}
use Rattle.lrs_replies.specs.declared.answered.Answered.TheVariants.{Shown}
use Rattle.lrs_reads.proofs.questions.standing_of.Goals as goal

pub returns : goal.returns
returns c =
    let e = seen_enrolled c.args.known.now in
    ap (λ (text : List ℕ). Shown text None)
    (c.from_vec.ensures ∙ (c.in_ok-body.ensures
    ∙ (ap (λ (course : List ℕ). standing_body e.registration.id course c.number.result (nodes_of c.nodes.result.now c.as_slice.result.now)) (c.text.ensures.lent ∙ c.id.ensures.lent)
    ∙ (ap (λ (number : ℕ). standing_body e.registration.id (course_key c.course-course.result.now) number (nodes_of c.nodes.result.now c.as_slice.result.now)) c.number.ensures
    ∙ (ap (λ (nodes : List Node). standing_body e.registration.id (course_key c.course-course.result.now) e.edition.number (nodes_of nodes c.as_slice.result.now)) c.nodes.ensures.lent
    ∙ (ap (λ (course : Course). standing_body e.registration.id (course_key course) e.edition.number (nodes_of course.nodes c.as_slice.result.now)) c.course-course.ensures
    ∙ ap (λ (verdicts : List Bool). standing_body e.registration.id (course_key e.edition.course) e.edition.number (nodes_of e.edition.course.nodes verdicts)) (c.as_slice.ensures.value ∙ c.in_ok-verdicts.ensures)))))))
