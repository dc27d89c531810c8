use Rattle.std.proofs.Common.{◌≡◌, ◌++◌, ◌∙◌, List, OnOk, ap, map, sym, subst, append-nil}
use Rattle.cmi5_course.specs.Courses.{Course, node_at}
use Rattle.lrs_json.specs.Json.{Json}
use Rattle.lrs_made.specs.Lent.{seen_enrolled}
use Rattle.lrs_made.proofs.Supplied.{value_of}
use Rattle.lrs_made.proofs.Satisfied.{no_node, node_said}
use Rattle.lrs_made.proofs.owing.push_satisfied.Goals as goal

pub returns-in-Some : goal.returns-in-Some
returns-in-Some c =
    subst (λ (js : List Json). OnOk c.push_of_node.result (map value_of c.push_of_node.new.said.items ≡ map value_of c.args.said.now.items ++ js))
    (node_said (seen_enrolled c.args.enrolled.now) c.args.session.now c.args.index c.in-Some.node.now (c.in-Some.ensures ∙ ap (λ (x : Course). node_at c.args.index x) c.course-course.ensures)) c.push_of_node.ensures

pub returns-in-None : goal.returns-in-None
returns-in-None c =
    sym (append-nil (map value_of c.args.said.now.items))
    ∙ ap (λ (js : List Json). map value_of c.args.said.now.items ++ js) (no_node (seen_enrolled c.args.enrolled.now) c.args.session.now c.args.index (c.in-None.ensures ∙ ap (λ (x : Course). node_at c.args.index x) c.course-course.ensures))
