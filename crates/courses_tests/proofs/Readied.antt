-- What is known of the nodes of a course, and of indices that were made for one statement.
use Rattle.std.proofs.Common.{◌≡◌, ◌∙◌, List, [], ◌∷◌, sym, ap, subst}
use Rattle.cmi5_course.specs.Courses.{Course, course_of}
use Rattle.cmi5_course.specs.declared.course.Node.{Node}
use Rattle.cmi5_running_sessions.specs.Kept.{SeenSessions}
use Rattle.cmi5_running_sessions.specs.Room.{HasSlotsFor, HasSlotsForEach}
use Rattle.cmi5_running_verdicts.specs.Holding.{StandBehindHolders}
use Rattle.cmi5_running_verdicts.proofs.Courses.{behind_holders}
use Rattle.lrs_json.specs.View.{view}
use Rattle.xapi_statement.specs.Stored.{StoredStatement}

pub nodes_behind : (course : Course) (nodes : List Node) → nodes ≡ course.nodes → course ≡ course_of course.tree → StandBehindHolders nodes
nodes_behind course nodes lent read = subst (λ ns. StandBehindHolders ns) (sym (lent ∙ ap (λ (c : Course). c.nodes) read)) (behind_holders (view course.tree))

pub slots_of_one : (sessions : SeenSessions) (statement : StoredStatement) (those : List StoredStatement) → those ≡ statement ∷ [] → HasSlotsForEach sessions those → HasSlotsFor sessions statement
slots_of_one sessions statement those one each = (subst (λ ss. HasSlotsForEach sessions ss) one each).0
