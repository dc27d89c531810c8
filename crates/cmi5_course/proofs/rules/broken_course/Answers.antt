use Rattle.lrs_json.specs.View.{view}
use Rattle.cmi5_course.specs.Rules.{course_faults}
use Rattle.lrs_names.proofs.RuleLemmas.{ok_least}
use Rattle.cmi5_course.proofs.rules.broken_course.Goals as goal

pub returns-clause-least : goal.returns-clause-least
returns-clause-least c = ok_least (course_faults (view c.args.tree.now)) c.judge.result c.judge.ensures
