use Rattle.std.proofs.Common.{map}
use Rattle.lrs_json.specs.View.{view}
use Rattle.cmi5_course.specs.SpelledNodes.{seen}
use Rattle.cmi5_course.proofs.Unbroken.{nodes_unbroken}
use Rattle.cmi5_course.proofs.course.course_of.Goals as goal

pub nodes_of-requires : goal.nodes_of-requires
nodes_of-requires c =
    nodes_unbroken (view c.args.tree.now) (map seen c.args.spelled_nodes.now) c.requires.spelled_nodes c.requires.unbroken
