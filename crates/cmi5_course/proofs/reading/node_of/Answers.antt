use Rattle.cmi5_course.specs.SpelledNodes.{seen}
use Rattle.cmi5_course.proofs.Unbroken.{node_has_id}
use Rattle.cmi5_course.proofs.reading.node_of.Goals as goal

pub id_of-requires : goal.id_of-requires
id_of-requires c = node_has_id (seen c.args.node.now) c.requires
