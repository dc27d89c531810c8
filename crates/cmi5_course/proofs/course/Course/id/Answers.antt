-- A course has a first node, with its id.
use Rattle.std.proofs.Common.{Some, ap, ◌∙◌}
use Rattle.lrs_json.specs.View.{view}
use Rattle.cmi5_course.proofs.Unbroken.{nodes_stand, first_id_is, first_id_of}
use Rattle.cmi5_course.proofs.course.Course.id.Goals as goal

pub unreachable-requires : goal.unreachable-requires
unreachable-requires c =
    nodes_stand (view c.self.inside.tree) c.self.inside.nodes c.self.invariant.read c.in-None.ensures.value

pub returns-clause-spelled : goal.returns-clause-spelled
returns-clause-spelled c =
    rw (← c.self.view_is)
    (first_id_is (view c.self.inside.tree) c.self.inside.nodes c.self.invariant.read c.self.invariant.unbroken
    ∙ ap Some (first_id_of c.self.inside.nodes c.in-Some.node.now c.in-Some.ensures.value))
