use Rattle.lrs_json.specs.View.{view}
use Rattle.lrs_bodies.proofs.DeskBodies.{enrolment_unbroken}
use Rattle.lrs_bodies.proofs.desk_bodies.unbroken_enrolment.Goals as goal

pub actor_of-requires : goal.actor_of-requires
actor_of-requires c = (enrolment_unbroken (view c.args.tree.now) c.requires).0

pub iri_under-requires : goal.iri_under-requires
iri_under-requires c = (enrolment_unbroken (view c.args.tree.now) c.requires).1
