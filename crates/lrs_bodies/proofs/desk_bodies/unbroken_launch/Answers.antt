use Rattle.lrs_json.specs.View.{view}
use Rattle.lrs_bodies.proofs.DeskBodies.{launch_unbroken}
use Rattle.lrs_bodies.proofs.desk_bodies.unbroken_launch.Goals as goal

pub mode_of-mode-requires : goal.mode_of-mode-requires
mode_of-mode-requires c = (launch_unbroken (view c.args.tree.now) c.requires).0

pub iri_if_any-requires : goal.iri_if_any-requires
iri_if_any-requires c = (launch_unbroken (view c.args.tree.now) c.requires).1

pub iri_under-requires : goal.iri_under-requires
iri_under-requires c = (launch_unbroken (view c.args.tree.now) c.requires).2
