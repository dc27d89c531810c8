use Rattle.lrs_routes.proofs.PathParts.{part_found, part_missing}
use Rattle.lrs_routes.proofs.parts.part_behind.Goals as goal

pub returns-in-Some : goal.returns-in-Some
returns-in-Some c = part_found c.args.beginning.now c.args.path.now c.in-Some.rest.now c.up_to_slash.result.now c.in-Some.ensures.cases c.up_to_slash.ensures

pub returns-in-None : goal.returns-in-None
returns-in-None c = part_missing c.args.beginning.now c.args.path.now c.in-None.ensures.cases
