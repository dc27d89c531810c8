use Rattle.lrs_routes.proofs.PathParts.{command_found, found_rule, found_trees}
use Rattle.lrs_routes.proofs.forms.command.Goals as goal

pub returns-in-Ok : goal.returns-in-Ok
returns-in-Ok c =
    let request = c.args.request.now in
    let found = c.in-Ok.found in
    let own = c.found_or_nowhere.result in
    let meant = c.in-Ok.ensures.1 in
    let comes = c.found_or_nowhere.ensures in
    record {
      is = command_found c.args.operation request c.args.area found own c.in-Ok.ensures.0 meant comes;
      trees = found_trees c.args.operation request c.args.area found own meant comes;
      rules = found_rule c.args.operation request c.args.area found own meant comes;
    }
