use Rattle.std.proofs.Common.{subst, sym}
use Rattle.lrs_routes.specs.Paths.{Fits}
use Rattle.lrs_routes.specs.Table.{row_of}
use Rattle.lrs_routes.specs.declared.table.Route.{Route}
use Rattle.lrs_routes.proofs.Leads.{found_fits, missing_fits}
use Rattle.lrs_routes.proofs.routes.Routes.route_of.Goals as goal

pub returns-in-Ok : goal.returns-in-Ok
returns-in-Ok c =
    let fits = found_fits c.args.self.now.router c.args.path.now _ c.args.self.now.whole c.in-Ok.ensures.found in
    subst (λ (route : Route). Fits (row_of route).pattern c.args.path.now) (sym c.copied.ensures) fits

pub returns-in-Err : goal.returns-in-Err
returns-in-Err c = missing_fits c.args.self.now.router c.args.path.now c.args.self.now.whole c.in-Err.ensures.missing
