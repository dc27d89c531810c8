use Rattle.std.proofs.Common.{arith, length, ap, sym, ◌∙◌}
use Rattle.lrs_hall.specs.Serving.{tide_at}
use Rattle.lrs_app.proofs.Openings.{opened_history, opened_of}
use Rattle.lrs_app.proofs.Served.{opened_serves}
use Rattle.lrs_app.proofs.Serving.{counts_none, counts_since, unopened_serves}
use Rattle.lrs_app.proofs.Taking.{leaves_unopened, store_of}
use Rattle.lrs_app.proofs.serve.serve_disk.Goals as goal

pub serve_opened-requires-clause-opened : goal.serve_opened-requires-clause-opened
serve_opened-requires-clause-opened g c κs within =
    opened_of g.D.Disk c.in-Ok.desk c.in-Ok.ensures.opening.0 c.in-Ok.ensures.opening.1 c.in-Ok.ensures.moment c.in-Ok.ensures.opening.3 c.in-Ok.ensures.durable

pub serve_opened-requires-clause-origin : goal.serve_opened-requires-clause-origin
serve_opened-requires-clause-origin g c κs within =
    let opening = c.in-Ok.ensures.opening in
    (opening.2 ∙ ap length (sym (opened_history c.in-Ok.desk opening.0 opening.1)), c.in-Ok.ensures.origin)

pub returns-in-Ok-clause-served : goal.returns-in-Ok-clause-served
returns-in-Ok-clause-served g c =
    let laws = g.met.D.Disk g.world.𝓛 g.world.𝓜 g.world.𝓡 ((λ s x. x), (λ x. x), (λ x. x), λ x. x) in
    opened_serves g.D.Disk laws.counts_now laws.only_now c.args.disk c.in-Ok.desk c.serve_opened.result.disk c.args.address.now c.args.workers c.args.connections c.args.seed _ _
    c.serve_opened.result.talks c.serve_opened.result.length c.serve_opened.result.ending
    (store_of c.in-Ok.desk (g.D.Disk.told c.args.disk) c.in-Ok.ensures.opening.0 c.in-Ok.ensures.opening.1 c.in-Ok.ensures.opening.4) c.requires.settled
    c.in-Ok.ensures.stops c.in-Ok.ensures.tells c.in-Ok.ensures.kept c.in-Ok.ensures.later c.serve_opened.ensures.served

pub returns-in-Err-clause-served : goal.returns-in-Err-clause-served
returns-in-Err-clause-served g c =
    unopened_serves g.D.Disk _ c.in-Err.disk c.args.address.now c.args.workers c.args.connections c.args.seed _ c.new.result c.in-Err.refused c.unopened.result c.unopened.ensures c.new.ensures
    (leaves_unopened g.D.Disk c.args.disk c.in-Err.disk c.in-Err.refused c.unopened.result c.unopened.ensures c.in-Err.ensures.refused c.in-Err.ensures.same c.in-Err.ensures.left
    c.in-Err.ensures.legal c.requires.settled c.in-Err.ensures.stops_err c.in-Err.ensures.untouched c.in-Err.ensures.later_err)

pub returns-in-Ok-clause-counts : goal.returns-in-Ok-clause-counts
returns-in-Ok-clause-counts g c =
    counts_since (tide_at g.D.Disk.fault_count g.D.Disk.time c.args.disk) (tide_at g.D.Disk.fault_count g.D.Disk.time c.in-Ok.desk.disk) (tide_at g.D.Disk.fault_count g.D.Disk.time c.serve_opened.result.disk)
    c.serve_opened.result.talks (omega (arith, c.in-Ok.ensures.kept), c.in-Ok.ensures.later) c.serve_opened.ensures.counts

pub returns-in-Err-clause-counts : goal.returns-in-Err-clause-counts
returns-in-Err-clause-counts g c =
    counts_none (tide_at g.D.Disk.fault_count g.D.Disk.time c.args.disk) (tide_at g.D.Disk.fault_count g.D.Disk.time c.in-Err.disk) c.new.result c.new.ensures (c.in-Err.ensures.faults, c.in-Err.ensures.later_err)
