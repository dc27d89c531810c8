use Rattle.std.proofs.Common.{arith}
use Rattle.lrs_hall.specs.Serving.{tide_at}
use Rattle.lrs_app.proofs.Served.{closed, closed_cause, failed}
use Rattle.lrs_app.proofs.Serving.{rises_later}
use Rattle.lrs_app.proofs.serve.serve_opened.Goals as goal

pub returns-in-Ok-clause-served : goal.returns-in-Ok-clause-served
returns-in-Ok-clause-served g c =
    let laws = g.met.D.Disk g.world.𝓛 g.world.𝓜 g.world.𝓡 ((λ s x. x), (λ x. x), (λ x. x), λ x. x) in
    closed g.D.Disk laws.counts_now laws.only_now laws.since_later
    c.args.desk c.serve_desk-desk.result.0 c.in-Ok.disk c.args.address.now c.args.workers c.args.connections c.args.seed _ _ c.serve_desk-desk.result.1
    c.length-length.result c.serve_desk-desk.result.2 c.requires.opened c.serve_desk-desk.ensures.goes_on c.length-length.ensures c.close.ensures.legal
    c.serve_desk-desk.ensures.within c.serve_desk-desk.ensures.later (omega (arith, c.in-Ok.ensures.kept)) c.in-Ok.ensures.later c.in-Ok.ensures.stops c.in-Ok.ensures.kept_line
    c.in-Ok.ensures.closed c.in-Ok.ensures.durable c.in-Ok.ensures.kept c.serve_desk-desk.ensures.served

pub returns-in-Err-clause-served : goal.returns-in-Err-clause-served
returns-in-Err-clause-served g c =
    let laws = g.met.D.Disk g.world.𝓛 g.world.𝓜 g.world.𝓡 ((λ s x. x), (λ x. x), (λ x. x), λ x. x) in
    failed g.D.Disk laws.counts_now laws.only_now laws.since_later
    c.args.desk c.serve_desk-desk.result.0 c.in-Err.disk c.args.address.now c.args.workers c.args.connections c.args.seed _ _ c.serve_desk-desk.result.1
    c.length-length.result c.serve_desk-desk.result.2 c.requires.opened c.serve_desk-desk.ensures.goes_on c.length-length.ensures c.close.ensures.legal
    c.serve_desk-desk.ensures.within c.serve_desk-desk.ensures.later c.in-Err.ensures.cause.0 c.in-Err.ensures.later_err c.in-Err.ensures.stops_err c.in-Err.ensures.kept_line_err
    c.in-Err.ensures.failed.0 c.in-Err.ensures.failed.1 c.in-Err.ensures.cause.1 c.serve_desk-desk.ensures.served

pub returns-in-Ok-clause-cause : goal.returns-in-Ok-clause-cause
returns-in-Ok-clause-cause g c =
    closed_cause (tide_at g.D.Disk.fault_count g.D.Disk.time) c.args.desk c.serve_desk-desk.result.0 c.args.address.now c.args.workers c.args.connections c.args.seed _ _ c.serve_desk-desk.result.1
    c.serve_desk-desk.result.2 _ _ c.serve_desk-desk.ensures.served

pub returns-in-Err-clause-cause : goal.returns-in-Err-clause-cause
returns-in-Err-clause-cause g c =
    rises_later (g.D.Disk.fault_count c.args.desk.disk) (g.D.Disk.fault_count c.serve_desk-desk.result.0.disk) _ c.serve_desk-desk.ensures.later c.in-Err.ensures.cause.1

pub returns-in-Ok-clause-counts : goal.returns-in-Ok-clause-counts
returns-in-Ok-clause-counts g c =
    let so = c.serve_desk-desk.ensures in
    (tide_at g.D.Disk.fault_count g.D.Disk.time c.serve_desk-desk.result.0.disk, so.within, (so.later, so.goes_on.later), (omega (arith, c.in-Ok.ensures.kept), c.in-Ok.ensures.later))

pub returns-in-Err-clause-counts : goal.returns-in-Err-clause-counts
returns-in-Err-clause-counts g c =
    let so = c.serve_desk-desk.ensures in
    (tide_at g.D.Disk.fault_count g.D.Disk.time c.serve_desk-desk.result.0.disk, so.within, (so.later, so.goes_on.later), (c.in-Err.ensures.cause.0, c.in-Err.ensures.later_err))
