use Rattle.lrs_app.proofs.Loads.{closed_cause, closes_loaded, failed_cause, fails_loaded}
use Rattle.lrs_app.proofs.Openings.{opened_settled}
use Rattle.lrs_app.proofs.load.load_opened.Goals as goal

pub load_batches-ending-requires-clause-settled : goal.load_batches-ending-requires-clause-settled
load_batches-ending-requires-clause-settled g c κs within = opened_settled g.D.Disk c.args.desk c.requires.opened

pub returns-in-Ok-clause-ends : goal.returns-in-Ok-clause-ends
returns-in-Ok-clause-ends g c =
    let l = c.load_batches-ending in
    closes_loaded g.D.Disk g.met.D.Disk.counts_now g.met.D.Disk.only_now c.args.desk l.new.desk c.in-Ok.disk c.requires.opened c.args.seed c.args.count c.args.draws.now
    (g.B.Lobby.readings c.args.lobby.now) (g.B.Lobby.readings l.new.lobby) l.result l.ensures.loaded c.length-length.result c.length-length.ensures c.in-Ok.ensures.later c.close.ensures.legal c.in-Ok.ensures.stops
    c.in-Ok.ensures.closed c.in-Ok.ensures.durable

pub returns-in-Ok-clause-cause : goal.returns-in-Ok-clause-cause
returns-in-Ok-clause-cause g c =
    let l = c.load_batches-ending in
    closed_cause (g.D.Disk.fault_count c.args.desk.disk) (g.D.Disk.fault_count l.new.desk.disk) (g.D.Disk.fault_count c.in-Ok.disk) l.result l.ensures.loaded.cause c.in-Ok.ensures.kept

pub returns-in-Err-clause-ends : goal.returns-in-Err-clause-ends
returns-in-Err-clause-ends g c =
    let l = c.load_batches-ending in
    fails_loaded g.D.Disk g.met.D.Disk.counts_now g.met.D.Disk.only_now c.args.desk l.new.desk c.in-Err.disk c.requires.opened c.args.seed c.args.count c.args.draws.now
    (g.B.Lobby.readings c.args.lobby.now) (g.B.Lobby.readings l.new.lobby) l.result l.ensures.loaded c.length-length.result c.length-length.ensures c.in-Err.ensures.later_err c.close.ensures.legal c.in-Err.ensures.stops_err
    c.in-Err.ensures.failed.0 c.in-Err.ensures.failed.1

pub returns-in-Err-clause-cause : goal.returns-in-Err-clause-cause
returns-in-Err-clause-cause g c =
    let l = c.load_batches-ending in
    failed_cause (g.D.Disk.fault_count c.args.desk.disk) (g.D.Disk.fault_count l.new.desk.disk) (g.D.Disk.fault_count c.in-Err.disk) l.result l.ensures.loaded.cause
    (l.ensures.loaded.lost c.in-Err.ensures.failed.0).0 c.in-Err.ensures.cause.1
