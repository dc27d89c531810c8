use Rattle.lrs_app.proofs.Loads.{load_since, load_unopened}
use Rattle.lrs_app.proofs.Openings.{opened_of}
use Rattle.lrs_app.proofs.Taking.{leaves_unopened}
use Rattle.lrs_app.proofs.load.load_disk.Goals as goal

pub load_opened-requires-clause-opened : goal.load_opened-requires-clause-opened
load_opened-requires-clause-opened g c κs within =
    opened_of g.D.Disk c.in-Ok.desk c.in-Ok.ensures.opening.0 c.in-Ok.ensures.opening.1 c.in-Ok.ensures.moment c.in-Ok.ensures.opening.3 c.in-Ok.ensures.durable

pub returns-in-Ok-clause-ends : goal.returns-in-Ok-clause-ends
returns-in-Ok-clause-ends g c =
    load_since g.D.Disk g.met.D.Disk.counts_now g.met.D.Disk.only_now c.args.disk c.in-Ok.desk c.load_opened.result.1 c.args.seed c.args.count c.args.draws.now
    (g.B.Lobby.readings c.args.lobby.now) (g.B.Lobby.readings c.load_opened.new.lobby) c.load_opened.result.2 c.load_opened.result.0 c.in-Ok.ensures.opening.0 c.in-Ok.ensures.opening.1
    c.in-Ok.ensures.opening.4 c.requires.settled c.in-Ok.ensures.stops c.in-Ok.ensures.tells c.in-Ok.ensures.later c.load_opened.ensures.ends

pub returns-in-Err-clause-ends : goal.returns-in-Err-clause-ends
returns-in-Err-clause-ends g c =
    load_unopened g.D.Disk c.args.disk c.in-Err.disk c.args.seed c.args.count c.args.draws.now (g.B.Lobby.readings c.args.lobby.now) c.unopened.result
    (leaves_unopened g.D.Disk c.args.disk c.in-Err.disk c.in-Err.refused c.unopened.result c.unopened.ensures c.in-Err.ensures.refused c.in-Err.ensures.same c.in-Err.ensures.left
    c.in-Err.ensures.legal c.requires.settled c.in-Err.ensures.stops_err c.in-Err.ensures.untouched c.in-Err.ensures.later_err)
