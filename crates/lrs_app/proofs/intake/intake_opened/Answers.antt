use Rattle.lrs_app.proofs.Opened.{closes, fails}
use Rattle.lrs_app.proofs.intake.intake_opened.Goals as goal

pub returns-in-Ok-clause-ends : goal.returns-in-Ok-clause-ends
returns-in-Ok-clause-ends g c =
    closes g.D.Disk g.met.D.Disk.counts_now g.met.D.Disk.only_now c.args.desk c.take_in-ending.new.desk c.in-Ok.disk c.requires.opened c.take_in-ending.ensures.goes_on
    c.length-length.result c.length-length.ensures c.in-Ok.ensures.later c.close.ensures.legal c.in-Ok.ensures.stops (g.I.Source.left c.args.input.now) c.args.clock c.args.draw.now
    c.take_in-ending.result c.take_in-ending.ensures.ends c.in-Ok.ensures.closed c.in-Ok.ensures.durable

pub returns-in-Err-clause-ends : goal.returns-in-Err-clause-ends
returns-in-Err-clause-ends g c =
    fails g.D.Disk g.met.D.Disk.counts_now g.met.D.Disk.only_now c.args.desk c.take_in-ending.new.desk c.in-Err.disk c.requires.opened c.take_in-ending.ensures.goes_on
    c.length-length.result c.length-length.ensures c.in-Err.ensures.later_err c.close.ensures.legal c.in-Err.ensures.stops_err (g.I.Source.left c.args.input.now) c.args.clock c.args.draw.now
    c.take_in-ending.result c.take_in-ending.ensures.ends c.take_in-ending.ensures.doubts c.in-Err.ensures.failed.0 c.in-Err.ensures.failed.1
