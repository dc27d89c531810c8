use Rattle.lrs_hall.specs.LrsFoldOwn.{founding_entry}
use Rattle.lrs_app.proofs.NotFounded.{not_founded, founded_ends}
use Rattle.lrs_app.proofs.init.init_disk.Goals as goal

pub returns-in-Err-clause-ends : goal.returns-in-Err-clause-ends
returns-in-Err-clause-ends g c =
    rw c.unfounded.ensures (not_founded g.D.Disk g.met.D.Disk.reads_image g.met.D.Disk.counts_now c.args.limit (founding_entry c.args.admin.now c.args.base.now c.args.clock)
    c.args.disk c.in-Err.disk c.in-Err.refused c.requires.settled c.in-Err.ensures.refused c.in-Err.ensures.full c.in-Err.ensures.untouched
    c.in-Err.ensures.untouched_store c.in-Err.ensures.tells_err c.in-Err.ensures.stops_err c.in-Err.ensures.later_err)

pub returns-in-Ok-close-clause-ends : goal.returns-in-Ok-close-clause-ends
returns-in-Ok-close-clause-ends g c =
    founded_ends g.D.Disk g.met.D.Disk.counts_now g.met.D.Disk.only_now c.args.limit (founding_entry c.args.admin.now c.args.base.now c.args.clock)
    c.args.disk c.in-Ok.desk c.in-Ok-close.disk c.requires.settled c.in-Ok.ensures.fields.0 c.in-Ok.ensures.line c.in-Ok.ensures.durable.legal c.in-Ok.ensures.room
    c.in-Ok.ensures.free c.in-Ok.ensures.tells c.in-Ok.ensures.stops c.in-Ok-close.ensures.closed c.in-Ok-close.ensures.durable c.in-Ok-close.ensures.stops
    c.in-Ok.ensures.later c.in-Ok-close.ensures.later
