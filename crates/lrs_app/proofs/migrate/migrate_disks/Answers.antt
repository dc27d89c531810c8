use Rattle.std.proofs.Common.{inl, inr}
use Rattle.lrs_app.proofs.Moving.{move_cause, moved, only_read, unmoved}
use Rattle.lrs_app.proofs.migrate.migrate_disks.Goals as goal

pub returns-in-Ok-close-clause-moves : goal.returns-in-Ok-close-clause-moves
returns-in-Ok-close-clause-moves g c =
    let m = c.in-Ok.ensures in (
      only_read g.D.Disk c.args.old c.in-Ok.moved.old c.requires.old m.same m.still m.later.0,
      inl (moved g.D.Disk g.met.D.Disk.counts_now g.met.D.Disk.only_now c.args.old c.args.new c.in-Ok.moved.desk c.in-Ok-close.new c.args.limit c.length-length.result m.moved.0 c.requires.new
          m.moved.1 m.moved.3 m.moved.4 m.moved.5 m.limit m.moment m.durable m.free m.stops m.tells m.later.1
          c.in-Ok-close.ensures.closed c.in-Ok-close.ensures.durable c.in-Ok-close.ensures.stops c.in-Ok-close.ensures.later c.length-length.ensures),
    )

pub returns-in-Err-clause-moves : goal.returns-in-Err-clause-moves
returns-in-Err-clause-moves g c =
    let e = c.in-Err.ensures in (
      only_read g.D.Disk c.args.old c.in-Err.old c.requires.old e.same_err e.still_err e.later_err.0,
      inr (rw c.unmoved.ensures (unmoved g.D.Disk g.met.D.Disk.reads_image g.met.D.Disk.counts_now c.args.old c.args.new c.in-Err.new c.args.limit c.in-Err.refused c.requires.new
          e.unbegun e.untouched e.stops_err e.none_err e.later_err.1 e.refused e.full e.movable e.tells_err)),
    )

pub returns-in-Err-clause-cause : goal.returns-in-Err-clause-cause
returns-in-Err-clause-cause g c =
    rw c.unmoved.ensures (move_cause c.in-Err.refused (g.D.Disk.fault_count c.args.old) (g.D.Disk.fault_count c.in-Err.old) (g.D.Disk.fault_count c.args.new) (g.D.Disk.fault_count c.in-Err.new) c.in-Err.ensures.cause)
