use Rattle.std.proofs.Common.{None, true, false, refl, sym, ◌∙◌}
use Rattle.lrs_machine.specs.Fold.{state_of}
use Rattle.lrs_machine.specs.Line.{line_of}
use Rattle.lrs_machine.proofs.ActLemmas.{settled_doubt, unsettled_doubt}
use Rattle.lrs_machine.proofs.OpenLemmas.{closed, closed_stands, settle_moves}
use Rattle.lrs_machine.proofs.Tied.{kept_still, stops_act}
use Rattle.lrs_machine.proofs.desk.Desk.close.Goals as goal

pub returns-in-Ok-clause-closed : goal.returns-in-Ok-clause-closed
returns-in-Ok-clause-closed g c =
    let i = c.self.inside in
    let s = c.settle.ensures in
    rw (c.into_disk.ensures.disk) (rw (sym c.self.view_is)
    (closed g.D.Disk.told g.D.Disk.image g.D.Disk.time g.D.Disk.image_since i.journal c.settle.new.self (state_of i.fold) (line_of i.opened_at i.opening.items i.acts.items) false
    c.self.invariant.0 s.frames s.sound (settled_doubt i.journal c.settle.new.self c.settle.result c.in-Ok.field-0 c.in-Ok.is s.none s.some)))

pub returns-in-Ok-clause-durable : goal.returns-in-Ok-clause-durable
returns-in-Ok-clause-durable g c =
    let i = c.self.inside in
    let s = c.settle.ensures in
    rw (c.into_disk.ensures.disk) (rw (sym c.self.view_is)
    (closed_stands g.D.Disk.told g.D.Disk.image g.D.Disk.time g.D.Disk.image_since g.met.D.Disk.tells i.journal c.settle.new.self (state_of i.fold) (line_of i.opened_at i.opening.items i.acts.items)
    c.self.invariant.0 s.frames s.sound (settled_doubt i.journal c.settle.new.self c.settle.result c.in-Ok.field-0 c.in-Ok.is s.none s.some)))

pub returns-in-Ok-clause-stops : goal.returns-in-Ok-clause-stops
returns-in-Ok-clause-stops g c =
    let i = c.self.inside in
    let s = c.settle.ensures in
    let line = line_of i.opened_at i.opening.items i.acts.items in
    rw (c.into_disk.ensures.disk) (rw (sym c.self.view_is)
    (stops_act g.D.Disk.told g.D.Disk.image g.D.Disk.time g.D.Disk.image_since g.met.D.Disk.only_now i.journal c.settle.new.self (state_of i.fold) (state_of i.fold) None line line c.self.invariant.0
    (settle_moves g.D.Disk.told g.D.Disk.image g.D.Disk.time g.D.Disk.image_since i.journal c.settle.new.self (state_of i.fold) line c.self.invariant.0 s.frames s.later s.any_moment)))

pub returns-clause-stops_err : goal.returns-clause-stops_err
returns-clause-stops_err g c =
    let i = c.self.inside in
    let s = c.settle.ensures in
    let line = line_of i.opened_at i.opening.items i.acts.items in
    rw (c.into_disk-in-Err.ensures.disk) (rw (sym c.self.view_is)
    (stops_act g.D.Disk.told g.D.Disk.image g.D.Disk.time g.D.Disk.image_since g.met.D.Disk.only_now i.journal c.settle.new.self (state_of i.fold) (state_of i.fold) None line line c.self.invariant.0
    (settle_moves g.D.Disk.told g.D.Disk.image g.D.Disk.time g.D.Disk.image_since i.journal c.settle.new.self (state_of i.fold) line c.self.invariant.0 s.frames s.later s.any_moment)))

pub returns-in-Ok-clause-kept_line : goal.returns-in-Ok-clause-kept_line
returns-in-Ok-clause-kept_line g c =
    let i = c.self.inside in
    let s = c.settle.ensures in
    let line = line_of i.opened_at i.opening.items i.acts.items in
    rw (c.into_disk.ensures.disk) (rw (sym c.self.view_is)
    (λ b there. kept_still g.D.Disk.told g.D.Disk.image g.D.Disk.time g.D.Disk.image_since g.met.D.Disk.only_now i.journal c.settle.new.self (state_of i.fold) (state_of i.fold) None line line refl c.self.invariant.0
    (settle_moves g.D.Disk.told g.D.Disk.image g.D.Disk.time g.D.Disk.image_since i.journal c.settle.new.self (state_of i.fold) line c.self.invariant.0 s.frames s.later s.any_moment) b there))

pub returns-clause-kept_line_err : goal.returns-clause-kept_line_err
returns-clause-kept_line_err g c =
    let i = c.self.inside in
    let s = c.settle.ensures in
    let line = line_of i.opened_at i.opening.items i.acts.items in
    rw (c.into_disk-in-Err.ensures.disk) (rw (sym c.self.view_is)
    (λ b there. kept_still g.D.Disk.told g.D.Disk.image g.D.Disk.time g.D.Disk.image_since g.met.D.Disk.only_now i.journal c.settle.new.self (state_of i.fold) (state_of i.fold) None line line refl c.self.invariant.0
    (settle_moves g.D.Disk.told g.D.Disk.image g.D.Disk.time g.D.Disk.image_since i.journal c.settle.new.self (state_of i.fold) line c.self.invariant.0 s.frames s.later s.any_moment) b there))

pub returns-clause-failed : goal.returns-clause-failed
returns-clause-failed g c =
    let i = c.self.inside in
    let s = c.settle.ensures in
    rw (c.into_disk-in-Err.ensures.disk) (rw (sym c.self.view_is) (
      sym c.self.invariant.0.doubts ∙ unsettled_doubt i.journal c.settle.new.self c.settle.result c.in-Err.failed c.in-Err.is s.none,
      closed g.D.Disk.told g.D.Disk.image g.D.Disk.time g.D.Disk.image_since i.journal c.settle.new.self (state_of i.fold) (line_of i.opened_at i.opening.items i.acts.items) true
          c.self.invariant.0 s.frames s.sound (c.in-Err.ensures.failed refl),
    ))

pub returns-in-Ok-clause-legal : goal.returns-in-Ok-clause-legal
returns-in-Ok-clause-legal g c = rw (sym c.self.view_is) c.self.invariant.0.legal

pub returns-clause-legal : goal.returns-clause-legal
returns-clause-legal g c = rw (sym c.self.view_is) c.self.invariant.0.legal

pub returns-in-Ok-clause-later : goal.returns-in-Ok-clause-later
returns-in-Ok-clause-later g c = rw (c.into_disk.ensures.disk) (rw (sym c.self.view_is) c.settle.ensures.later)

pub returns-clause-later_err : goal.returns-clause-later_err
returns-clause-later_err g c = rw (c.into_disk-in-Err.ensures.disk) (rw (sym c.self.view_is) c.settle.ensures.later)

pub returns-in-Ok-clause-kept : goal.returns-in-Ok-clause-kept
returns-in-Ok-clause-kept g c = rw (c.into_disk.ensures.disk) (rw (sym c.self.view_is) (c.in-Ok.ensures.cause.kept refl))

pub returns-clause-cause : goal.returns-clause-cause
returns-clause-cause g c =
    rw (c.into_disk-in-Err.ensures.disk) (rw (sym c.self.view_is) (c.in-Err.ensures.cause.later, c.in-Err.ensures.cause.failed refl))
