use Rattle.lrs_disk.proofs.Moments.{started, stayed, then_run}
use Rattle.lrs_journal.specs.Steps.{IsCutBack}
use Rattle.lrs_journal.proofs.Cutting.{uncut}
use Rattle.lrs_journal.proofs.steps.close_end.Goals as goal

pub returns-in_err-number-clause-any_moment : goal.returns-in_err-number-clause-any_moment
returns-in_err-number-clause-any_moment g c =
    let offset = c.args.offset in
    let T = g.D.Disk.time in
    let S = g.D.Disk.image_since in
    let I = g.D.Disk.image in
    let cn = g.met.D.Disk.counts_now in
    let on = g.met.D.Disk.only_now in
    let d0 = c.args.disk.now in
    let P = IsCutBack offset (I d0) in
    let at_start = started T S I cn on d0 P (λ f left. uncut offset (I d0) f left (c.requires.offset f (c.requires.fixed f left))) in
    let read = stayed T S I cn on d0 d0 c.read_at.new.self P at_start c.read_at.ensures.time c.read_at.ensures.crash in
    read

pub returns-clause-any_moment : goal.returns-clause-any_moment
returns-clause-any_moment g c =
    let offset = c.args.offset in
    let T = g.D.Disk.time in
    let S = g.D.Disk.image_since in
    let I = g.D.Disk.image in
    let cn = g.met.D.Disk.counts_now in
    let on = g.met.D.Disk.only_now in
    let d0 = c.args.disk.now in
    let P = IsCutBack offset (I d0) in
    let at_start = started T S I cn on d0 P (λ f left. uncut offset (I d0) f left (c.requires.offset f (c.requires.fixed f left))) in
    let read = stayed T S I cn on d0 d0 c.read_at.new.self P at_start c.read_at.ensures.time c.read_at.ensures.crash in
    then_run T S I cn on d0 c.read_at.new.self c.repair.new.disk P (IsCutBack offset (I c.read_at.new.self)) read c.repair.ensures.any_moment
    (λ f back. (back.0, c.read_at.ensures.crash back.0 back.1, back.2, back.3, back.4))
