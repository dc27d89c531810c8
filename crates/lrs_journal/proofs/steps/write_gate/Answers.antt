use Rattle.std.proofs.Common.{refl}
use Rattle.lrs_disk.proofs.Moments.{started, stepped, stayed}
use Rattle.lrs_journal.specs.Steps.{IsAtGate}
use Rattle.lrs_journal.proofs.Lists.{torn_gate}
use Rattle.lrs_journal.proofs.steps.write_gate.Goals as goal

pub returns-clause-any_moment : goal.returns-clause-any_moment
returns-clause-any_moment g c =
    let T = g.D.Disk.time in
    let S = g.D.Disk.image_since in
    let I = g.D.Disk.image in
    let cn = g.met.D.Disk.counts_now in
    let on = g.met.D.Disk.only_now in
    let d0 = c.args.disk.now in
    let P = IsAtGate c.args.offset (I d0) in
    let at_start = started T S I cn on d0 P (λ f left. (f, left, refl, refl)) in
    let opened = stepped T S I cn on d0 d0 c.write_at.new.self P _ at_start c.write_at.ensures.time c.write_at.ensures.crash (torn_gate c.args.offset (I d0)) in
    stayed T S I cn on d0 c.write_at.new.self c.sync.new.self P opened c.sync.ensures.time c.sync.ensures.crash
