use Rattle.std.proofs.Common.{refl, arith}
use Rattle.lrs_disk.proofs.Moments.{started, stepped}
use Rattle.lrs_journal.specs.Steps.{KeepsUpTo}
use Rattle.lrs_journal.proofs.Lists.{torn_behind}
use Rattle.lrs_journal.proofs.builder.write_header.Goals as goal

pub returns-clause-any_moment : goal.returns-clause-any_moment
returns-clause-any_moment g c =
    let T = g.D.Disk.time in
    let S = g.D.Disk.image_since in
    let I = g.D.Disk.image in
    let cn = g.met.D.Disk.counts_now in
    let on = g.met.D.Disk.only_now in
    let d0 = c.args.disk.now in
    let P = KeepsUpTo 1 (I d0) in
    let at_start = started T S I cn on d0 P (λ f left. (f, left, refl)) in
    stepped T S I cn on d0 d0 c.write_at.new.self P _ at_start c.write_at.ensures.time c.write_at.ensures.crash (torn_behind 1 _ _ (I d0) (omega arith))
