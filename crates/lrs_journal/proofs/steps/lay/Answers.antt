use Rattle.std.proofs.Common.{◌∙◌, ap, refl, arith}
use Rattle.std.proofs.lemmas.Result.{on_ok_weaker}
use Rattle.lrs_disk.specs.Disk.{written}
use Rattle.lrs_disk.proofs.Moments.{started, stepped}
use Rattle.lrs_journal.specs.Steps.{KeepsUpTo}
use Rattle.lrs_journal.proofs.Lists.{torn_behind, laid_is}
use Rattle.lrs_journal.proofs.Told.{before}
use Rattle.lrs_journal.proofs.steps.lay.Goals as goal

pub returns-in_err-write_at-clause-any_moment : goal.returns-in_err-write_at-clause-any_moment
returns-in_err-write_at-clause-any_moment g c =
    let T = g.D.Disk.time in
    let S = g.D.Disk.image_since in
    let I = g.D.Disk.image in
    let cn = g.met.D.Disk.counts_now in
    let on = g.met.D.Disk.only_now in
    let d0 = c.args.disk.now in
    let P = KeepsUpTo c.args.offset (I d0) in
    let at_start = started T S I cn on d0 P (λ f left. (f, left, refl)) in
    stepped T S I cn on d0 d0 c.write_at.new.self P _ at_start c.write_at.ensures.time c.write_at.ensures.crash (torn_behind c.args.offset _ _ (I d0) (omega arith))

pub returns-clause-any_moment : goal.returns-clause-any_moment
returns-clause-any_moment g c =
    let T = g.D.Disk.time in
    let S = g.D.Disk.image_since in
    let I = g.D.Disk.image in
    let cn = g.met.D.Disk.counts_now in
    let on = g.met.D.Disk.only_now in
    let d0 = c.args.disk.now in
    let P = KeepsUpTo c.args.offset (I d0) in
    let at_start = started T S I cn on d0 P (λ f left. (f, left, refl)) in
    let one = stepped T S I cn on d0 d0 c.write_at.new.self P _ at_start c.write_at.ensures.time c.write_at.ensures.crash (torn_behind c.args.offset _ _ (I d0) (omega arith)) in
    stepped T S I cn on d0 c.write_at.new.self c.write_at-2.new.self P _ one c.write_at-2.ensures.time c.write_at-2.ensures.crash (torn_behind c.args.offset _ _ (I d0) (omega arith))

pub returns-clause-laid : goal.returns-clause-laid
returns-clause-laid g c =
    on_ok_weaker c.write_at-2.result (λ is f told_f.
    let second = before _ _ _ f is told_f in
    let first = before _ _ _ second.0 c.in_ok-write_at.ensures.written second.1 in (
      first.0,
      first.1,
      laid_is first.0 second.0 f c.args.offset c.args.number c.args.payload.now (c.requires.end first.0 first.1)
          (first.2 ∙ ap (λ l. written first.0 c.args.offset l) c.open_head_of.ensures) second.2,
    )) c.write_at-2.ensures.written
