use Rattle.std.proofs.Common.{◌≤◌, ◌<◌, ◌^◌, ◌∙◌, ◌++◌, [], ◌∷◌, length, false, true≢false, refl, sym, ap, subst, arith}
use Rattle.lrs_disk.specs.Disk.{LeavesOnly}
use Rattle.lrs_disk.proofs.Moments.{started, now_has, weaker_run}
use Rattle.lrs_journal.specs.Builder.{Builder, IsBuilding}
use Rattle.lrs_journal.specs.Journal.{TellsAlike}
use Rattle.lrs_journal.specs.Steps.{KeepsUpTo}
use Rattle.lrs_journal.specs.Store.{HasNoHeader}
use Rattle.lrs_journal.proofs.Creating.{behind_shut, laid_length, laid_push, shut_none}
use Rattle.lrs_journal.proofs.Opening.{building_more}
use Rattle.lrs_journal.proofs.Told.{alike_self}
use Rattle.lrs_journal.proofs.builder.Builder.add.Goals as goal

pub returns-in_err-has_room-clause-any_moment : goal.returns-in_err-has_room-clause-any_moment
returns-in_err-has_room-clause-any_moment g c =
    let T = g.D.Disk.time in
    let S = g.D.Disk.image_since in
    let I = g.D.Disk.image in
    let cn = g.met.D.Disk.counts_now in
    let on = g.met.D.Disk.only_now in
    let told = g.D.Disk.told in
    let i = c.self.inside in
    subst (λ (b : Builder _). LeavesOnly T S b.disk b.disk HasNoHeader) c.self.view_is (started T S I cn on i.disk HasNoHeader (λ f left. shut_none f (c.self.invariant.shut f left)))

pub returns-in_err-has_room-clause-tells : goal.returns-in_err-has_room-clause-tells
returns-in_err-has_room-clause-tells g c = alike_self (g.D.Disk.told c.args.self.now.disk)

pub lay-requires-clause-end : goal.lay-requires-clause-end
lay-requires-clause-end g c b told_b =
    let i = c.self.inside in
    let whole = ap (λ (b : Builder _). b.broken) c.self.view_is ∙ c.requires in
    let tied = c.self.invariant.tied whole b told_b in
    laid_length i.limit i.end i.number tied.0 b tied.1

pub invariant_of-self : goal.invariant_of-self
invariant_of-self g c = record {
  least = c.self.invariant.least;
  most = c.self.invariant.most;
  few = c.self.invariant.few;
  far = c.self.invariant.far;
  fits = c.self.invariant.fits;
  shut = λ f left.
      let i = c.self.inside in
      let I = g.D.Disk.image in
      let some : 1 ≤ i.end = omega (arith, c.self.invariant.far) in
      behind_shut i.end (I i.disk) f some c.self.invariant.shut
      (now_has g.D.Disk.time g.D.Disk.image_since I g.met.D.Disk.counts_now g.met.D.Disk.only_now i.disk c.lay.new.disk (KeepsUpTo i.end (I i.disk)) c.lay.ensures.any_moment f left);
  tied = λ no. absurd (true≢false no);
}

pub returns-in_err-lay-clause-any_moment : goal.returns-in_err-lay-clause-any_moment
returns-in_err-lay-clause-any_moment g c =
    let T = g.D.Disk.time in
    let S = g.D.Disk.image_since in
    let I = g.D.Disk.image in
    let cn = g.met.D.Disk.counts_now in
    let on = g.met.D.Disk.only_now in
    let told = g.D.Disk.told in
    let i = c.self.inside in
    let some : 1 ≤ i.end = omega (arith, c.self.invariant.far) in
    subst (λ (b : Builder _). LeavesOnly T S b.disk c.lay.new.disk HasNoHeader) c.self.view_is
    (weaker_run T S I cn on i.disk c.lay.new.disk (KeepsUpTo i.end (I i.disk)) HasNoHeader c.lay.ensures.any_moment (λ f kept. shut_none f (behind_shut i.end (I i.disk) f some c.self.invariant.shut kept)))

pub returns-in_err-lay-clause-tells : goal.returns-in_err-lay-clause-tells
returns-in_err-lay-clause-tells g c = subst (λ (b : Builder _). TellsAlike (g.D.Disk.told b.disk) (g.D.Disk.told c.lay.new.disk)) c.self.view_is c.lay.ensures.tells

pub invariant_of-self-2 : goal.invariant_of-self-2
invariant_of-self-2 g c = record {
  least = c.self.invariant.least;
  most = c.self.invariant.most;
  few = omega (arith, c.self.invariant.few);
  far = omega (arith, c.self.invariant.far);
  fits = omega (arith, c.in_ok-has_room.ensures.fits refl);
  shut = λ f left.
      let i = c.self.inside in
      let I = g.D.Disk.image in
      let some : 1 ≤ i.end = omega (arith, c.self.invariant.far) in
      behind_shut i.end (I i.disk) f some c.self.invariant.shut
      (now_has g.D.Disk.time g.D.Disk.image_since I g.met.D.Disk.counts_now g.met.D.Disk.only_now i.disk c.lay.new.disk (KeepsUpTo i.end (I i.disk)) c.lay.ensures.any_moment f left);
  tied = λ _ f told_f.
      let i = c.self.inside in
      let p = c.args.payload.now in
      let from = c.in_ok-lay.ensures.laid f told_f in
      let whole = ap (λ (b : Builder _). b.broken) c.self.view_is ∙ c.requires in
      let tied = c.self.invariant.tied whole from.0 from.1 in
      let small : length p < 2 ^ 32 = omega (arith, c.in_ok-has_room.ensures.fits refl, c.self.invariant.most) in
      (tied.0 ++ p ∷ [], laid_push i.limit i.end i.number tied.0 p from.0 f tied.1 small from.2);
}

pub returns-clause-added : goal.returns-clause-added
returns-clause-added g c _ payloads h =
    let i = c.self.inside in
    let p = c.args.payload.now in
    let small : length p < 2 ^ 32 = omega (arith, c.in_ok-has_room.ensures.fits refl, c.self.invariant.most) in
    let old = subst (λ (b : Builder _). IsBuilding g.D.Disk.told b payloads) (sym c.self.view_is) h in
    building_more g.D.Disk.told i.disk c.lay.new.disk i.limit i.end i.number i.broken false payloads p small old c.in_ok-lay.ensures.laid

pub returns-clause-any_moment : goal.returns-clause-any_moment
returns-clause-any_moment g c =
    let T = g.D.Disk.time in
    let S = g.D.Disk.image_since in
    let I = g.D.Disk.image in
    let cn = g.met.D.Disk.counts_now in
    let on = g.met.D.Disk.only_now in
    let told = g.D.Disk.told in
    let i = c.self.inside in
    let some : 1 ≤ i.end = omega (arith, c.self.invariant.far) in
    subst (λ (b : Builder _). LeavesOnly T S b.disk c.lay.new.disk HasNoHeader) c.self.view_is
    (weaker_run T S I cn on i.disk c.lay.new.disk (KeepsUpTo i.end (I i.disk)) HasNoHeader c.lay.ensures.any_moment (λ f kept. shut_none f (behind_shut i.end (I i.disk) f some c.self.invariant.shut kept)))

pub returns-clause-tells : goal.returns-clause-tells
returns-clause-tells g c = subst (λ (b : Builder _). TellsAlike (g.D.Disk.told b.disk) (g.D.Disk.told c.lay.new.disk)) c.self.view_is c.lay.ensures.tells
