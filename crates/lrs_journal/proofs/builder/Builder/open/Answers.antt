use Rattle.std.proofs.Common.{◌≡◌, ◌∙◌, List, ℕ, Bool, None, option_map, ap, subst, arith}
use Rattle.lrs_disk.specs.Disk.{LeavesOnly}
use Rattle.lrs_journal.specs.Builder.{Builder, IsBuilding, IsBuilt}
use Rattle.lrs_journal.specs.Journal.{frames_of}
use Rattle.lrs_journal.specs.Steps.{IsBuilder}
use Rattle.lrs_journal.proofs.Creating.{laid_length}
use Rattle.lrs_journal.proofs.Kept.{seen, settled_journal}
use Rattle.lrs_journal.proofs.Opening.{unlocked_frames, unlocked_sound, unlocking_run}
use Rattle.lrs_journal.proofs.builder.Builder.open.Goals as goal

pub unlock-requires : goal.unlock-requires
unlock-requires g c = record {
  end = λ b told_b.
      let i = c.self.inside in
      let whole = ap (λ (b : Builder _). b.broken) c.self.view_is ∙ c.requires.whole in
      let tied = c.self.invariant.tied whole b told_b in
      let long = laid_length i.limit i.end i.number tied.0 b tied.1 in omega (arith, long);
}

pub invariant_of-result : goal.invariant_of-result
invariant_of-result g c =
    let T = g.D.Disk.time in
    let S = g.D.Disk.image_since in
    let I = g.D.Disk.image in
    let cn = g.met.D.Disk.counts_now in
    let on = g.met.D.Disk.only_now in
    let told = g.D.Disk.told in
    let i = c.self.inside in
    let d1 = c.unlock.new.disk in
    let whole = ap (λ (b : Builder _). b.broken) c.self.view_is ∙ c.requires.whole in
    let builder = subst (λ (b : Bool). IsBuilder (told i.disk) (I i.disk) i.limit i.end i.number b) whole c.self.invariant in
    let sound = unlocked_sound told I g.met.D.Disk.reads_image i.disk d1 i.limit i.end i.number c.in-Ok.ensures.opened builder c.unlock.ensures.tells in
    sound

pub returns-in-Ok-clause-sound : goal.returns-in-Ok-clause-sound
returns-in-Ok-clause-sound g c =
    let T = g.D.Disk.time in
    let S = g.D.Disk.image_since in
    let I = g.D.Disk.image in
    let cn = g.met.D.Disk.counts_now in
    let on = g.met.D.Disk.only_now in
    let told = g.D.Disk.told in
    let i = c.self.inside in
    let d1 = c.unlock.new.disk in
    let whole = ap (λ (b : Builder _). b.broken) c.self.view_is ∙ c.requires.whole in
    let builder = subst (λ (b : Bool). IsBuilder (told i.disk) (I i.disk) i.limit i.end i.number b) whole c.self.invariant in
    let sound = unlocked_sound told I g.met.D.Disk.reads_image i.disk d1 i.limit i.end i.number c.in-Ok.ensures.opened builder c.unlock.ensures.tells in
    settled_journal told I g.met.D.Disk.reads_image d1 i.limit i.end i.number sound

pub returns-in-Ok-clause-opened : goal.returns-in-Ok-clause-opened
returns-in-Ok-clause-opened g c =
    let T = g.D.Disk.time in
    let S = g.D.Disk.image_since in
    let I = g.D.Disk.image in
    let cn = g.met.D.Disk.counts_now in
    let on = g.met.D.Disk.only_now in
    let told = g.D.Disk.told in
    let i = c.self.inside in
    let d1 = c.unlock.new.disk in
    subst (λ (b : Builder _). (payloads : List (List ℕ)) → IsBuilding told b payloads → frames_of told (seen d1 i.limit i.end i.number None) ≡ option_map (λ _. payloads) (told b.disk)) c.self.view_is
    (λ payloads h. unlocked_frames told I g.met.D.Disk.reads_image i.disk d1 i.limit i.end i.number c.in-Ok.ensures.opened i.broken payloads c.self.invariant.least c.self.invariant.most c.unlock.ensures.tells h)

pub returns-in-Ok-clause-any_moment : goal.returns-in-Ok-clause-any_moment
returns-in-Ok-clause-any_moment g c =
    let T = g.D.Disk.time in
    let S = g.D.Disk.image_since in
    let I = g.D.Disk.image in
    let cn = g.met.D.Disk.counts_now in
    let on = g.met.D.Disk.only_now in
    let told = g.D.Disk.told in
    let i = c.self.inside in
    let d1 = c.unlock.new.disk in
    subst (λ (b : Builder _). (payloads : List (List ℕ)) → IsBuilding told b payloads → LeavesOnly T S b.disk d1 (IsBuilt b.limit payloads)) c.self.view_is
    (λ payloads h. unlocking_run told I T S cn on i.disk d1 i.limit i.end i.number i.broken payloads c.self.invariant h c.unlock.ensures.any_moment)

pub returns-in-Err-clause-any_moment_err : goal.returns-in-Err-clause-any_moment_err
returns-in-Err-clause-any_moment_err g c =
    let T = g.D.Disk.time in
    let S = g.D.Disk.image_since in
    let I = g.D.Disk.image in
    let cn = g.met.D.Disk.counts_now in
    let on = g.met.D.Disk.only_now in
    let told = g.D.Disk.told in
    let i = c.self.inside in
    let d1 = c.unlock.new.disk in
    subst (λ (b : Builder _). (payloads : List (List ℕ)) → IsBuilding told b payloads → LeavesOnly T S b.disk d1 (IsBuilt b.limit payloads)) c.self.view_is
    (λ payloads h. unlocking_run told I T S cn on i.disk d1 i.limit i.end i.number i.broken payloads c.self.invariant h c.unlock.ensures.any_moment)
