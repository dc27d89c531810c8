use Rattle.std.proofs.Common.{◌≡◌, ◌∙◌, List, ℕ, Some, None, Bool, ap, subst}
use Rattle.lrs_disk.specs.Disk.{LeavesOnly}
use Rattle.lrs_disk.proofs.Moments.{now_has, weaker_run}
use Rattle.lrs_journal.specs.Store.{Stands}
use Rattle.lrs_journal.specs.Replay.{Replay, HasRead, HasReadTo}
use Rattle.lrs_journal.specs.declared.sizes.Format.{Format}
use Rattle.lrs_journal.specs.declared.sizes.Format.TheVariants as format
use Rattle.lrs_journal.specs.Steps.{IsCutBack, IsReplay}
use Rattle.lrs_journal.specs.Journal.{frames_of, Stores}
use Rattle.lrs_journal.proofs.Told.{told_on}
use Rattle.lrs_journal.proofs.Kept.{seen, settled_journal}
use Rattle.lrs_journal.proofs.Frames.{after_closed, closed_frames, cut_stands}
use Rattle.lrs_journal.proofs.replay.Replay.finish.Goals as goal

pub invariant_of-result : goal.invariant_of-result
invariant_of-result g c =
    let i = c.self.inside in
    let two = ap (λ (r : Replay _). r.format) c.self.view_is ∙ c.requires.format in
    after_closed g.D.Disk.told g.D.Disk.image g.met.D.Disk.reads_image i.disk c.close_end.new.disk i.limit i.offset i.number i.size i.ended (subst (λ (f : Format). IsReplay f (g.D.Disk.told i.disk) (g.D.Disk.image i.disk) i.limit i.size i.offset i.number i.ended) two c.self.invariant) c.close_end.ensures.tells c.in-Ok.ensures.closed

pub returns-in-Ok-clause-sound : goal.returns-in-Ok-clause-sound
returns-in-Ok-clause-sound g c =
    let i = c.self.inside in
    let two = ap (λ (r : Replay _). r.format) c.self.view_is ∙ c.requires.format in
    settled_journal g.D.Disk.told g.D.Disk.image g.met.D.Disk.reads_image c.close_end.new.disk i.limit i.offset i.number
    (after_closed g.D.Disk.told g.D.Disk.image g.met.D.Disk.reads_image i.disk c.close_end.new.disk i.limit i.offset i.number i.size i.ended (subst (λ (f : Format). IsReplay f (g.D.Disk.told i.disk) (g.D.Disk.image i.disk) i.limit i.size i.offset i.number i.ended) two c.self.invariant) c.close_end.ensures.tells c.in-Ok.ensures.closed)

pub returns-in-Ok-clause-finished : goal.returns-in-Ok-clause-finished
returns-in-Ok-clause-finished g c =
    let i = c.self.inside in
    let two = ap (λ (r : Replay _). r.format) c.self.view_is ∙ c.requires.format in
    let d1 = c.close_end.new.disk in
    let told = g.D.Disk.told in
    subst (λ (r : Replay _). (x : List ℕ) → told r.disk ≡ Some x → (payloads : List (List ℕ)) → HasRead x r payloads → frames_of told (seen d1 i.limit i.offset i.number None) ≡ Some payloads) c.self.view_is
    (λ x told_x payloads h. closed_frames told g.D.Disk.image g.met.D.Disk.reads_image i.disk d1 i.limit i.offset i.number x payloads told_x (subst (λ (f : Format). HasReadTo f x i.limit i.offset i.number payloads) two h) c.close_end.ensures.tells c.in-Ok.ensures.closed)

pub returns-in-Ok-clause-any_moment : goal.returns-in-Ok-clause-any_moment
returns-in-Ok-clause-any_moment g c =
    let T = g.D.Disk.time in
    let S = g.D.Disk.image_since in
    let I = g.D.Disk.image in
    let told = g.D.Disk.told in
    let i = c.self.inside in
    let two = ap (λ (r : Replay _). r.format) c.self.view_is ∙ c.requires.format in
    let d1 = c.close_end.new.disk in
    let r = subst (λ (b : Bool). IsReplay format.Two (told i.disk) (I i.disk) i.limit i.size i.offset i.number b) (ap (λ (r : Replay _). r.ended) c.self.view_is ∙ c.requires.ended) (subst (λ (f : Format). IsReplay f (told i.disk) (I i.disk) i.limit i.size i.offset i.number i.ended) two c.self.invariant) in
    subst (λ (r : Replay _). (x : List ℕ) → told r.disk ≡ Some x → (payloads : List (List ℕ)) → HasRead x r payloads → LeavesOnly T S r.disk d1 (λ image. Stands image r.limit payloads)) c.self.view_is
    (λ x told_x payloads h. weaker_run T S I g.met.D.Disk.counts_now g.met.D.Disk.only_now i.disk d1 (IsCutBack i.offset (I i.disk)) (λ image. Stands image i.limit payloads) c.close_end.ensures.any_moment
    (cut_stands told I g.met.D.Disk.reads_image i.disk d1 i.limit i.offset i.number i.size r x payloads told_x (subst (λ (f : Format). HasReadTo f x i.limit i.offset i.number payloads) two h)))

pub returns-in-Err-clause-any_moment_err : goal.returns-in-Err-clause-any_moment_err
returns-in-Err-clause-any_moment_err g c =
    let T = g.D.Disk.time in
    let S = g.D.Disk.image_since in
    let I = g.D.Disk.image in
    let told = g.D.Disk.told in
    let i = c.self.inside in
    let two = ap (λ (r : Replay _). r.format) c.self.view_is ∙ c.requires.format in
    let d1 = c.close_end.new.disk in
    let r = subst (λ (b : Bool). IsReplay format.Two (told i.disk) (I i.disk) i.limit i.size i.offset i.number b) (ap (λ (r : Replay _). r.ended) c.self.view_is ∙ c.requires.ended) (subst (λ (f : Format). IsReplay f (told i.disk) (I i.disk) i.limit i.size i.offset i.number i.ended) two c.self.invariant) in
    subst (λ (r : Replay _). (x : List ℕ) → told r.disk ≡ Some x → (payloads : List (List ℕ)) → HasRead x r payloads → LeavesOnly T S r.disk d1 (λ image. Stands image r.limit payloads)) c.self.view_is
    (λ x told_x payloads h. weaker_run T S I g.met.D.Disk.counts_now g.met.D.Disk.only_now i.disk d1 (IsCutBack i.offset (I i.disk)) (λ image. Stands image i.limit payloads) c.close_end.ensures.any_moment
    (cut_stands told I g.met.D.Disk.reads_image i.disk d1 i.limit i.offset i.number i.size r x payloads told_x (subst (λ (f : Format). HasReadTo f x i.limit i.offset i.number payloads) two h)))

pub returns-in-Err-clause-failed : goal.returns-in-Err-clause-failed
returns-in-Err-clause-failed g c =
    let T = g.D.Disk.time in
    let S = g.D.Disk.image_since in
    let I = g.D.Disk.image in
    let told = g.D.Disk.told in
    let i = c.self.inside in
    let two = ap (λ (r : Replay _). r.format) c.self.view_is ∙ c.requires.format in
    let d1 = c.close_end.new.disk in
    let r = subst (λ (b : Bool). IsReplay format.Two (told i.disk) (I i.disk) i.limit i.size i.offset i.number b) (ap (λ (r : Replay _). r.ended) c.self.view_is ∙ c.requires.ended) (subst (λ (f : Format). IsReplay f (told i.disk) (I i.disk) i.limit i.size i.offset i.number i.ended) two c.self.invariant) in
    subst (λ (r : Replay _). (x : List ℕ) → told r.disk ≡ Some x → (payloads : List (List ℕ)) → HasRead x r payloads → Stores told d1 r.limit payloads) c.self.view_is
    (λ x told_x payloads h.
    let new = told_on (told i.disk) (told d1) x c.close_end.ensures.tells told_x in
    let now = now_has T S I g.met.D.Disk.counts_now g.met.D.Disk.only_now i.disk d1 (IsCutBack i.offset (I i.disk)) c.close_end.ensures.any_moment new.0 (g.met.D.Disk.reads_image d1 new.0 new.1) in
    (new.0, new.1, cut_stands told I g.met.D.Disk.reads_image i.disk d1 i.limit i.offset i.number i.size r x payloads told_x (subst (λ (f : Format). HasReadTo f x i.limit i.offset i.number payloads) two h) new.0 now))
