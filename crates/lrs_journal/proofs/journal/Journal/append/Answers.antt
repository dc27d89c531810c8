use Rattle.std.proofs.Common.{◌≡◌, ◌+◌, ◌++◌, ◌∷◌, [], ◌∙◌, List, ℕ, Option, Some, None, option_map, true, ap, inl, inr, refl, sym, subst}
use Rattle.std.specs.Option.{is_some}
use Rattle.lrs_disk.specs.Disk.{LeavesOnly}
use Rattle.lrs_disk.proofs.Moments.{started, now_has, weaker_run, then_run}
use Rattle.lrs_journal.specs.Store.{IsBeforeOrAfter, Stands}
use Rattle.lrs_journal.specs.Steps.{KeepsUpTo, IsSound}
use Rattle.lrs_journal.specs.Journal.{Journal, frames_of, StandsForFrames, IsJournal, IsAppended, IsUnchanged}
use Rattle.lrs_journal.proofs.Kept.{seen, sound_journal, settled_journal, after_behind, after_staged, gate_there, room_behind, behind_leaves, no_doubt, doubt_before_or_after}
use Rattle.lrs_journal.proofs.journal.Journal.append.Goals as goal

pub returns-in_err-room-clause-sound : goal.returns-in_err-room-clause-sound
returns-in_err-room-clause-sound g c =
    let i = c.self.inside in
    subst (IsJournal g.D.Disk.told g.D.Disk.image) c.self.view_is (sound_journal g.D.Disk.told g.D.Disk.image g.met.D.Disk.reads_image i.disk i.limit i.gate i.number i.doubt c.self.invariant)

pub returns-in_err-room-clause-any_moment : goal.returns-in_err-room-clause-any_moment
returns-in_err-room-clause-any_moment g c x is =
    let T = g.D.Disk.time in
    let S = g.D.Disk.image_since in
    let I = g.D.Disk.image in
    let told = g.D.Disk.told in
    let i = c.self.inside in
    let p = c.args.payload.now in
    let none : i.doubt ≡ None = no_doubt i.doubt (ap (λ (h : Journal _). h.doubt) c.self.view_is ∙ c.requires) in
    let old = subst (λ (o : Option ℕ). IsSound (told i.disk) (I i.disk) i.limit i.gate i.number o) none c.self.invariant in
    let run : (x : List (List ℕ)) → frames_of told (seen i.disk i.limit i.gate i.number None) ≡ Some x → LeavesOnly T S i.disk i.disk (IsBeforeOrAfter i.limit x p) = λ x is.
    started T S I g.met.D.Disk.counts_now g.met.D.Disk.only_now i.disk (IsBeforeOrAfter i.limit x p) (λ f left. inl (behind_leaves told I g.met.D.Disk.reads_image i.disk i.limit i.gate i.number old x is f (f, left, refl))) in
    subst (λ (h : Journal _). (x : List (List ℕ)) → frames_of told h ≡ Some x → LeavesOnly T S h.disk h.disk (IsBeforeOrAfter h.limit x p)) (ap (λ (o : Option ℕ). seen i.disk i.limit i.gate i.number o) (sym none) ∙ c.self.view_is) run x is

pub returns-in_err-room-clause-any_moment_err : goal.returns-in_err-room-clause-any_moment_err
returns-in_err-room-clause-any_moment_err g c _ _ x is =
    let T = g.D.Disk.time in
    let S = g.D.Disk.image_since in
    let I = g.D.Disk.image in
    let told = g.D.Disk.told in
    let i = c.self.inside in
    let none : i.doubt ≡ None = no_doubt i.doubt (ap (λ (h : Journal _). h.doubt) c.self.view_is ∙ c.requires) in
    let old = subst (λ (o : Option ℕ). IsSound (told i.disk) (I i.disk) i.limit i.gate i.number o) none c.self.invariant in
    let run : (x : List (List ℕ)) → frames_of told (seen i.disk i.limit i.gate i.number None) ≡ Some x → LeavesOnly T S i.disk i.disk (λ image. Stands image i.limit x) = λ x is.
    started T S I g.met.D.Disk.counts_now g.met.D.Disk.only_now i.disk (λ image. Stands image i.limit x) (λ f left. behind_leaves told I g.met.D.Disk.reads_image i.disk i.limit i.gate i.number old x is f (f, left, refl)) in
    subst (λ (h : Journal _). (x : List (List ℕ)) → frames_of told h ≡ Some x → LeavesOnly T S h.disk h.disk (λ image. Stands image h.limit x)) (ap (λ (o : Option ℕ). seen i.disk i.limit i.gate i.number o) (sym none) ∙ c.self.view_is) run x is

pub stage-requires-clause-gate : goal.stage-requires-clause-gate
stage-requires-clause-gate g c =
    let i = c.self.inside in
    gate_there g.D.Disk.told g.D.Disk.image g.met.D.Disk.reads_image i.disk i.limit i.gate i.number i.doubt c.self.invariant

pub invariant_of-self : goal.invariant_of-self
invariant_of-self g c =
    let i = c.self.inside in
    let d1 = c.stage.new.disk in
    let I = g.D.Disk.image in
    let told = g.D.Disk.told in
    let none : i.doubt ≡ None = no_doubt i.doubt (ap (λ (h : Journal _). h.doubt) c.self.view_is ∙ c.requires) in
    let old = subst (λ (o : Option ℕ). IsSound (told i.disk) (I i.disk) i.limit i.gate i.number o) none c.self.invariant in
    let now = now_has g.D.Disk.time g.D.Disk.image_since I g.met.D.Disk.counts_now g.met.D.Disk.only_now i.disk d1 (KeepsUpTo (i.gate + 1) (I i.disk)) c.stage.ensures.any_moment in
    subst (λ (o : Option ℕ). IsSound (told d1) (I d1) i.limit i.gate i.number o) (sym none) (after_behind told I g.met.D.Disk.reads_image i.disk d1 i.limit i.gate i.number old c.stage.ensures.tells now).0

pub returns-in_err-stage-clause-failed : goal.returns-in_err-stage-clause-failed
returns-in_err-stage-clause-failed g c _ =
    let i = c.self.inside in
    let d1 = c.stage.new.disk in
    let I = g.D.Disk.image in
    let told = g.D.Disk.told in
    let none : i.doubt ≡ None = no_doubt i.doubt (ap (λ (h : Journal _). h.doubt) c.self.view_is ∙ c.requires) in
    let old = subst (λ (o : Option ℕ). IsSound (told i.disk) (I i.disk) i.limit i.gate i.number o) none c.self.invariant in
    let now = now_has g.D.Disk.time g.D.Disk.image_since I g.met.D.Disk.counts_now g.met.D.Disk.only_now i.disk d1 (KeepsUpTo (i.gate + 1) (I i.disk)) c.stage.ensures.any_moment in
    let after = after_behind told I g.met.D.Disk.reads_image i.disk d1 i.limit i.gate i.number old c.stage.ensures.tells now in
    let same = subst (λ (o : Option ℕ). IsUnchanged told (seen i.disk i.limit i.gate i.number o) (seen d1 i.limit i.gate i.number o)) (sym none) (record { frames = after.1; number = refl; end = refl; limit = refl }) in
    inr (ap is_some none, subst (λ (h : Journal _). IsUnchanged told h (seen d1 i.limit i.gate i.number i.doubt)) c.self.view_is same)

pub returns-in_err-stage-clause-sound : goal.returns-in_err-stage-clause-sound
returns-in_err-stage-clause-sound g c =
    let i = c.self.inside in
    let d1 = c.stage.new.disk in
    let I = g.D.Disk.image in
    let told = g.D.Disk.told in
    let none : i.doubt ≡ None = no_doubt i.doubt (ap (λ (h : Journal _). h.doubt) c.self.view_is ∙ c.requires) in
    let old = subst (λ (o : Option ℕ). IsSound (told i.disk) (I i.disk) i.limit i.gate i.number o) none c.self.invariant in
    let now = now_has g.D.Disk.time g.D.Disk.image_since I g.met.D.Disk.counts_now g.met.D.Disk.only_now i.disk d1 (KeepsUpTo (i.gate + 1) (I i.disk)) c.stage.ensures.any_moment in
    subst (λ (o : Option ℕ). IsJournal told I (seen d1 i.limit i.gate i.number o)) (sym none)
    (settled_journal told I g.met.D.Disk.reads_image d1 i.limit i.gate i.number (after_behind told I g.met.D.Disk.reads_image i.disk d1 i.limit i.gate i.number old c.stage.ensures.tells now).0)

pub returns-in_err-stage-clause-any_moment : goal.returns-in_err-stage-clause-any_moment
returns-in_err-stage-clause-any_moment g c x is =
    let T = g.D.Disk.time in
    let S = g.D.Disk.image_since in
    let I = g.D.Disk.image in
    let told = g.D.Disk.told in
    let i = c.self.inside in
    let d1 = c.stage.new.disk in
    let p = c.args.payload.now in
    let none : i.doubt ≡ None = no_doubt i.doubt (ap (λ (h : Journal _). h.doubt) c.self.view_is ∙ c.requires) in
    let old = subst (λ (o : Option ℕ). IsSound (told i.disk) (I i.disk) i.limit i.gate i.number o) none c.self.invariant in
    let run : (x : List (List ℕ)) → frames_of told (seen i.disk i.limit i.gate i.number None) ≡ Some x → LeavesOnly T S i.disk d1 (IsBeforeOrAfter i.limit x p) = λ x is.
    weaker_run T S I g.met.D.Disk.counts_now g.met.D.Disk.only_now i.disk d1 (KeepsUpTo (i.gate + 1) (I i.disk)) (IsBeforeOrAfter i.limit x p) c.stage.ensures.any_moment
    (λ f now. inl (behind_leaves told I g.met.D.Disk.reads_image i.disk i.limit i.gate i.number old x is f now)) in
    subst (λ (h : Journal _). (x : List (List ℕ)) → frames_of told h ≡ Some x → LeavesOnly T S h.disk d1 (IsBeforeOrAfter h.limit x p)) (ap (λ (o : Option ℕ). seen i.disk i.limit i.gate i.number o) (sym none) ∙ c.self.view_is) run x is

pub returns-in_err-stage-clause-any_moment_err : goal.returns-in_err-stage-clause-any_moment_err
returns-in_err-stage-clause-any_moment_err g c _ _ x is =
    let T = g.D.Disk.time in
    let S = g.D.Disk.image_since in
    let I = g.D.Disk.image in
    let told = g.D.Disk.told in
    let i = c.self.inside in
    let d1 = c.stage.new.disk in
    let none : i.doubt ≡ None = no_doubt i.doubt (ap (λ (h : Journal _). h.doubt) c.self.view_is ∙ c.requires) in
    let old = subst (λ (o : Option ℕ). IsSound (told i.disk) (I i.disk) i.limit i.gate i.number o) none c.self.invariant in
    let run : (x : List (List ℕ)) → frames_of told (seen i.disk i.limit i.gate i.number None) ≡ Some x → LeavesOnly T S i.disk d1 (λ image. Stands image i.limit x) = λ x is.
    weaker_run T S I g.met.D.Disk.counts_now g.met.D.Disk.only_now i.disk d1 (KeepsUpTo (i.gate + 1) (I i.disk)) (λ image. Stands image i.limit x) c.stage.ensures.any_moment
    (λ f now. behind_leaves told I g.met.D.Disk.reads_image i.disk i.limit i.gate i.number old x is f now) in
    subst (λ (h : Journal _). (x : List (List ℕ)) → frames_of told h ≡ Some x → LeavesOnly T S h.disk d1 (λ image. Stands image h.limit x)) (ap (λ (o : Option ℕ). seen i.disk i.limit i.gate i.number o) (sym none) ∙ c.self.view_is) run x is

pub invariant_of-self-2 : goal.invariant_of-self-2
invariant_of-self-2 g c =
    let i = c.self.inside in
    let d1 = c.stage.new.disk in
    let I = g.D.Disk.image in
    let told = g.D.Disk.told in
    let p = c.args.payload.now in
    let none : i.doubt ≡ None = no_doubt i.doubt (ap (λ (h : Journal _). h.doubt) c.self.view_is ∙ c.requires) in
    let old = subst (λ (o : Option ℕ). IsSound (told i.disk) (I i.disk) i.limit i.gate i.number o) none c.self.invariant in
    let fits = room_behind i.disk i.limit i.gate i.number i.doubt p _ c.self.view_is none (c.in_ok-room.ensures.fits refl) in
    (after_staged told I g.met.D.Disk.reads_image i.disk d1 i.limit i.gate i.number p old fits c.stage.ensures.tells c.in_ok-stage.ensures.staged).0

pub returns-in_err-settle-clause-failed : goal.returns-in_err-settle-clause-failed
returns-in_err-settle-clause-failed g c _ =
    let i = c.self.inside in
    let d1 = c.stage.new.disk in
    let I = g.D.Disk.image in
    let told = g.D.Disk.told in
    let p = c.args.payload.now in
    let none : i.doubt ≡ None = no_doubt i.doubt (ap (λ (h : Journal _). h.doubt) c.self.view_is ∙ c.requires) in
    let old = subst (λ (o : Option ℕ). IsSound (told i.disk) (I i.disk) i.limit i.gate i.number o) none c.self.invariant in
    let fits = room_behind i.disk i.limit i.gate i.number i.doubt p _ c.self.view_is none (c.in_ok-room.ensures.fits refl) in
    let staged = after_staged told I g.met.D.Disk.reads_image i.disk d1 i.limit i.gate i.number p old fits c.stage.ensures.tells c.in_ok-stage.ensures.staged in
    let s = c.settle.ensures.frames in
    let more : IsAppended told (seen i.disk i.limit i.gate i.number None) c.settle.new.self p = record { frames = s.frames ∙ staged.1; number = s.number; end = s.end; limit = s.limit } in
    inl (c.in_err-settle.ensures.failed refl, subst (λ (h : Journal _). IsAppended told h c.settle.new.self p) (ap (λ (o : Option ℕ). seen i.disk i.limit i.gate i.number o) (sym none) ∙ c.self.view_is) more)

pub returns-in_err-settle-clause-any_moment : goal.returns-in_err-settle-clause-any_moment
returns-in_err-settle-clause-any_moment g c x is =
    let T = g.D.Disk.time in
    let S = g.D.Disk.image_since in
    let I = g.D.Disk.image in
    let told = g.D.Disk.told in
    let i = c.self.inside in
    let d1 = c.stage.new.disk in
    let d2 = c.settle.new.self.disk in
    let p = c.args.payload.now in
    let none : i.doubt ≡ None = no_doubt i.doubt (ap (λ (h : Journal _). h.doubt) c.self.view_is ∙ c.requires) in
    let old = subst (λ (o : Option ℕ). IsSound (told i.disk) (I i.disk) i.limit i.gate i.number o) none c.self.invariant in
    let fits = room_behind i.disk i.limit i.gate i.number i.doubt p _ c.self.view_is none (c.in_ok-room.ensures.fits refl) in
    let staged = after_staged told I g.met.D.Disk.reads_image i.disk d1 i.limit i.gate i.number p old fits c.stage.ensures.tells c.in_ok-stage.ensures.staged in
    let run : (x : List (List ℕ)) → frames_of told (seen i.disk i.limit i.gate i.number None) ≡ Some x → LeavesOnly T S i.disk d2 (IsBeforeOrAfter i.limit x p) = λ x is.
    then_run T S I g.met.D.Disk.counts_now g.met.D.Disk.only_now i.disk d1 d2 (IsBeforeOrAfter i.limit x p) (StandsForFrames i.limit true (x ++ p ∷ []))
    (weaker_run T S I g.met.D.Disk.counts_now g.met.D.Disk.only_now i.disk d1 (KeepsUpTo (i.gate + 1) (I i.disk)) (IsBeforeOrAfter i.limit x p) c.stage.ensures.any_moment
    (λ f now. inl (behind_leaves told I g.met.D.Disk.reads_image i.disk i.limit i.gate i.number old x is f now)))
    (c.settle.ensures.any_moment (x ++ p ∷ []) (staged.1 ∙ ap (λ (o : Option (List (List ℕ))). option_map (λ payloads. payloads ++ p ∷ []) o) is))
    (doubt_before_or_after i.limit x p) in
    subst (λ (h : Journal _). (x : List (List ℕ)) → frames_of told h ≡ Some x → LeavesOnly T S h.disk d2 (IsBeforeOrAfter h.limit x p)) (ap (λ (o : Option ℕ). seen i.disk i.limit i.gate i.number o) (sym none) ∙ c.self.view_is) run x is

pub returns-clause-appended : goal.returns-clause-appended
returns-clause-appended g c =
    let i = c.self.inside in
    let d1 = c.stage.new.disk in
    let I = g.D.Disk.image in
    let told = g.D.Disk.told in
    let p = c.args.payload.now in
    let none : i.doubt ≡ None = no_doubt i.doubt (ap (λ (h : Journal _). h.doubt) c.self.view_is ∙ c.requires) in
    let old = subst (λ (o : Option ℕ). IsSound (told i.disk) (I i.disk) i.limit i.gate i.number o) none c.self.invariant in
    let fits = room_behind i.disk i.limit i.gate i.number i.doubt p _ c.self.view_is none (c.in_ok-room.ensures.fits refl) in
    let staged = after_staged told I g.met.D.Disk.reads_image i.disk d1 i.limit i.gate i.number p old fits c.stage.ensures.tells c.in_ok-stage.ensures.staged in
    let s = c.settle.ensures.frames in
    let more : IsAppended told (seen i.disk i.limit i.gate i.number None) c.settle.new.self p = record { frames = s.frames ∙ staged.1; number = s.number; end = s.end; limit = s.limit } in (
      ap (λ (h : Journal _). h.number) c.self.view_is,
      (c.in_ok-settle.ensures.some refl).1,
      subst (λ (h : Journal _). IsAppended told h c.settle.new.self p) (ap (λ (o : Option ℕ). seen i.disk i.limit i.gate i.number o) (sym none) ∙ c.self.view_is) more,
    )

pub returns-clause-any_moment : goal.returns-clause-any_moment
returns-clause-any_moment g c x is =
    let T = g.D.Disk.time in
    let S = g.D.Disk.image_since in
    let I = g.D.Disk.image in
    let told = g.D.Disk.told in
    let i = c.self.inside in
    let d1 = c.stage.new.disk in
    let d2 = c.settle.new.self.disk in
    let p = c.args.payload.now in
    let none : i.doubt ≡ None = no_doubt i.doubt (ap (λ (h : Journal _). h.doubt) c.self.view_is ∙ c.requires) in
    let old = subst (λ (o : Option ℕ). IsSound (told i.disk) (I i.disk) i.limit i.gate i.number o) none c.self.invariant in
    let fits = room_behind i.disk i.limit i.gate i.number i.doubt p _ c.self.view_is none (c.in_ok-room.ensures.fits refl) in
    let staged = after_staged told I g.met.D.Disk.reads_image i.disk d1 i.limit i.gate i.number p old fits c.stage.ensures.tells c.in_ok-stage.ensures.staged in
    let run : (x : List (List ℕ)) → frames_of told (seen i.disk i.limit i.gate i.number None) ≡ Some x → LeavesOnly T S i.disk d2 (IsBeforeOrAfter i.limit x p) = λ x is.
    then_run T S I g.met.D.Disk.counts_now g.met.D.Disk.only_now i.disk d1 d2 (IsBeforeOrAfter i.limit x p) (StandsForFrames i.limit true (x ++ p ∷ []))
    (weaker_run T S I g.met.D.Disk.counts_now g.met.D.Disk.only_now i.disk d1 (KeepsUpTo (i.gate + 1) (I i.disk)) (IsBeforeOrAfter i.limit x p) c.stage.ensures.any_moment
    (λ f now. inl (behind_leaves told I g.met.D.Disk.reads_image i.disk i.limit i.gate i.number old x is f now)))
    (c.settle.ensures.any_moment (x ++ p ∷ []) (staged.1 ∙ ap (λ (o : Option (List (List ℕ))). option_map (λ payloads. payloads ++ p ∷ []) o) is))
    (doubt_before_or_after i.limit x p) in
    subst (λ (h : Journal _). (x : List (List ℕ)) → frames_of told h ≡ Some x → LeavesOnly T S h.disk d2 (IsBeforeOrAfter h.limit x p)) (ap (λ (o : Option ℕ). seen i.disk i.limit i.gate i.number o) (sym none) ∙ c.self.view_is) run x is

pub returns-clause-number : goal.returns-clause-number
returns-clause-number g c x is =
    let i = c.self.inside in
    let sound = subst (IsJournal g.D.Disk.told g.D.Disk.image) c.self.view_is (sound_journal g.D.Disk.told g.D.Disk.image g.met.D.Disk.reads_image i.disk i.limit i.gate i.number i.doubt c.self.invariant) in
    ap (λ (h : Journal _). h.number) c.self.view_is ∙ (sound.holds x is).counts
