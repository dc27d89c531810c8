use Rattle.std.proofs.Common.{◌≡◌, ◌++◌, ◌∷◌, [], List, ℕ, map, sym, subst, true, false, ◌∙◌, ap, Some, Err, refl, rules}
use Rattle.std.specs.Prelude.{◌==◌}
use Rattle.lrs_record.specs.Entries.{written_entry}
use Rattle.lrs_machine.specs.Fold.{state_of}
use Rattle.lrs_machine.specs.Migrating.{IsLateRefusal, IsMigrateRefused, JudgesEntry}
use Rattle.lrs_machine.specs.declared.migrating.MigrateRefused.TheVariants as migrate
use Rattle.lrs_machine.proofs.MigrateRefusals.{add_failed, frame_failed, judge_failed, late_add, late_frame, late_judge}
use Rattle.lrs_machine.proofs.MigrateRuns.{advances_laid, advances_read, counts_laid, counts_read}
use Rattle.lrs_machine.proofs.Moved.{moved_end, moved_illegal, moved_more, moved_unadded, moved_unread}
use Rattle.lrs_machine.proofs.migrating.move_next.Goals as goal

-- ---- no frame was read

pub returns-in-Err-clause-refused : goal.returns-in-Err-clause-refused
returns-in-Err-clause-refused g c = λ was there free vacant.
    subst (λ e. IsMigrateRefused was free (Some c.args.builder.now.limit) e) (sym c.frame_refusal.ensures)
    (moved_unread g.D.Disk.told was free c.args.replay.now c.args.builder.now (state_of c.args.fold.now) c.args.opening.now.items c.in-Err.unread c.requires.moving (c.requires.moving.read was there) vacant
    (λ j is. let d = c.in-Err.ensures.damaged j (ap (λ e. Err e) is) in (d.0, d.1 was there (map written_entry c.args.opening.now.items) (c.requires.moving.read was there))))

pub returns-in-Err-clause-late : goal.returns-in-Err-clause-late
returns-in-Err-clause-late g c = subst (λ e. IsLateRefusal c.args.builder.now.limit e) (sym c.frame_refusal.ensures) (late_frame c.args.builder.now.limit c.in-Err.unread)

pub returns-in-Err-clause-advances : goal.returns-in-Err-clause-advances
returns-in-Err-clause-advances g c = advances_read g.D.Disk.told g.D.Disk.time g.D.Disk.image_since c.args.replay.now c.next.new.self c.args.builder.now c.next.ensures.format c.next.ensures.limit c.next.ensures.still c.next.ensures.any_moment

pub returns-in-Err-clause-cause : goal.returns-in-Err-clause-cause
returns-in-Err-clause-cause g c =
    counts_read _ _ _ _ _ _ _ c.in-Err.ensures.cause
    (λ is. let failed : c.frame_refusal.result ≡ migrate.Failed = cc is in ap (λ e. Err e) (frame_failed c.in-Err.unread (sym c.frame_refusal.ensures ∙ failed)))
    (λ is. absurd (cc is))

-- ---- the list ended

pub returns-then-not-more-clause-moved : goal.returns-then-not-more-clause-moved
returns-then-not-more-clause-moved g c =
    let none : c.in-Ok.more ≡ false = search rules in
    let e = c.in-Ok.ensures.end none in
    moved_end g.D.Disk.told c.args.replay.now c.next.new.self c.args.builder.now (state_of c.args.fold.now) c.args.opening.now.items c.args.k c.requires.long c.requires.moving c.next.ensures.format c.next.ensures.limit c.next.ensures.still e.0 e.1

pub returns-then-not-more-clause-advances : goal.returns-then-not-more-clause-advances
returns-then-not-more-clause-advances g c = advances_read g.D.Disk.told g.D.Disk.time g.D.Disk.image_since c.args.replay.now c.next.new.self c.args.builder.now c.next.ensures.format c.next.ensures.limit c.next.ensures.still c.next.ensures.any_moment

pub returns-then-not-more-clause-cause : goal.returns-then-not-more-clause-cause
returns-then-not-more-clause-cause g c = counts_read _ _ _ _ _ _ _ c.in-Ok.ensures.cause (λ is. absurd (cc is)) (λ is. refl)

-- ---- the frame isn't that of the next entry

pub returns-in-Err-judge-clause-refused : goal.returns-in-Err-judge-clause-refused
returns-in-Err-judge-clause-refused g c = λ was there free vacant.
    let more : c.in-Ok.more ≡ true = search rules in
    let read = c.requires.moving.read was there in
    subst (λ e. IsMigrateRefused was free (Some c.args.builder.now.limit) e) (sym c.judge_refusal.ensures)
    (moved_illegal g.D.Disk.told was free c.args.replay.now c.next.new.self c.args.builder.now (state_of c.args.fold.now) (state_of c.judge.new.fold) c.args.opening.now.items c.judge.new.opening.items c.args.k c.next.new.into.items c.in-Err-judge.refused
    c.requires.long c.requires.moving read vacant c.next.ensures.format c.next.ensures.limit (c.in-Ok.ensures.frame more was there (map written_entry c.args.opening.now.items) read)
    (subst (λ f. JudgesEntry f (c.args.k == 0) (state_of c.args.fold.now) (state_of c.judge.new.fold) c.args.opening.now.items c.judge.new.opening.items (Err c.in-Err-judge.refused)) c.deref.ensures.value c.in-Err-judge.ensures))

pub returns-in-Err-judge-clause-late : goal.returns-in-Err-judge-clause-late
returns-in-Err-judge-clause-late g c = subst (λ e. IsLateRefusal c.args.builder.now.limit e) (sym c.judge_refusal.ensures) (late_judge c.args.builder.now.limit c.in-Err-judge.refused c.args.k)

pub returns-in-Err-judge-clause-advances : goal.returns-in-Err-judge-clause-advances
returns-in-Err-judge-clause-advances g c = advances_read g.D.Disk.told g.D.Disk.time g.D.Disk.image_since c.args.replay.now c.next.new.self c.args.builder.now c.next.ensures.format c.next.ensures.limit c.next.ensures.still c.next.ensures.any_moment

pub returns-in-Err-judge-clause-cause : goal.returns-in-Err-judge-clause-cause
returns-in-Err-judge-clause-cause g c =
    counts_read _ _ _ _ _ _ _ c.in-Ok.ensures.cause
    (λ is. let failed : c.judge_refusal.result ≡ migrate.Failed = cc is in absurd (judge_failed c.in-Err-judge.refused c.args.k (sym c.judge_refusal.ensures ∙ failed)))
    (λ is. refl)

-- ---- the frame is that of the next entry

pub returns-in-Ok-add-clause-moved : goal.returns-in-Ok-add-clause-moved
returns-in-Ok-add-clause-moved g c =
    let more : c.in-Ok.more ≡ true = search rules in
    let e = c.in-Ok-judge.ensures in
    moved_more g.D.Disk.told c.args.replay.now c.next.new.self c.args.builder.now c.add.new.self (state_of c.args.fold.now) (state_of c.judge.new.fold) c.args.opening.now.items c.judge.new.opening.items c.args.k c.next.new.into.items c.deref-2.result.now e.0
    c.requires.long c.requires.moving c.next.ensures.still (c.in-Ok.ensures.moved more) (c.in-Ok.ensures.frame more) e.1 (e.2 ∙ c.deref.ensures.value) (e.2 ∙ c.deref.ensures.value ∙ sym c.deref-2.ensures.value) e.3 e.4 e.5
    (c.in-Ok-add.ensures.added refl) (c.in-Ok-add.ensures.fields refl) (c.in-Ok-add.ensures.room refl) c.add.ensures.limit

pub returns-in-Ok-add-clause-advances : goal.returns-in-Ok-add-clause-advances
returns-in-Ok-add-clause-advances g c =
    advances_laid g.D.Disk.told g.D.Disk.time g.D.Disk.image_since c.args.replay.now c.next.new.self c.args.builder.now c.add.new.self c.next.ensures.format c.next.ensures.limit c.next.ensures.still c.next.ensures.any_moment
    c.add.ensures.limit c.add.ensures.tells c.add.ensures.any_moment

pub returns-in-Ok-add-clause-cause : goal.returns-in-Ok-add-clause-cause
returns-in-Ok-add-clause-cause g c = counts_laid _ _ _ _ _ _ _ _ (c.in-Ok.ensures.cause.kept refl) c.in-Ok-add.ensures.cause (λ is. absurd (cc is)) (λ is. refl)

-- ---- it isn't added

pub returns-in-Err-add-clause-refused : goal.returns-in-Err-add-clause-refused
returns-in-Err-add-clause-refused g c = λ was there free vacant.
    let more : c.in-Ok.more ≡ true = search rules in
    let e = c.in-Ok-judge.ensures in
    let read = c.requires.moving.read was there in
    subst (λ e. IsMigrateRefused was free (Some c.args.builder.now.limit) e) (sym c.add_refusal.ensures)
    (moved_unadded g.D.Disk.told was free c.args.replay.now c.next.new.self c.args.builder.now (state_of c.args.fold.now) c.args.opening.now.items c.args.k c.next.new.into.items c.deref-2.result.now e.0 c.in-Err-add.refused
    c.requires.long c.requires.moving read vacant c.next.ensures.format c.next.ensures.limit (c.in-Ok.ensures.frame more was there (map written_entry c.args.opening.now.items) read) e.1 (e.2 ∙ c.deref.ensures.value) (e.2 ∙ c.deref.ensures.value ∙ sym c.deref-2.ensures.value) e.3
    (λ full. let said = (c.in-Err-add.ensures.full full).0 in cc said) (λ fits. let said = c.in-Err-add.ensures.fits fits refl in cc said))

pub returns-in-Err-add-clause-late : goal.returns-in-Err-add-clause-late
returns-in-Err-add-clause-late g c =
    subst (λ e. IsLateRefusal c.args.builder.now.limit e) (sym c.add_refusal.ensures)
    (late_add c.args.builder.now.limit c.args.builder.now.end c.deref-2.result.now c.in-Err-add.refused c.requires.moving.most
    (λ full. let said = (c.in-Err-add.ensures.full full).0 in cc said) (λ fits. let said = c.in-Err-add.ensures.fits fits refl in cc said))

pub returns-in-Err-add-clause-advances : goal.returns-in-Err-add-clause-advances
returns-in-Err-add-clause-advances g c =
    advances_laid g.D.Disk.told g.D.Disk.time g.D.Disk.image_since c.args.replay.now c.next.new.self c.args.builder.now c.add.new.self c.next.ensures.format c.next.ensures.limit c.next.ensures.still c.next.ensures.any_moment
    c.add.ensures.limit c.add.ensures.tells c.add.ensures.any_moment

pub returns-in-Err-add-clause-cause : goal.returns-in-Err-add-clause-cause
returns-in-Err-add-clause-cause g c =
    counts_laid _ _ _ _ _ _ _ _ (c.in-Ok.ensures.cause.kept refl) c.in-Err-add.ensures.cause
    (λ is. let failed : c.add_refusal.result ≡ migrate.Failed = cc is in ap (λ e. Err e) (add_failed c.in-Err-add.refused (sym c.add_refusal.ensures ∙ failed)))
    (λ is. absurd (cc is))
