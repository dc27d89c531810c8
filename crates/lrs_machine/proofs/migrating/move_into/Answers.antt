use Rattle.std.proofs.Common.{◌≡◌, ◌≤◌, ◌+◌, length, map, refl, sym, subst, ◌∙◌, ap, inl, inr, Some, Err, false, arith}
use Rattle.std.specs.Prelude.{◌⊎◌}
use Rattle.lrs_disk.specs.Disk.{LeavesOnly}
use Rattle.lrs_disk.specs.Faults.{Rises}
use Rattle.lrs_journal.specs.Builder.{IsBuilt}
use Rattle.lrs_journal.specs.Journal.{TellsAlike}
use Rattle.lrs_journal.specs.Store.{HasNoHeader}
use Rattle.lrs_journal.proofs.Told.{alike_both}
use Rattle.lrs_fold.specs.LrsHistoryHistory.{IsLegal}
use Rattle.lrs_record.specs.Entries.{written_entry}
use Rattle.lrs_machine.specs.Desk.{history}
use Rattle.lrs_machine.specs.Fold.{state_of}
use Rattle.lrs_machine.specs.Line.{entries, in_doubt, opened_line}
use Rattle.lrs_machine.specs.Migrating.{GoesOn, IsLateRefusal, IsMigrateRefused, IsMovable, IsMovedFrom}
use Rattle.lrs_machine.specs.declared.migrating.MigrateRefused.TheVariants as migrate
use Rattle.lrs_machine.proofs.Lines.{entries_opened}
use Rattle.lrs_machine.proofs.Moved.{movable_legal, moving_none}
use Rattle.lrs_machine.proofs.MigrateRuns.{built_moved, goes_more, goes_weaker, if_err_both}
use Rattle.lrs_machine.proofs.OpenLemmas.{if_both, if_err, if_ok}
use Rattle.lrs_machine.proofs.migrating.move_into.Goals as goal

pub move_all-requires-clause-moving : goal.move_all-requires-clause-moving
move_all-requires-clause-moving g c =
    moving_none g.D.Disk.told c.args.replay c.args.builder (state_of c.new-fold.result) c.new-opening.result.items c.new-fold.ensures c.new-opening.ensures c.requires.begun c.requires.limit.1 (λ bytes there. (c.requires.read bytes there).1)

-- ---- all frames were moved

pub open_moved-requires : goal.open_moved-requires
open_moved-requires g c = record {
  whole = c.in-Ok.ensures.moving.whole;
  laid = c.in-Ok.ensures.moving.laid;
  movable = c.in-Ok.ensures.moving.movable;
  folded = c.in-Ok.ensures.moving.folded;
  some = c.in-Ok.ensures.some;
}

pub returns-in-Ok-clause-moved : goal.returns-in-Ok-clause-moved
returns-in-Ok-clause-moved g c =
    let h = c.move_all.new.opening.items in
    let all = c.in-Ok.ensures in
    if_ok c.open_moved.result (λ m. (m.desk.line ≡ opened_line m.desk.opened_at h) × ((m.desk.limit ≡ c.move_all.new.builder.limit) × (in_doubt m.desk.line ≡ false) × (m.desk.opened ≡ length h))) _
    (if_both c.open_moved.result _ _ c.open_moved.ensures.line c.open_moved.ensures.fields)
    (λ m k. (h, k.0, k.1.2, subst (λ l. IsLegal l h) (sym k.1.0) (movable_legal c.move_all.new.builder.limit h all.some all.moving.movable), subst (λ l. IsMovable l h) (sym k.1.0) all.moving.movable, all.all))

pub returns-in-Ok-clause-limit : goal.returns-in-Ok-clause-limit
returns-in-Ok-clause-limit g c =
    if_ok c.open_moved.result (λ m. (m.desk.limit ≡ c.move_all.new.builder.limit) × (in_doubt m.desk.line ≡ false) × (m.desk.opened ≡ length c.move_all.new.opening.items)) _ c.open_moved.ensures.fields
    (λ m k. k.0 ∙ c.move_all.ensures.advances.limit)

pub returns-in-Ok-clause-settled : goal.returns-in-Ok-clause-settled
returns-in-Ok-clause-settled g c =
    if_ok c.open_moved.result (λ m. (m.desk.limit ≡ c.move_all.new.builder.limit) × (in_doubt m.desk.line ≡ false) × (m.desk.opened ≡ length c.move_all.new.opening.items)) _ c.open_moved.ensures.fields (λ m k. k.1)

pub returns-in-Ok-clause-same : goal.returns-in-Ok-clause-same
returns-in-Ok-clause-same g c = if_ok c.open_moved.result (λ m. m.old ≡ c.into_disk.result) _ c.open_moved.ensures.back (λ m k. ap g.D.Disk.told (k ∙ c.into_disk.ensures) ∙ c.move_all.ensures.advances.still)

pub returns-in-Ok-clause-same_err : goal.returns-in-Ok-clause-same_err
returns-in-Ok-clause-same_err g c = if_err c.open_moved.result (λ e. e.1 ≡ c.into_disk.result) _ c.open_moved.ensures.back_err (λ e k. ap g.D.Disk.told (k ∙ c.into_disk.ensures) ∙ c.move_all.ensures.advances.still)

pub returns-in-Ok-clause-still : goal.returns-in-Ok-clause-still
returns-in-Ok-clause-still g c =
    if_ok c.open_moved.result (λ m. m.old ≡ c.into_disk.result) _ c.open_moved.ensures.back
    (λ m k. subst (λ d. LeavesOnly g.D.Disk.time g.D.Disk.image_since c.args.replay.disk d (λ bytes. g.D.Disk.told c.args.replay.disk ≡ Some bytes)) (sym (k ∙ c.into_disk.ensures)) c.move_all.ensures.advances.leaves)

pub returns-in-Ok-clause-still_err : goal.returns-in-Ok-clause-still_err
returns-in-Ok-clause-still_err g c =
    if_err c.open_moved.result (λ e. e.1 ≡ c.into_disk.result) _ c.open_moved.ensures.back_err
    (λ e k. subst (λ d. LeavesOnly g.D.Disk.time g.D.Disk.image_since c.args.replay.disk d (λ bytes. g.D.Disk.told c.args.replay.disk ≡ Some bytes)) (sym (k ∙ c.into_disk.ensures)) c.move_all.ensures.advances.leaves)

pub returns-in-Ok-clause-any_moment : goal.returns-in-Ok-clause-any_moment
returns-in-Ok-clause-any_moment g c =
    let h = c.move_all.new.opening.items in
    let mid = c.move_all.new.builder in
    let time = g.D.Disk.time in
    let since = g.D.Disk.image_since in
    if_ok c.open_moved.result
    (λ m. ((m.desk.line ≡ opened_line m.desk.opened_at h) × ((m.desk.limit ≡ mid.limit) × (in_doubt m.desk.line ≡ false) × (m.desk.opened ≡ length h))) × LeavesOnly time since mid.disk m.desk.disk (IsBuilt mid.limit (map written_entry h))) _
    (if_both c.open_moved.result _ _ (if_both c.open_moved.result _ _ c.open_moved.ensures.line c.open_moved.ensures.fields) c.open_moved.ensures.any_moment)
    (λ m k.
    subst (λ l. GoesOn time since c.args.builder.disk m.desk.disk (IsBuilt l (map written_entry (history m.desk)))) (sym k.0.1.0)
    (subst (λ e. GoesOn time since c.args.builder.disk m.desk.disk (IsBuilt mid.limit (map written_entry e))) (sym (ap entries k.0.0 ∙ entries_opened m.desk.opened_at h))
    (goes_more time since c.args.builder.disk mid.disk m.desk.disk (IsBuilt mid.limit (map written_entry h)) (λ f none. inl none) c.move_all.ensures.advances.goes k.1)))

pub returns-in-Ok-clause-any_moment_err : goal.returns-in-Ok-clause-any_moment_err
returns-in-Ok-clause-any_moment_err g c =
    let h = c.move_all.new.opening.items in
    let mid = c.move_all.new.builder in
    let all = c.in-Ok.ensures in
    let time = g.D.Disk.time in
    let since = g.D.Disk.image_since in
    let on = c.move_all.ensures.advances in
    if_err c.open_moved.result (λ e. LeavesOnly time since mid.disk e.2 (IsBuilt mid.limit (map written_entry h))) _ c.open_moved.ensures.any_moment_err
    (λ e k bytes there.
    goes_weaker time since c.args.builder.disk e.2 (IsBuilt mid.limit (map written_entry h)) (IsMovedFrom c.args.replay.format bytes c.args.replay.limit c.args.builder.limit)
    (λ image built.
    subst (λ l. IsMovedFrom c.args.replay.format bytes c.args.replay.limit l image) on.limit (built_moved c.args.replay.format bytes c.args.replay.limit mid.limit h image (all.all bytes there) (movable_legal mid.limit h all.some all.moving.movable) built))
    (goes_more time since c.args.builder.disk mid.disk e.2 (IsBuilt mid.limit (map written_entry h)) (λ f none. inl none) on.goes k))

pub returns-in-Ok-clause-none_err : goal.returns-in-Ok-clause-none_err
returns-in-Ok-clause-none_err g c = if_err c.open_moved.result (λ e. e.0 ≡ migrate.Failed) _ c.open_moved.ensures.failed (λ e k other. absurd (other k))

pub returns-in-Ok-clause-tells : goal.returns-in-Ok-clause-tells
returns-in-Ok-clause-tells g c =
    if_ok c.open_moved.result (λ m. TellsAlike (g.D.Disk.told c.move_all.new.builder.disk) (g.D.Disk.told m.desk.disk)) _ c.open_moved.ensures.tells
    (λ m k. alike_both (g.D.Disk.told c.args.builder.disk) (g.D.Disk.told c.move_all.new.builder.disk) (g.D.Disk.told m.desk.disk) c.move_all.ensures.advances.tells k)

pub returns-in-Ok-clause-tells_err : goal.returns-in-Ok-clause-tells_err
returns-in-Ok-clause-tells_err g c =
    if_err c.open_moved.result (λ e. TellsAlike (g.D.Disk.told c.move_all.new.builder.disk) (g.D.Disk.told e.2)) _ c.open_moved.ensures.tells_err
    (λ e k. alike_both (g.D.Disk.told c.args.builder.disk) (g.D.Disk.told c.move_all.new.builder.disk) (g.D.Disk.told e.2) c.move_all.ensures.advances.tells k)

pub returns-in-Ok-clause-refused : goal.returns-in-Ok-clause-refused
returns-in-Ok-clause-refused g c =
    if_err c.open_moved.result (λ e. e.0 ≡ migrate.Failed) _ c.open_moved.ensures.failed
    (λ e k was there free vacant. subst (λ r. IsMigrateRefused was free (Some c.args.builder.limit) r) (sym k) tt)

pub returns-in-Ok-clause-late : goal.returns-in-Ok-clause-late
returns-in-Ok-clause-late g c = if_err c.open_moved.result (λ e. e.0 ≡ migrate.Failed) _ c.open_moved.ensures.failed (λ e k. subst (λ r. IsLateRefusal c.args.builder.limit r) (sym k) tt)

pub returns-in-Ok-clause-later : goal.returns-in-Ok-clause-later
returns-in-Ok-clause-later g c =
    let on = c.move_all.ensures.advances in
    if_ok c.open_moved.result (λ m. (m.old ≡ c.into_disk.result) × (g.D.Disk.time c.move_all.new.builder.disk ≤ g.D.Disk.time m.desk.disk)) _ (if_both c.open_moved.result _ _ c.open_moved.ensures.back c.open_moved.ensures.later)
    (λ m k. (subst (λ d. g.D.Disk.time c.args.replay.disk ≤ g.D.Disk.time d) (sym (k.0 ∙ c.into_disk.ensures)) on.leaves.later, omega (arith, on.later, k.1)))

pub returns-in-Ok-clause-later_err : goal.returns-in-Ok-clause-later_err
returns-in-Ok-clause-later_err g c =
    let on = c.move_all.ensures.advances in
    if_err c.open_moved.result (λ e. (e.1 ≡ c.into_disk.result) × (g.D.Disk.time c.move_all.new.builder.disk ≤ g.D.Disk.time e.2)) _ (if_err_both c.open_moved.result _ _ c.open_moved.ensures.back_err c.open_moved.ensures.later_err)
    (λ e k. (subst (λ d. g.D.Disk.time c.args.replay.disk ≤ g.D.Disk.time d) (sym (k.0 ∙ c.into_disk.ensures)) on.leaves.later, omega (arith, on.later, k.1)))

pub returns-in-Ok-clause-kept : goal.returns-in-Ok-clause-kept
returns-in-Ok-clause-kept g c =
    let kept = c.in-Ok.ensures.cause.kept refl in
    if_ok c.open_moved.result (λ m. (m.old ≡ c.into_disk.result) × (g.D.Disk.fault_count m.desk.disk ≡ g.D.Disk.fault_count c.move_all.new.builder.disk)) _ (if_both c.open_moved.result _ _ c.open_moved.ensures.back c.open_moved.ensures.kept)
    (λ m k. (ap g.D.Disk.fault_count (k.0 ∙ c.into_disk.ensures) ∙ kept.0, k.1 ∙ kept.1))

pub returns-in-Ok-clause-faults : goal.returns-in-Ok-clause-faults
returns-in-Ok-clause-faults g c =
    let later = c.move_all.ensures.cause.later in
    if_err c.open_moved.result
    (λ e. (e.1 ≡ c.into_disk.result) × ((g.D.Disk.fault_count c.move_all.new.builder.disk ≤ g.D.Disk.fault_count e.2) × Rises (g.D.Disk.fault_count c.move_all.new.builder.disk) (g.D.Disk.fault_count e.2))) _
    (if_err_both c.open_moved.result _ _ c.open_moved.ensures.back_err c.open_moved.ensures.cause)
    (λ e k. (subst (λ d. g.D.Disk.fault_count c.args.replay.disk ≤ g.D.Disk.fault_count d) (sym (k.0 ∙ c.into_disk.ensures)) later.0, omega (arith, later.1, k.1.0)))

pub returns-in-Ok-clause-cause : goal.returns-in-Ok-clause-cause
returns-in-Ok-clause-cause g c =
    let kept = c.in-Ok.ensures.cause.kept refl in
    if_err c.open_moved.result (λ e. (g.D.Disk.fault_count c.move_all.new.builder.disk ≤ g.D.Disk.fault_count e.2) × Rises (g.D.Disk.fault_count c.move_all.new.builder.disk) (g.D.Disk.fault_count e.2)) _ c.open_moved.ensures.cause
    (λ e k is. inr (subst (λ n. Rises n (g.D.Disk.fault_count e.2)) kept.1 k.1))

-- ---- a frame wasn't moved

pub returns-in-Err-clause-same_err : goal.returns-in-Err-clause-same_err
returns-in-Err-clause-same_err g c = ap g.D.Disk.told c.into_disk-in-Err.ensures ∙ c.move_all.ensures.advances.still

pub returns-in-Err-clause-still_err : goal.returns-in-Err-clause-still_err
returns-in-Err-clause-still_err g c =
    subst (λ d. LeavesOnly g.D.Disk.time g.D.Disk.image_since c.args.replay.disk d (λ bytes. g.D.Disk.told c.args.replay.disk ≡ Some bytes)) (sym c.into_disk-in-Err.ensures) c.move_all.ensures.advances.leaves

pub returns-in-Err-clause-any_moment_err : goal.returns-in-Err-clause-any_moment_err
returns-in-Err-clause-any_moment_err g c = λ bytes there.
    subst (λ d. GoesOn g.D.Disk.time g.D.Disk.image_since c.args.builder.disk d (IsMovedFrom c.args.replay.format bytes c.args.replay.limit c.args.builder.limit)) (sym c.into_disk-in-Err-2.ensures.disk)
    (goes_weaker g.D.Disk.time g.D.Disk.image_since c.args.builder.disk c.move_all.new.builder.disk HasNoHeader (IsMovedFrom c.args.replay.format bytes c.args.replay.limit c.args.builder.limit) (λ image none. inl none) c.move_all.ensures.advances.goes)

pub returns-in-Err-clause-none_err : goal.returns-in-Err-clause-none_err
returns-in-Err-clause-none_err g c = λ other. subst (λ d. GoesOn g.D.Disk.time g.D.Disk.image_since c.args.builder.disk d HasNoHeader) (sym c.into_disk-in-Err-2.ensures.disk) c.move_all.ensures.advances.goes

pub returns-in-Err-clause-tells_err : goal.returns-in-Err-clause-tells_err
returns-in-Err-clause-tells_err g c = subst (λ d. TellsAlike (g.D.Disk.told c.args.builder.disk) (g.D.Disk.told d)) (sym c.into_disk-in-Err-2.ensures.disk) c.move_all.ensures.advances.tells

pub returns-in-Err-clause-later_err : goal.returns-in-Err-clause-later_err
returns-in-Err-clause-later_err g c = (
  subst (λ d. g.D.Disk.time c.args.replay.disk ≤ g.D.Disk.time d) (sym c.into_disk-in-Err.ensures) c.move_all.ensures.advances.leaves.later,
  subst (λ d. g.D.Disk.time c.args.builder.disk ≤ g.D.Disk.time d) (sym c.into_disk-in-Err-2.ensures.disk) c.move_all.ensures.advances.later,
)

pub returns-in-Err-clause-faults : goal.returns-in-Err-clause-faults
returns-in-Err-clause-faults g c = (
  subst (λ d. g.D.Disk.fault_count c.args.replay.disk ≤ g.D.Disk.fault_count d) (sym c.into_disk-in-Err.ensures) c.move_all.ensures.cause.later.0,
  subst (λ d. g.D.Disk.fault_count c.args.builder.disk ≤ g.D.Disk.fault_count d) (sym c.into_disk-in-Err-2.ensures.disk) c.move_all.ensures.cause.later.1,
)

pub returns-in-Err-clause-cause : goal.returns-in-Err-clause-cause
returns-in-Err-clause-cause g c = λ is.
    subst (λ d. Rises (g.D.Disk.fault_count c.args.replay.disk) (g.D.Disk.fault_count d) ⊎ Rises (g.D.Disk.fault_count c.args.builder.disk) (g.D.Disk.fault_count c.into_disk-in-Err-2.result)) (sym c.into_disk-in-Err.ensures)
    (subst (λ d. Rises (g.D.Disk.fault_count c.args.replay.disk) (g.D.Disk.fault_count c.move_all.new.replay.disk) ⊎ Rises (g.D.Disk.fault_count c.args.builder.disk) (g.D.Disk.fault_count d)) (sym c.into_disk-in-Err-2.ensures.disk)
    (c.in-Err.ensures.cause.cause (ap (λ e. Err e) is)))
