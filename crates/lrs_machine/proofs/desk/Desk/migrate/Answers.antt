use Rattle.std.proofs.Common.{◌≡◌, ◌≤◌, ◌+◌, ℕ, List, length, map, refl, sym, subst, ◌∙◌, ap, inl, inr, Option, Some, Err, arith}
use Rattle.std.specs.Prelude.{◌⊎◌, ◌≢◌, IfSome, unwrap_or}
use Rattle.std.specs.Option.{ForSome}
use Rattle.lrs_disk.specs.Disk.{LeavesOnly}
use Rattle.lrs_disk.specs.Faults.{Rises}
use Rattle.lrs_journal.specs.Builder.{IsBuilt}
use Rattle.lrs_journal.specs.Create.{IsOpenTo, IsUntouched}
use Rattle.lrs_journal.specs.Journal.{IsSynced, TellsAlike}
use Rattle.lrs_journal.specs.Store.{HasHeaderIn, HasNoHeader, IsLimit}
use Rattle.lrs_journal.proofs.Told.{alike_both, alike_self}
use Rattle.lrs_record.specs.Entries.{written_entry}
use Rattle.lrs_machine.specs.Desk.{history, OpensOnly}
use Rattle.lrs_machine.specs.Line.{entries}
use Rattle.lrs_machine.specs.Migrating.{chosen, BuildsOnly, GoesOn, IsEarlyRefusal, IsMigrateRefused, IsMovedFrom, IsMovedOrNone, SparesMovable}
use Rattle.lrs_machine.specs.declared.migrating.MigrateRefused.TheVariants as migrate
use Rattle.lrs_machine.proofs.MigrateRefusals.{begin_failed, begin_full, begin_not_early, begin_refused, late_full, not_early, refused_own, spares_movable, unread_failed, unread_not_full, unread_refused}
use Rattle.lrs_machine.proofs.MigrateRuns.{builds_nothing, builds_then, builds_weaker, goes_weaker, if_err_both, moved_or_none, taken_bounds, taken_given, taken_limit}
use Rattle.lrs_machine.proofs.OpenLemmas.{if_both, if_err, if_ok, opens_same, opens_then, untouched}
use Rattle.lrs_machine.proofs.desk.Desk.migrate.Goals as goal

-- the limit that was taken
taken : (given : Option ℕ) (built asked own held : ℕ) → built ≡ asked → asked ≡ unwrap_or given own → own ≡ held → built ≡ chosen given held
taken given built asked own held is said same = is ∙ said ∙ taken_limit given own ∙ ap (chosen given) same

-- ---- the old disk holds no store, or failed

pub returns-in-Err-clause-still_err : goal.returns-in-Err-clause-still_err
returns-in-Err-clause-still_err g c = opens_same g.D.Disk.told g.D.Disk.image g.D.Disk.time g.D.Disk.image_since c.args.old c.in-Err.old c.in-Err.ensures.any_moment_err

pub returns-in-Err-clause-stops_err : goal.returns-in-Err-clause-stops_err
returns-in-Err-clause-stops_err g c = λ bytes there.
    builds_weaker g.D.Disk.told g.D.Disk.image g.D.Disk.time g.D.Disk.image_since c.args.new c.args.new HasNoHeader (IsMovedOrNone bytes c.args.limit) (λ image none. inl none)
    (builds_nothing g.D.Disk.told g.D.Disk.image g.D.Disk.time g.D.Disk.image_since g.met.D.Disk.only_now c.args.new)

pub returns-in-Err-clause-none_err : goal.returns-in-Err-clause-none_err
returns-in-Err-clause-none_err g c = λ other. builds_nothing g.D.Disk.told g.D.Disk.image g.D.Disk.time g.D.Disk.image_since g.met.D.Disk.only_now c.args.new

pub returns-in-Err-clause-unwritten : goal.returns-in-Err-clause-unwritten
returns-in-Err-clause-unwritten g c = λ early. untouched g.D.Disk.told g.D.Disk.image g.D.Disk.time g.D.Disk.image_since g.met.D.Disk.only_now c.args.new

pub returns-in-Err-clause-unbegun : goal.returns-in-Err-clause-unbegun
returns-in-Err-clause-unbegun g c = λ was there none. untouched g.D.Disk.told g.D.Disk.image g.D.Disk.time g.D.Disk.image_since g.met.D.Disk.only_now c.args.new

pub returns-in-Err-clause-untouched : goal.returns-in-Err-clause-untouched
returns-in-Err-clause-untouched g c = λ bytes there closed. untouched g.D.Disk.told g.D.Disk.image g.D.Disk.time g.D.Disk.image_since g.met.D.Disk.only_now c.args.new

pub returns-in-Err-clause-tells_err : goal.returns-in-Err-clause-tells_err
returns-in-Err-clause-tells_err g c = alike_self (g.D.Disk.told c.args.new)

pub returns-in-Err-clause-refused : goal.returns-in-Err-clause-refused
returns-in-Err-clause-refused g c = λ was there free free_there.
    subst (λ r. IsMigrateRefused was free c.args.limit r) (sym c.unread_refusal.ensures) (unread_refused was free c.args.limit c.in-Err.unread (λ is. c.in-Err.ensures.not_a_store is was there) c.in-Err.ensures.not_old)

pub returns-in-Err-clause-movable : goal.returns-in-Err-clause-movable
returns-in-Err-clause-movable g c = λ was there free free_there.
    spares_movable was free c.args.limit c.unread_refusal.result
    (subst (λ r. IsMigrateRefused was free c.args.limit r) (sym c.unread_refusal.ensures) (unread_refused was free c.args.limit c.in-Err.unread (λ is. c.in-Err.ensures.not_a_store is was there) c.in-Err.ensures.not_old))

pub returns-in-Err-clause-full : goal.returns-in-Err-clause-full
returns-in-Err-clause-full g c = λ need most is. absurd (unread_not_full c.in-Err.unread need most (sym c.unread_refusal.ensures ∙ is))

pub returns-in-Err-clause-later_err : goal.returns-in-Err-clause-later_err
returns-in-Err-clause-later_err g c = (c.in-Err.ensures.any_moment_err.later, omega arith)

pub returns-in-Err-clause-faults : goal.returns-in-Err-clause-faults
returns-in-Err-clause-faults g c = (c.in-Err.ensures.cause.later, omega arith)

pub returns-in-Err-clause-cause : goal.returns-in-Err-clause-cause
returns-in-Err-clause-cause g c = λ is. inl (c.in-Err.ensures.cause.cause (unread_failed c.in-Err.unread (sym c.unread_refusal.ensures ∙ is)))

-- ---- no store is begun on the new one

pub begin-requires : goal.begin-requires
begin-requires g c = subst IsLimit (sym c.unwrap_or-limit.ensures) (taken_bounds c.args.limit c.limit.result c.requires.limit c.limit.ensures.bounds)

pub returns-in-Err-begin-clause-same_err : goal.returns-in-Err-begin-clause-same_err
returns-in-Err-begin-clause-same_err g c = ap g.D.Disk.told c.into_disk.ensures ∙ c.in-Ok.ensures.still

pub returns-in-Err-begin-clause-still_err : goal.returns-in-Err-begin-clause-still_err
returns-in-Err-begin-clause-still_err g c =
    subst (λ d. OpensOnly g.D.Disk.told g.D.Disk.image g.D.Disk.time g.D.Disk.image_since c.args.old d (λ bytes after. after ≡ bytes)) (sym c.into_disk.ensures)
    (opens_same g.D.Disk.told g.D.Disk.image g.D.Disk.time g.D.Disk.image_since c.args.old c.in-Ok.replay.disk c.in-Ok.ensures.any_moment)

pub returns-in-Err-begin-clause-stops_err : goal.returns-in-Err-begin-clause-stops_err
returns-in-Err-begin-clause-stops_err g c = λ bytes there.
    builds_weaker g.D.Disk.told g.D.Disk.image g.D.Disk.time g.D.Disk.image_since c.args.new c.in-Err-begin.new HasNoHeader (IsMovedOrNone bytes c.args.limit) (λ image none. inl none) c.in-Err-begin.ensures.any_moment_err

pub returns-in-Err-begin-clause-unwritten : goal.returns-in-Err-begin-clause-unwritten
returns-in-Err-begin-clause-unwritten g c = λ early. c.in-Err-begin.ensures.spared (λ is. begin_not_early c.in-Err-begin.refused is (subst (λ r. IsEarlyRefusal r) c.begin_refusal.ensures early))

pub returns-in-Err-begin-clause-unbegun : goal.returns-in-Err-begin-clause-unbegun
returns-in-Err-begin-clause-unbegun g c = λ was there none. absurd (none c.in-Ok.replay.format c.in-Ok.replay.limit (c.in-Ok.ensures.opened was there).0)

pub returns-in-Err-begin-clause-refused : goal.returns-in-Err-begin-clause-refused
returns-in-Err-begin-clause-refused g c = λ was there free free_there.
    subst (λ r. IsMigrateRefused was free c.args.limit r) (sym c.begin_refusal.ensures)
    (begin_refused was free c.args.limit c.in-Ok.replay.format c.in-Ok.replay.limit c.in-Err-begin.refused (c.in-Ok.ensures.opened was there).0 (c.in-Err-begin.ensures.refused free free_there) c.in-Err-begin.ensures.full)

pub returns-in-Err-begin-clause-movable : goal.returns-in-Err-begin-clause-movable
returns-in-Err-begin-clause-movable g c = λ was there free free_there.
    spares_movable was free c.args.limit c.begin_refusal.result
    (subst (λ r. IsMigrateRefused was free c.args.limit r) (sym c.begin_refusal.ensures)
    (begin_refused was free c.args.limit c.in-Ok.replay.format c.in-Ok.replay.limit c.in-Err-begin.refused (c.in-Ok.ensures.opened was there).0 (c.in-Err-begin.ensures.refused free free_there) c.in-Err-begin.ensures.full))

pub returns-in-Err-begin-clause-full : goal.returns-in-Err-begin-clause-full
returns-in-Err-begin-clause-full g c = λ need most is.
    let full = begin_full c.in-Err-begin.refused need most (sym c.begin_refusal.ensures ∙ is) in
    absurd (c.in-Err-begin.ensures.full full.0 full.1 full.2)

pub returns-in-Err-begin-clause-later_err : goal.returns-in-Err-begin-clause-later_err
returns-in-Err-begin-clause-later_err g c = (subst (λ d. g.D.Disk.time c.args.old ≤ g.D.Disk.time d) (sym c.into_disk.ensures) c.in-Ok.ensures.any_moment.later, c.in-Err-begin.ensures.later_err)

pub returns-in-Err-begin-clause-faults : goal.returns-in-Err-begin-clause-faults
returns-in-Err-begin-clause-faults g c = (omega (arith, ap g.D.Disk.fault_count c.into_disk.ensures ∙ c.in-Ok.ensures.kept), c.in-Err-begin.ensures.cause.later)

pub returns-in-Err-begin-clause-cause : goal.returns-in-Err-begin-clause-cause
returns-in-Err-begin-clause-cause g c = λ is. inr (c.in-Err-begin.ensures.cause.cause (begin_failed c.in-Err-begin.refused (sym c.begin_refusal.ensures ∙ is)))

-- ---- the frames are moved

pub move_into-requires : goal.move_into-requires
move_into-requires g c = record {
  begun = (c.in-Ok.ensures.begun.1, c.in-Ok-begin.ensures.fields.0, c.in-Ok-begin.ensures.begun);
  limit = subst IsLimit (sym c.in-Ok-begin.ensures.fields.1) (subst IsLimit (sym c.unwrap_or-limit.ensures) (taken_bounds c.args.limit c.limit.result c.requires.limit c.limit.ensures.bounds));
  read = λ bytes there. c.in-Ok.ensures.opened bytes (sym c.in-Ok.ensures.still ∙ there);
  synced = c.in-Ok.ensures.synced;
}

pub returns-in-Ok-begin-clause-moved : goal.returns-in-Ok-begin-clause-moved
returns-in-Ok-begin-clause-moved g c =
    if_ok c.move_into.result _ _ (if_both c.move_into.result _ _ c.move_into.ensures.moved c.move_into.ensures.limit)
    (λ m k.
    let limit = k.1 ∙ (taken c.args.limit c.in-Ok-begin.builder.limit c.unwrap_or-limit.result c.limit.result c.in-Ok.replay.limit c.in-Ok-begin.ensures.fields.1 c.unwrap_or-limit.ensures (c.limit.ensures.same)) in
    (k.0.0, k.0.1, k.0.2, k.0.3, k.0.4, λ bytes there. (c.in-Ok.replay.limit, (c.in-Ok.replay.format, k.0.5 bytes (c.in-Ok.ensures.still ∙ there)), limit)))

pub returns-in-Ok-begin-clause-limit : goal.returns-in-Ok-begin-clause-limit
returns-in-Ok-begin-clause-limit g c =
    if_ok c.move_into.result _ _ c.move_into.ensures.limit
    (λ m k. subst (λ l. IfSome c.args.limit (λ most. l ≡ most)) (sym (k ∙ (taken c.args.limit c.in-Ok-begin.builder.limit c.unwrap_or-limit.result c.limit.result c.in-Ok.replay.limit c.in-Ok-begin.ensures.fields.1 c.unwrap_or-limit.ensures (c.limit.ensures.same)))) (taken_given c.args.limit c.in-Ok.replay.limit))

pub returns-in-Ok-begin-clause-free : goal.returns-in-Ok-begin-clause-free
returns-in-Ok-begin-clause-free g c = if_ok c.move_into.result _ _ c.move_into.ensures.limit (λ m k. c.in-Ok-begin.ensures.free refl)

pub returns-in-Ok-begin-clause-same : goal.returns-in-Ok-begin-clause-same
returns-in-Ok-begin-clause-same g c = if_ok c.move_into.result _ _ c.move_into.ensures.same (λ m k. k ∙ c.in-Ok.ensures.still)

pub returns-in-Ok-begin-clause-same_err : goal.returns-in-Ok-begin-clause-same_err
returns-in-Ok-begin-clause-same_err g c = if_err c.move_into.result _ _ c.move_into.ensures.same_err (λ e k. k ∙ c.in-Ok.ensures.still)

pub returns-in-Ok-begin-clause-still : goal.returns-in-Ok-begin-clause-still
returns-in-Ok-begin-clause-still g c =
    if_ok c.move_into.result _ _ c.move_into.ensures.still
    (λ m k. opens_then g.D.Disk.told g.D.Disk.image g.D.Disk.time g.D.Disk.image_since c.args.old c.in-Ok.replay.disk m.old c.in-Ok.ensures.any_moment c.in-Ok.ensures.still k)

pub returns-in-Ok-begin-clause-still_err : goal.returns-in-Ok-begin-clause-still_err
returns-in-Ok-begin-clause-still_err g c =
    if_err c.move_into.result _ _ c.move_into.ensures.still_err
    (λ e k. opens_then g.D.Disk.told g.D.Disk.image g.D.Disk.time g.D.Disk.image_since c.args.old c.in-Ok.replay.disk e.1 c.in-Ok.ensures.any_moment c.in-Ok.ensures.still k)

pub returns-in-Ok-begin-clause-stops : goal.returns-in-Ok-begin-clause-stops
returns-in-Ok-begin-clause-stops g c =
    if_ok c.move_into.result _ _ c.move_into.ensures.any_moment
    (λ m k. builds_then g.D.Disk.told g.D.Disk.image g.D.Disk.time g.D.Disk.image_since c.args.new c.in-Ok-begin.builder.disk m.desk.disk (IsBuilt m.desk.limit (map written_entry (history m.desk))) c.in-Ok-begin.ensures.any_moment k)

pub returns-in-Ok-begin-clause-stops_err : goal.returns-in-Ok-begin-clause-stops_err
returns-in-Ok-begin-clause-stops_err g c =
    if_err c.move_into.result _ _ c.move_into.ensures.any_moment_err
    (λ e k bytes there.
    builds_then g.D.Disk.told g.D.Disk.image g.D.Disk.time g.D.Disk.image_since c.args.new c.in-Ok-begin.builder.disk e.2 (IsMovedOrNone bytes c.args.limit) c.in-Ok-begin.ensures.any_moment
    (goes_weaker g.D.Disk.time g.D.Disk.image_since c.in-Ok-begin.builder.disk e.2 (IsMovedFrom c.in-Ok.replay.format bytes c.in-Ok.replay.limit c.in-Ok-begin.builder.limit) (IsMovedOrNone bytes c.args.limit)
    (λ image moved. moved_or_none c.in-Ok.replay.format bytes c.in-Ok.replay.limit c.in-Ok-begin.builder.limit c.args.limit image (taken c.args.limit c.in-Ok-begin.builder.limit c.unwrap_or-limit.result c.limit.result c.in-Ok.replay.limit c.in-Ok-begin.ensures.fields.1 c.unwrap_or-limit.ensures (c.limit.ensures.same)) moved)
    (k bytes (c.in-Ok.ensures.still ∙ there))))

pub returns-in-Ok-begin-clause-none_err : goal.returns-in-Ok-begin-clause-none_err
returns-in-Ok-begin-clause-none_err g c =
    if_err c.move_into.result _ _ c.move_into.ensures.none_err
    (λ e k other. builds_then g.D.Disk.told g.D.Disk.image g.D.Disk.time g.D.Disk.image_since c.args.new c.in-Ok-begin.builder.disk e.2 HasNoHeader c.in-Ok-begin.ensures.any_moment (k other))

pub returns-in-Ok-begin-clause-unwritten : goal.returns-in-Ok-begin-clause-unwritten
returns-in-Ok-begin-clause-unwritten g c = if_err c.move_into.result _ _ c.move_into.ensures.late (λ e k early. absurd (not_early c.in-Ok-begin.builder.limit e.0 k early))

pub returns-in-Ok-begin-clause-unbegun : goal.returns-in-Ok-begin-clause-unbegun
returns-in-Ok-begin-clause-unbegun g c =
    if_err c.move_into.result _ _ c.move_into.ensures.late (λ e k was there none. absurd (none c.in-Ok.replay.format c.in-Ok.replay.limit (c.in-Ok.ensures.opened was there).0))

pub returns-in-Ok-begin-clause-untouched : goal.returns-in-Ok-begin-clause-untouched
returns-in-Ok-begin-clause-untouched g c = if_err c.move_into.result _ _ c.move_into.ensures.late (λ e k bytes there closed. absurd (closed (c.in-Ok-begin.ensures.free refl bytes there)))

pub returns-in-Ok-begin-clause-tells : goal.returns-in-Ok-begin-clause-tells
returns-in-Ok-begin-clause-tells g c =
    if_ok c.move_into.result _ _ c.move_into.ensures.tells
    (λ m k. alike_both (g.D.Disk.told c.args.new) (g.D.Disk.told c.in-Ok-begin.builder.disk) (g.D.Disk.told m.desk.disk) c.in-Ok-begin.ensures.tells k)

pub returns-in-Ok-begin-clause-tells_err : goal.returns-in-Ok-begin-clause-tells_err
returns-in-Ok-begin-clause-tells_err g c =
    if_err c.move_into.result _ _ c.move_into.ensures.tells_err
    (λ e k. alike_both (g.D.Disk.told c.args.new) (g.D.Disk.told c.in-Ok-begin.builder.disk) (g.D.Disk.told e.2) c.in-Ok-begin.ensures.tells k)

pub returns-in-Ok-begin-clause-refused : goal.returns-in-Ok-begin-clause-refused
returns-in-Ok-begin-clause-refused g c =
    if_err c.move_into.result _ _ c.move_into.ensures.refused
    (λ e k was there free free_there.
    refused_own was free c.args.limit c.in-Ok.replay.format c.in-Ok.replay.limit c.in-Ok-begin.builder.limit e.0 (c.in-Ok.ensures.opened was there).0 (taken c.args.limit c.in-Ok-begin.builder.limit c.unwrap_or-limit.result c.limit.result c.in-Ok.replay.limit c.in-Ok-begin.ensures.fields.1 c.unwrap_or-limit.ensures (c.limit.ensures.same))
    (k was (c.in-Ok.ensures.still ∙ there) free (c.in-Ok-begin.ensures.free refl free free_there)))

pub returns-in-Ok-begin-clause-movable : goal.returns-in-Ok-begin-clause-movable
returns-in-Ok-begin-clause-movable g c =
    if_err c.move_into.result _ _ c.move_into.ensures.refused
    (λ e k was there free free_there.
    spares_movable was free c.args.limit e.0 (refused_own was free c.args.limit c.in-Ok.replay.format c.in-Ok.replay.limit c.in-Ok-begin.builder.limit e.0 (c.in-Ok.ensures.opened was there).0 (taken c.args.limit c.in-Ok-begin.builder.limit c.unwrap_or-limit.result c.limit.result c.in-Ok.replay.limit c.in-Ok-begin.ensures.fields.1 c.unwrap_or-limit.ensures (c.limit.ensures.same))
    (k was (c.in-Ok.ensures.still ∙ there) free (c.in-Ok-begin.ensures.free refl free free_there))))

pub returns-in-Ok-begin-clause-full : goal.returns-in-Ok-begin-clause-full
returns-in-Ok-begin-clause-full g c =
    if_err c.move_into.result _ _ c.move_into.ensures.late
    (λ e k need most is.
    let full = late_full c.in-Ok-begin.builder.limit need most e.0 is k in
    (omega (arith, full.0, full.1), subst (λ l. IfSome c.args.limit (λ given. l ≡ given)) (sym (full.0 ∙ (taken c.args.limit c.in-Ok-begin.builder.limit c.unwrap_or-limit.result c.limit.result c.in-Ok.replay.limit c.in-Ok-begin.ensures.fields.1 c.unwrap_or-limit.ensures (c.limit.ensures.same)))) (taken_given c.args.limit c.in-Ok.replay.limit)))

pub returns-in-Ok-begin-clause-later : goal.returns-in-Ok-begin-clause-later
returns-in-Ok-begin-clause-later g c = if_ok c.move_into.result _ _ c.move_into.ensures.later (λ m k. (omega (arith, c.in-Ok.ensures.any_moment.later, k.0), omega (arith, c.in-Ok-begin.ensures.later, k.1)))

pub returns-in-Ok-begin-clause-later_err : goal.returns-in-Ok-begin-clause-later_err
returns-in-Ok-begin-clause-later_err g c = if_err c.move_into.result _ _ c.move_into.ensures.later_err (λ e k. (omega (arith, c.in-Ok.ensures.any_moment.later, k.0), omega (arith, c.in-Ok-begin.ensures.later, k.1)))

pub returns-in-Ok-begin-clause-kept : goal.returns-in-Ok-begin-clause-kept
returns-in-Ok-begin-clause-kept g c = if_ok c.move_into.result _ _ c.move_into.ensures.kept (λ m k. (k.0 ∙ c.in-Ok.ensures.kept, k.1 ∙ c.in-Ok-begin.ensures.kept))

pub returns-in-Ok-begin-clause-faults : goal.returns-in-Ok-begin-clause-faults
returns-in-Ok-begin-clause-faults g c = if_err c.move_into.result _ _ c.move_into.ensures.faults (λ e k. (omega (arith, c.in-Ok.ensures.kept, k.0), omega (arith, c.in-Ok-begin.ensures.kept, k.1)))

pub returns-in-Ok-begin-clause-cause : goal.returns-in-Ok-begin-clause-cause
returns-in-Ok-begin-clause-cause g c =
    if_err c.move_into.result _ _ c.move_into.ensures.cause
    (λ e k is.
    subst (λ n. Rises n (g.D.Disk.fault_count e.1) ⊎ Rises (g.D.Disk.fault_count c.args.new) (g.D.Disk.fault_count e.2)) c.in-Ok.ensures.kept
    (subst (λ n. Rises (g.D.Disk.fault_count c.in-Ok.replay.disk) (g.D.Disk.fault_count e.1) ⊎ Rises n (g.D.Disk.fault_count e.2)) c.in-Ok-begin.ensures.kept (k is)))
