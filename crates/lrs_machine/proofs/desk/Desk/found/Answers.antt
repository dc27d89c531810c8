use Rattle.std.proofs.Common.{◌≡◌, ◌≤◌, sym, subst, refl, ap, length, inl, ◌∙◌}
use Rattle.lrs_disk.specs.Disk.{LeavesOnly}
use Rattle.lrs_journal.specs.Create.{IsMade, need_of_first}
use Rattle.lrs_journal.specs.Journal.{TellsAlike}
use Rattle.lrs_journal.specs.declared.create.CreateRefused.{CreateRefused}
use Rattle.lrs_journal.specs.declared.create.CreateRefused.TheVariants as create
use Rattle.lrs_record.specs.Entries.{written_entry}
use Rattle.lrs_fold.specs.Own.{founding_entry}
use Rattle.lrs_machine.specs.declared.opening.FoundRefused.TheVariants as found
use Rattle.lrs_machine.specs.Desk.{IsNotFounded}
use Rattle.lrs_machine.specs.Fold.{state_of}
use Rattle.lrs_machine.specs.Line.{opened_line}
use Rattle.lrs_machine.specs.Replays.{founding_refusal}
use Rattle.lrs_machine.proofs.Lines.{some_same}
use Rattle.lrs_machine.proofs.OpenLemmas.{alike_self, create_opened, create_tells, found_full, found_left, found_refused, founding_of, makes_nothing, untouched}
use Rattle.lrs_machine.proofs.desk.Desk.found.Goals as goal

found_failed : (r : CreateRefused) → founding_refusal r ≡ found.Failed → r ≡ create.Failed
found_failed create.AlreadyStore is = absurd (cc is)
found_failed create.Foreign is = absurd (cc is)
found_failed (create.Full need most) is = absurd (cc is)
found_failed create.Failed is = refl

-- memory ran out

pub returns-in-Err-clause-stops_err : goal.returns-in-Err-clause-stops_err
returns-in-Err-clause-stops_err g c =
    makes_nothing g.D.Disk.told g.D.Disk.image g.D.Disk.time g.D.Disk.image_since g.met.D.Disk.only_now c.args.limit (founding_entry c.args.admin.now c.args.base.now c.args.clock) c.args.disk

pub returns-in-Err-clause-refused : goal.returns-in-Err-clause-refused
returns-in-Err-clause-refused g c = λ bytes there. tt

pub returns-in-Err-clause-full : goal.returns-in-Err-clause-full
returns-in-Err-clause-full g c = λ need most is. absurd (cc is)

pub returns-in-Err-clause-tells_err : goal.returns-in-Err-clause-tells_err
returns-in-Err-clause-tells_err g c = alike_self (g.D.Disk.told c.args.disk)

pub returns-in-Err-clause-spared : goal.returns-in-Err-clause-spared
returns-in-Err-clause-spared g c = λ not. refl

pub returns-in-Err-clause-store : goal.returns-in-Err-clause-store
returns-in-Err-clause-store g c = λ bytes there closed. refl

pub returns-in-Err-clause-untouched : goal.returns-in-Err-clause-untouched
returns-in-Err-clause-untouched g c = λ not. untouched g.D.Disk.told g.D.Disk.image g.D.Disk.time g.D.Disk.image_since g.met.D.Disk.only_now c.args.disk

pub returns-in-Err-clause-untouched_store : goal.returns-in-Err-clause-untouched_store
returns-in-Err-clause-untouched_store g c = λ bytes there closed. untouched g.D.Disk.told g.D.Disk.image g.D.Disk.time g.D.Disk.image_since g.met.D.Disk.only_now c.args.disk

pub returns-in-Err-clause-made : goal.returns-in-Err-clause-made
returns-in-Err-clause-made g c = λ synced bytes there now left. inl (some_same now bytes (sym left ∙ there))

pub returns-in-Err-clause-cause : goal.returns-in-Err-clause-cause
returns-in-Err-clause-cause g c = λ is. absurd (cc is)

-- the store was made

pub opened-requires : goal.opened-requires
opened-requires g c = record {
  opened = create_opened g.D.Disk.told g.D.Disk.image (g.D.Disk.told c.args.disk) c.in-Ok-create.journal (state_of c.begun.new.fold) c.args.limit c.deref.result.now (founding_entry c.args.admin.now c.args.base.now c.args.clock) c.in-Ok.begun.1.items
      c.in-Ok.ensures.opening (c.deref.ensures.value ∙ c.in-Ok.ensures.frame) c.in-Ok-create.ensures.made c.in-Ok-create.ensures.sound c.in-Ok.ensures.lawful
      (founding_of c.args.admin.now c.args.base.now c.args.clock c.requires.admin c.requires.base) c.in-Ok.ensures.folded c.in-Ok-create.ensures.fields;
}

pub returns-in-Ok-create-clause-line : goal.returns-in-Ok-create-clause-line
returns-in-Ok-create-clause-line g c = subst (λ h. c.opened.result.line ≡ opened_line c.opened.result.opened_at h) c.in-Ok.ensures.opening c.opened.ensures.line

pub returns-in-Ok-create-clause-fields : goal.returns-in-Ok-create-clause-fields
returns-in-Ok-create-clause-fields g c = (c.opened.ensures.fields.0 ∙ c.in-Ok-create.ensures.fields.1, c.opened.ensures.fields.1, c.opened.ensures.fields.2 ∙ ap length c.in-Ok.ensures.opening)

pub returns-in-Ok-create-clause-moment : goal.returns-in-Ok-create-clause-moment
returns-in-Ok-create-clause-moment g c = c.opened.ensures.moment

pub returns-in-Ok-create-clause-origin : goal.returns-in-Ok-create-clause-origin
returns-in-Ok-create-clause-origin g c = c.opened.ensures.origin

pub returns-in-Ok-create-clause-free : goal.returns-in-Ok-create-clause-free
returns-in-Ok-create-clause-free g c = (c.in-Ok-create.ensures.free refl).1

pub returns-in-Ok-create-clause-room : goal.returns-in-Ok-create-clause-room
returns-in-Ok-create-clause-room g c = subst (λ f. need_of_first f ≤ c.args.limit) (c.deref.ensures.value ∙ c.in-Ok.ensures.frame) (c.in-Ok-create.ensures.free refl).0

pub returns-in-Ok-create-clause-tells : goal.returns-in-Ok-create-clause-tells
returns-in-Ok-create-clause-tells g c =
    subst (λ d. TellsAlike (g.D.Disk.told c.args.disk) (g.D.Disk.told d)) (sym c.opened.ensures.disk)
    (create_tells g.D.Disk.told (g.D.Disk.told c.args.disk) c.in-Ok-create.journal c.deref.result.now c.in-Ok-create.ensures.made)

pub returns-in-Ok-create-clause-durable : goal.returns-in-Ok-create-clause-durable
returns-in-Ok-create-clause-durable g c = c.opened.ensures.durable

pub returns-in-Ok-create-clause-stops : goal.returns-in-Ok-create-clause-stops
returns-in-Ok-create-clause-stops g c = λ synced bytes there none.
    subst (λ d. LeavesOnly g.D.Disk.time g.D.Disk.image_since c.args.disk d (IsMade c.args.limit (written_entry (founding_entry c.args.admin.now c.args.base.now c.args.clock)))) (sym c.opened.ensures.disk)
    (subst (λ f. LeavesOnly g.D.Disk.time g.D.Disk.image_since c.args.disk c.in-Ok-create.journal.disk (IsMade c.args.limit f)) (c.deref.ensures.value ∙ c.in-Ok.ensures.frame)
    (c.in-Ok-create.ensures.any_moment synced bytes there none))

pub returns-in-Ok-create-clause-kept : goal.returns-in-Ok-create-clause-kept
returns-in-Ok-create-clause-kept g c = ap g.D.Disk.fault_count c.opened.ensures.disk ∙ c.in-Ok-create.ensures.kept

pub returns-in-Ok-create-clause-later : goal.returns-in-Ok-create-clause-later
returns-in-Ok-create-clause-later g c = subst (λ d. g.D.Disk.time c.args.disk ≤ g.D.Disk.time d) (sym c.opened.ensures.disk) c.in-Ok-create.ensures.later

-- no store was made

pub returns-clause-stops_err : goal.returns-clause-stops_err
returns-clause-stops_err g c = λ synced bytes there none.
    subst (λ f. LeavesOnly g.D.Disk.time g.D.Disk.image_since c.args.disk c.in-Err-create.disk (IsMade c.args.limit f)) (c.deref.ensures.value ∙ c.in-Ok.ensures.frame)
    (c.in-Err-create.ensures.any_moment_err synced bytes there none)

pub returns-clause-refused : goal.returns-clause-refused
returns-clause-refused g c = λ bytes there.
    subst (λ e. IsNotFounded bytes c.args.limit (founding_entry c.args.admin.now c.args.base.now c.args.clock) e) (sym c.founding_refusal.ensures)
    (found_refused bytes c.args.limit (founding_entry c.args.admin.now c.args.base.now c.args.clock) c.deref.result.now c.in-Err-create.refused
    (c.deref.ensures.value ∙ c.in-Ok.ensures.frame) (c.in-Err-create.ensures.refused bytes there) c.in-Err-create.ensures.full)

pub returns-clause-full : goal.returns-clause-full
returns-clause-full g c = λ need most is.
    found_full c.args.limit (founding_entry c.args.admin.now c.args.base.now c.args.clock) c.deref.result.now c.in-Err-create.refused
    (c.deref.ensures.value ∙ c.in-Ok.ensures.frame) c.in-Err-create.ensures.full need most (sym c.founding_refusal.ensures ∙ is)

pub returns-clause-tells_err : goal.returns-clause-tells_err
returns-clause-tells_err g c = c.in-Err-create.ensures.tells

pub returns-clause-spared : goal.returns-clause-spared
returns-clause-spared g c = λ not. (c.in-Err-create.ensures.spared (λ is. not (c.founding_refusal.ensures ∙ ap founding_refusal is))).0

pub returns-clause-store : goal.returns-clause-store
returns-clause-store g c = λ bytes there closed. (c.in-Err-create.ensures.store bytes there closed).0

pub returns-clause-untouched : goal.returns-clause-untouched
returns-clause-untouched g c = λ not. c.in-Err-create.ensures.spared (λ is. not (c.founding_refusal.ensures ∙ ap founding_refusal is))

pub returns-clause-untouched_store : goal.returns-clause-untouched_store
returns-clause-untouched_store g c = c.in-Err-create.ensures.store

pub returns-clause-made : goal.returns-clause-made
returns-clause-made g c =
    let e = founding_entry c.args.admin.now c.args.base.now c.args.clock in
    found_left g.D.Disk.told g.D.Disk.image g.D.Disk.time g.D.Disk.image_since g.met.D.Disk.reads_image g.met.D.Disk.counts_now c.args.limit e c.args.disk c.in-Err-create.disk
    (λ bytes there closed. (c.in-Err-create.ensures.store bytes there closed).0)
    (λ synced bytes there none. subst (λ f. LeavesOnly g.D.Disk.time g.D.Disk.image_since c.args.disk c.in-Err-create.disk (IsMade c.args.limit f)) (c.deref.ensures.value ∙ c.in-Ok.ensures.frame)
    (c.in-Err-create.ensures.any_moment_err synced bytes there none))

pub returns-clause-later_err : goal.returns-clause-later_err
returns-clause-later_err g c = c.in-Err-create.ensures.later_err

pub returns-clause-faults : goal.returns-clause-faults
returns-clause-faults g c = c.in-Err-create.ensures.cause.later

pub returns-clause-cause : goal.returns-clause-cause
returns-clause-cause g c = λ is. c.in-Err-create.ensures.cause.cause (found_failed c.in-Err-create.refused (sym c.founding_refusal.ensures ∙ is))
