use Rattle.std.proofs.Common.{◌≤◌, refl, sym, subst, ◌∙◌}
use Rattle.lrs_disk.specs.Disk.{LeavesOnly}
use Rattle.lrs_journal.specs.Journal.{need_of, IsAppended}
use Rattle.lrs_journal.specs.Store.{IsBeforeOrAfter}
use Rattle.lrs_machine.specs.Fold.{state_of}
use Rattle.lrs_machine.proofs.ActLemmas.{appended_where, doubtful_does, failed_does, kept_does, unchanged_where}
use Rattle.lrs_machine.proofs.keeping.append.Goals as goal

pub returns-in-Ok-clause-kept : goal.returns-in-Ok-clause-kept
returns-in-Ok-clause-kept g c = λ v is.
    let old = c.args.journal.now in
    let new = c.append.new.self in
    let taken = c.take_in-said in
    rw (taken.ensures.same.0, taken.ensures.same.1)
    (kept_does g.D.Disk.told g.D.Disk.time g.D.Disk.image_since old new (state_of c.args.fold.now) (state_of taken.new.fold) c.args.accepted v is c.requires.settled c.in-Ok.ensures.appended.1 c.requires.room
    (subst (λ f. IsAppended g.D.Disk.told old new f) c.as_slice.ensures c.in-Ok.ensures.appended.2) taken.ensures.applied c.append.ensures.later
    (λ ps there. subst (λ f. LeavesOnly g.D.Disk.time g.D.Disk.image_since old.disk new.disk (IsBeforeOrAfter old.limit ps f)) c.as_slice.ensures (c.append.ensures.any_moment ps there)))

pub returns-then-in_doubt-clause-kept : goal.returns-then-in_doubt-clause-kept
returns-then-in_doubt-clause-kept g c = λ v is.
    let old = c.args.journal.now in
    let new = c.append.new.self in
    let doubt = sym c.in_doubt.ensures ∙ c.if-in_doubt.true in
    let taken = c.take_in-said-then-in_doubt in
    let fits = subst (λ f. need_of old f ≤ old.limit) (sym c.as_slice.ensures) c.requires.room in
    rw (taken.ensures.same.1)
    (doubtful_does g.D.Disk.told g.D.Disk.time g.D.Disk.image_since old new (state_of c.args.fold.now) (state_of taken.new.fold) c.args.accepted v is c.requires.settled doubt c.requires.room
    (subst (λ f. IsAppended g.D.Disk.told old new f) c.as_slice.ensures (appended_where g.D.Disk.told old new c.as_slice.result.now doubt (c.in-Err.ensures.failed (c.in-Err.ensures.fits fits refl)))) taken.ensures.applied c.append.ensures.later
    (λ ps there. subst (λ f. LeavesOnly g.D.Disk.time g.D.Disk.image_since old.disk new.disk (IsBeforeOrAfter old.limit ps f)) c.as_slice.ensures (c.append.ensures.any_moment ps there)))

pub returns-else-in_doubt-clause-kept : goal.returns-else-in_doubt-clause-kept
returns-else-in_doubt-clause-kept g c = λ v is.
    let old = c.args.journal.now in
    let new = c.append.new.self in
    let none = sym c.in_doubt.ensures ∙ c.if-in_doubt.false in
    let fits = subst (λ f. need_of old f ≤ old.limit) (sym c.as_slice.ensures) c.requires.room in
    failed_does g.D.Disk.told g.D.Disk.time g.D.Disk.image_since old new (state_of c.args.fold.now) (state_of c.release.new.self) v c.requires.settled none
    (unchanged_where g.D.Disk.told old new c.as_slice.result.now none (c.in-Err.ensures.failed (c.in-Err.ensures.fits fits refl))) c.release.ensures.same c.append.ensures.later (c.in-Err.ensures.any_moment_err refl none)

pub returns-in-Ok-clause-slots : goal.returns-in-Ok-clause-slots
returns-in-Ok-clause-slots g c = λ none. absurd (cc none)

pub returns-then-in_doubt-clause-slots : goal.returns-then-in_doubt-clause-slots
returns-then-in_doubt-clause-slots g c = λ none. absurd (cc none)

pub returns-else-in_doubt-clause-slots : goal.returns-else-in_doubt-clause-slots
returns-else-in_doubt-clause-slots g c = λ none before made. c.release.ensures.undone before made

pub returns-then-in_doubt-clause-cause : goal.returns-then-in_doubt-clause-cause
returns-then-in_doubt-clause-cause g c =
    let j = c.args.journal.now in
    let fits = subst (λ f. need_of j f ≤ j.limit) (sym c.as_slice.ensures) c.requires.room in
    (c.in-Err.ensures.cause.later, c.in-Err.ensures.cause.cause (c.in-Err.ensures.fits fits refl))

pub returns-else-in_doubt-clause-cause : goal.returns-else-in_doubt-clause-cause
returns-else-in_doubt-clause-cause g c =
    let j = c.args.journal.now in
    let fits = subst (λ f. need_of j f ≤ j.limit) (sym c.as_slice.ensures) c.requires.room in
    (c.in-Err.ensures.cause.later, c.in-Err.ensures.cause.cause (c.in-Err.ensures.fits fits refl))
