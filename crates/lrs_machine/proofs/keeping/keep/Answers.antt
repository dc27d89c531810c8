use Rattle.std.proofs.Common.{◌≡◌, ◌<◌, ◌≤◌, refl, subst}
use Rattle.lrs_journal.specs.Journal.{need_of}
use Rattle.lrs_journal.specs.Store.{need_told}
use Rattle.lrs_machine.specs.Fold.{state_of}
use Rattle.lrs_machine.proofs.ActLemmas.{full_does}
use Rattle.lrs_parts.proofs.Ahead.{none_more}
use Rattle.lrs_machine.proofs.keeping.keep.Goals as goal

pub keep_within-requires-clause-room : goal.keep_within-requires-clause-room
keep_within-requires-clause-room g c =
    let j = c.args.journal.now in
    subst (λ f. need_of j f ≤ j.limit) c.as_slice.ensures (c.in-Ok.ensures.fits refl)

pub returns-in-Err-clause-kept : goal.returns-in-Err-clause-kept
returns-in-Err-clause-kept g c = λ v is.
    let j = c.args.journal.now in
    full_does g.D.Disk.told g.D.Disk.image g.D.Disk.time g.D.Disk.image_since g.met.D.Disk.only_now j (state_of c.args.fold.now) c.args.accepted c.in-Err.field-0.need c.in-Err.field-0.limit v c.requires.sound is c.requires.settled
    (subst (λ f. j.limit < need_of j f) c.as_slice.ensures (c.in-Err.ensures.full refl)) (subst (λ f. c.in-Err.field-0.need ≡ need_told j.end f) c.as_slice.ensures c.in-Err.ensures.told.0) c.in-Err.ensures.told.1

pub returns-in-Err-clause-slots : goal.returns-in-Err-clause-slots
returns-in-Err-clause-slots g c = λ none. none_more c.args.fold.now.parts
