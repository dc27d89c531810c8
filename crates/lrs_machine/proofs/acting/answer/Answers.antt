use Rattle.std.proofs.Common.{None, Err, refl, sym, subst}
use Rattle.lrs_fold.specs.Outcomes.{IsOutcome}
use Rattle.lrs_fold.specs.LrsHistoryHistory.{outcome}
use Rattle.lrs_machine.specs.Fold.{state_of}
use Rattle.lrs_machine.specs.Steps.{Does}
use Rattle.lrs_machine.proofs.ActLemmas.{said_does, wanting_does}
use Rattle.lrs_parts.proofs.Ahead.{none_more}
use Rattle.lrs_machine.proofs.acting.answer.Goals as goal

pub returns-in-Ok-Said-clause-does : goal.returns-in-Ok-Said-clause-does
returns-in-Ok-Said-clause-does g c =
    let v = outcome (state_of c.args.fold.now) c.args.caller c.args.command c.args.clock c.args.draw.now in
    said_does g.D.Disk.told g.D.Disk.image g.D.Disk.time g.D.Disk.image_since g.met.D.Disk.only_now c.args.journal.now (state_of c.args.fold.now) c.in-Ok-Said.said v c.requires.sound
    (subst (λ o. IsOutcome (state_of c.args.fold.now) v o) c.in-Ok-Said.field-0-is c.in-Ok-Said.ensures) c.requires.settled

pub returns-in-Ok-Accepted-clause-does : goal.returns-in-Ok-Accepted-clause-does
returns-in-Ok-Accepted-clause-does g c =
    let v = outcome (state_of c.args.fold.now) c.args.caller c.args.command c.args.clock c.args.draw.now in
    c.keep.ensures.kept v (subst (λ o. IsOutcome (state_of c.args.fold.now) v o) c.in-Ok-Accepted.field-0-is c.in-Ok-Accepted.ensures).0

pub returns-in-Err-clause-does : goal.returns-in-Err-clause-does
returns-in-Err-clause-does g c =
    let v = outcome (state_of c.args.fold.now) c.args.caller c.args.command c.args.clock c.args.draw.now in
    subst (λ t. Does g.D.Disk.told g.D.Disk.time g.D.Disk.image_since c.args.journal.now c.args.journal.now (state_of c.args.fold.now) (state_of c.args.fold.now) v (Err t) None) (sym c.from.ensures)
    (wanting_does g.D.Disk.told g.D.Disk.image g.D.Disk.time g.D.Disk.image_since g.met.D.Disk.only_now c.args.journal.now (state_of c.args.fold.now) (state_of c.args.fold.now) v c.requires.sound refl c.requires.settled)

pub returns-in-Ok-Said-clause-slots : goal.returns-in-Ok-Said-clause-slots
returns-in-Ok-Said-clause-slots g c = λ none. none_more c.args.fold.now.parts

pub returns-in-Err-clause-slots : goal.returns-in-Err-clause-slots
returns-in-Err-clause-slots g c = λ none. none_more c.args.fold.now.parts
