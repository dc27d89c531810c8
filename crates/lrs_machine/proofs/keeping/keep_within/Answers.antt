use Rattle.std.proofs.Common.{None, Err, sym, subst, ◌∙◌}
use Rattle.std.specs.Prelude.{option_map}
use Rattle.lrs_fold.specs.Outcomes.{IsAcceptance}
use Rattle.lrs_fold.specs.LrsHistoryHistory.{Outcome}
use Rattle.lrs_machine.specs.Fold.{state_of}
use Rattle.lrs_machine.specs.Steps.{Does}
use Rattle.lrs_machine.proofs.ActLemmas.{wanting_does}
use Rattle.lrs_machine.proofs.keeping.keep_within.Goals as goal

pub returns-in-Ok-clause-kept : goal.returns-in-Ok-clause-kept
returns-in-Ok-clause-kept g c =
    subst (λ z. (v : Outcome) → IsAcceptance z v c.args.accepted
    → Does g.D.Disk.told g.D.Disk.time g.D.Disk.image_since c.args.journal.now c.append.new.journal z (state_of c.append.new.fold) v c.append.result.0 (option_map (λ s. s.value) c.append.result.1)) c.ready-made.ensures.same c.append.ensures.kept

pub returns-in-Err-clause-kept : goal.returns-in-Err-clause-kept
returns-in-Err-clause-kept g c = λ v is.
    subst (λ t. Does g.D.Disk.told g.D.Disk.time g.D.Disk.image_since c.args.journal.now c.args.journal.now (state_of c.args.fold.now) (state_of c.release.new.self) v (Err t) None) (sym c.from.ensures)
    (wanting_does g.D.Disk.told g.D.Disk.image g.D.Disk.time g.D.Disk.image_since g.met.D.Disk.only_now c.args.journal.now (state_of c.args.fold.now) (state_of c.release.new.self) v c.requires.sound (c.release.ensures.same ∙ c.ready-made.ensures.same) c.requires.settled)

pub returns-in-Ok-clause-slots : goal.returns-in-Ok-clause-slots
returns-in-Ok-clause-slots g c = λ none. c.append.ensures.slots none c.args.fold.now.parts c.ready-made.ensures.made

pub returns-in-Err-clause-slots : goal.returns-in-Err-clause-slots
returns-in-Err-clause-slots g c = λ none. c.release.ensures.undone c.args.fold.now.parts c.ready-made.ensures.made
