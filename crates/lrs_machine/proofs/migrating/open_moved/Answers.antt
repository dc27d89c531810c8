use Rattle.std.proofs.Common.{length, map, sym, subst, arith}
use Rattle.std.proofs.lemmas.List.{length-map}
use Rattle.lrs_disk.specs.Disk.{LeavesOnly}
use Rattle.lrs_journal.specs.Builder.{IsBuilt}
use Rattle.lrs_record.specs.Entries.{written_entry}
use Rattle.lrs_machine.specs.Fold.{state_of}
use Rattle.lrs_machine.proofs.MigrateRuns.{moved_opened}
use Rattle.lrs_machine.proofs.migrating.open_moved.Goals as goal

pub open-requires-clause-some : goal.open-requires-clause-some
open-requires-clause-some g c = omega (arith, c.requires.laid.counts, length-map c.args.opening.items written_entry, c.requires.some)

pub opened-requires : goal.opened-requires
opened-requires g c = record {
  opened =
      moved_opened g.D.Disk.told g.D.Disk.image c.args.builder c.in-Ok.journal (state_of c.args.fold) c.args.opening.items c.requires.laid c.requires.movable c.requires.folded c.requires.some
      c.in-Ok.ensures.opened c.in-Ok.ensures.fields c.in-Ok.ensures.sound;
}

pub returns-in-Ok-clause-any_moment : goal.returns-in-Ok-clause-any_moment
returns-in-Ok-clause-any_moment g c =
    subst (λ d. LeavesOnly g.D.Disk.time g.D.Disk.image_since c.args.builder.disk d (IsBuilt c.args.builder.limit (map written_entry c.args.opening.items))) (sym c.opened.ensures.disk)
    (c.in-Ok.ensures.any_moment (map written_entry c.args.opening.items) c.requires.laid)

pub returns-in-Err-clause-any_moment_err : goal.returns-in-Err-clause-any_moment_err
returns-in-Err-clause-any_moment_err g c = c.in-Err.ensures.any_moment_err (map written_entry c.args.opening.items) c.requires.laid
