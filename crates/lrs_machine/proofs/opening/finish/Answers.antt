use Rattle.std.proofs.Common.{map, sym, subst}
use Rattle.lrs_disk.specs.Disk.{LeavesOnly}
use Rattle.lrs_journal.specs.Store.{Stands}
use Rattle.lrs_record.specs.Entries.{written_entry}
use Rattle.lrs_machine.specs.Fold.{state_of}
use Rattle.lrs_machine.proofs.OpenLemmas.{finish_opened}
use Rattle.lrs_machine.proofs.opening.finish.Goals as goal

pub finish-requires-clause-format : goal.finish-requires-clause-format
finish-requires-clause-format g c = c.requires.replayed.format

pub opened-requires : goal.opened-requires
opened-requires g c = record {
  opened =
      finish_opened g.D.Disk.told g.D.Disk.image c.args.replay c.in-Ok.journal (state_of c.args.fold) c.args.opening.items c.requires.replayed c.requires.some c.requires.read
      c.in-Ok.ensures.tells c.in-Ok.ensures.finished c.in-Ok.ensures.fields c.in-Ok.ensures.sound;
}

pub returns-in-Ok-clause-any_moment : goal.returns-in-Ok-clause-any_moment
returns-in-Ok-clause-any_moment g c = λ bytes there.
    subst (λ d. LeavesOnly g.D.Disk.time g.D.Disk.image_since c.args.replay.disk d (λ image. Stands image c.args.replay.limit (map written_entry c.args.opening.items))) (sym c.opened.ensures.disk)
    (c.in-Ok.ensures.any_moment bytes there (map written_entry c.args.opening.items) (c.requires.read bytes there).0)

pub returns-in-Err-clause-any_moment_err : goal.returns-in-Err-clause-any_moment_err
returns-in-Err-clause-any_moment_err g c = λ bytes there. c.in-Err.ensures.any_moment_err bytes there (map written_entry c.args.opening.items) (c.requires.read bytes there).0

pub returns-in-Err-clause-left : goal.returns-in-Err-clause-left
returns-in-Err-clause-left g c = λ bytes there.
    let r = c.requires.read bytes there in
    (c.args.replay.limit, c.args.opening.items, (r.1, (c.requires.some, c.requires.replayed.legal)), c.in-Err.ensures.failed bytes there (map written_entry c.args.opening.items) r.0)
