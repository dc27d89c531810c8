use Rattle.std.proofs.Common.{arith}
use Rattle.lrs_in_memory.specs.MemDisk.{first_of, steps_of, moment_of}
use Rattle.lrs_in_memory.proofs.StepLists.{image_at}
use Rattle.lrs_in_memory.proofs.CallLists.{replayed}
use Rattle.lrs_in_memory.proofs.disk.MemDisk.image.Goals as goal

pub returns-clause-image : goal.returns-clause-image
returns-clause-image c = image_at c.args.pending (steps_of c.args.self.now) (first_of c.args.self.now) (moment_of c.args.self.now) c.args.moment c.in_ok-replay.field-0.items c.requires
    (replayed c.args.pending c.args.moment c.min-kept.result c.args.self.now.ledger.history.calls.items c.deref.result.now c.args.self.now.ledger.history.log.items c.deref-2.result.now (first_of c.args.self.now) c.deref-3.result.now
    c.in_ok-replay.field-0.items c.deref.ensures.value c.deref-2.ensures.value c.deref-3.ensures.value (omega arith) c.in_ok-replay.ensures)

pub returns-clause-pending : goal.returns-clause-pending
returns-clause-pending c =
    replayed c.args.pending c.args.moment c.min-kept.result c.args.self.now.ledger.history.calls.items c.deref.result.now c.args.self.now.ledger.history.log.items c.deref-2.result.now (first_of c.args.self.now) c.deref-3.result.now
    c.in_ok-replay.field-0.items c.deref.ensures.value c.deref-2.ensures.value c.deref-3.ensures.value (omega arith) c.in_ok-replay.ensures
