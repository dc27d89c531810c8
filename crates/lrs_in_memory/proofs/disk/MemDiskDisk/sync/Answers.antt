use Rattle.std.proofs.Common.{◌∙◌, sym, refl, arith}
use Rattle.std.proofs.lemmas.Result.{on_ok_weaker}
use Rattle.lrs_in_memory.specs.Steps.{Nothing, Synced}
use Rattle.lrs_in_memory.specs.Ledger.{steps_of}
use Rattle.lrs_in_memory.proofs.StepLists.{looked_reads, synced_is, sync_within}
use Rattle.lrs_in_memory.proofs.disk.MemDiskDisk.sync.Goals as goal

pub invariant_of-self : goal.invariant_of-self
invariant_of-self c = record {
  reads = c.args.self.now.reads ∙ sym (looked_reads c.enter.result (steps_of c.args.self.now.ledger) (steps_of c.enter.new.self) c.args.self.now.first.items Synced Nothing (λ read. refl) (λ read. refl) c.enter.ensures.made c.enter.ensures.kept);
  bytes_fit = omega (arith, c.enter.ensures.spends.most);
}

pub returns-clause-durable : goal.returns-clause-durable
returns-clause-durable c = on_ok_weaker c.enter.result (λ more image left. synced_is (steps_of c.args.self.now.ledger) (steps_of c.enter.new.self) c.args.self.now.first.items more image left ∙ looked_reads c.enter.result (steps_of c.args.self.now.ledger) (steps_of c.enter.new.self) c.args.self.now.first.items Synced Nothing (λ read. refl) (λ read. refl) c.enter.ensures.made c.enter.ensures.kept ∙ sym c.args.self.now.reads) c.enter.ensures.made

pub returns-clause-crash : goal.returns-clause-crash
returns-clause-crash c = sync_within c.enter.result (steps_of c.args.self.now.ledger) (steps_of c.enter.new.self) c.args.self.now.first.items c.enter.ensures.made c.enter.ensures.kept

pub returns-clause-time : goal.returns-clause-time
returns-clause-time c = c.enter.ensures.time c.args.self.now.first.items
