use Rattle.std.proofs.Common.{◌∙◌, sym, refl, arith}
use Rattle.lrs_in_memory.specs.Steps.{Nothing}
use Rattle.lrs_in_memory.specs.Ledger.{steps_of}
use Rattle.lrs_in_memory.proofs.StepLists.{looked_reads, kept_within, looked_within}
use Rattle.lrs_in_memory.proofs.disk.MemDiskDisk.read_at.Goals as goal

pub invariant_of-self : goal.invariant_of-self
invariant_of-self c = record {
  reads = c.args.self.now.reads ∙ sym (looked_reads c.enter.result (steps_of c.args.self.now.ledger) (steps_of c.enter.new.self) c.args.self.now.first.items Nothing Nothing (λ read. refl) (λ read. refl) c.enter.ensures.made c.enter.ensures.kept);
  bytes_fit = omega (arith, c.enter.ensures.spends.most);
}

pub returns-in_err-enter-clause-crash : goal.returns-in_err-enter-clause-crash
returns-in_err-enter-clause-crash c = kept_within (steps_of c.args.self.now.ledger) (steps_of c.enter.new.self) c.args.self.now.first.items c.in_err-enter.ensures.kept

pub returns-in_err-enter-clause-time : goal.returns-in_err-enter-clause-time
returns-in_err-enter-clause-time c = c.enter.ensures.time c.args.self.now.first.items

pub returns-clause-crash : goal.returns-clause-crash
returns-clause-crash c = looked_within (steps_of c.args.self.now.ledger) (steps_of c.enter.new.self) c.args.self.now.first.items c.in_ok-enter.ensures.made

pub returns-clause-time : goal.returns-clause-time
returns-clause-time c = c.enter.ensures.time c.args.self.now.first.items
