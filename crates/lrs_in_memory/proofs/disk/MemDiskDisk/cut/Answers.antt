use Rattle.std.proofs.Common.{◌∙◌, sym, refl, ap, arith, length, take, length-take}
use Rattle.lrs_in_memory.specs.Steps.{CutTo, FailedCut}
use Rattle.lrs_in_memory.specs.Ledger.{steps_of}
use Rattle.lrs_in_memory.proofs.StepLists.{kept_reads, reads_more, kept_cut, cut_follows}
use Rattle.lrs_in_memory.proofs.disk.MemDiskDisk.cut.Goals as goal

pub invariant_of-self : goal.invariant_of-self
invariant_of-self c = record {
  reads = c.args.self.now.reads ∙ sym (kept_reads (steps_of c.args.self.now.ledger) (steps_of c.enter.new.self) c.args.self.now.first.items (FailedCut c.args.to) (λ read. refl) c.in_err-enter.ensures.kept);
  bytes_fit = omega (arith, c.enter.ensures.spends.most);
}

pub returns-in_err-enter-clause-crash : goal.returns-in_err-enter-clause-crash
returns-in_err-enter-clause-crash c = kept_cut (steps_of c.args.self.now.ledger) (steps_of c.enter.new.self) c.args.self.now.first.items c.args.to c.in_err-enter.ensures.kept

pub returns-in_err-enter-clause-time : goal.returns-in_err-enter-clause-time
returns-in_err-enter-clause-time c = c.enter.ensures.time c.args.self.now.first.items

pub invariant_of-self-2 : goal.invariant_of-self-2
invariant_of-self-2 c = record {
  reads = c.truncate.ensures.items ∙ ap (λ l. take c.args.to l) c.args.self.now.reads ∙ sym (reads_more (steps_of c.args.self.now.ledger) (steps_of c.enter.new.self) c.args.self.now.first.items (CutTo c.args.to) c.in_ok-enter.ensures.made);
  bytes_fit = omega (arith, ap length c.truncate.ensures.items, length-take c.args.to c.args.self.now.bytes.items, c.enter.ensures.spends.most, c.truncate.ensures.capacity);
}

pub returns-clause-crash : goal.returns-clause-crash
returns-clause-crash c = cut_follows (steps_of c.args.self.now.ledger) (steps_of c.enter.new.self) c.args.self.now.first.items c.args.to c.in_ok-enter.ensures.made

pub returns-clause-time : goal.returns-clause-time
returns-clause-time c = c.enter.ensures.time c.args.self.now.first.items
