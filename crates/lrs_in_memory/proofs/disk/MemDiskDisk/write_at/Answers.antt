use Rattle.std.proofs.Common.{◌∙◌, ◌≡◌, IsOk, sym, ◌≤◌, refl, ap, subst, arith, length}
use Rattle.lrs_disk.specs.Disk.{written}
use Rattle.lrs_in_memory.specs.Steps.{Wrote, FailedWrite}
use Rattle.lrs_in_memory.specs.Ledger.{steps_of}
use Rattle.lrs_in_memory.proofs.StepLists.{kept_reads, reads_more, kept_write, wrote_follows, length-written, ok_fact}
use Rattle.lrs_in_memory.proofs.disk.MemDiskDisk.write_at.Goals as goal

pub invariant_of-self : goal.invariant_of-self
invariant_of-self c = record {
  reads = c.args.self.now.reads ∙ sym (kept_reads (steps_of c.args.self.now.ledger) (steps_of c.enter.new.self) c.args.self.now.first.items (FailedWrite c.args.offset c.args.bytes.now) (λ read. refl) c.in_err-enter.ensures.kept);
  bytes_fit = omega (arith, c.enter.ensures.spends.most);
}

pub returns-in_err-enter-clause-crash : goal.returns-in_err-enter-clause-crash
returns-in_err-enter-clause-crash c = kept_write (steps_of c.args.self.now.ledger) (steps_of c.enter.new.self) c.args.self.now.first.items c.args.offset c.args.bytes.now c.in_err-enter.ensures.kept

pub returns-in_err-enter-clause-time : goal.returns-in_err-enter-clause-time
returns-in_err-enter-clause-time c = c.enter.ensures.time c.args.self.now.first.items

pub invariant_of-self-2 : goal.invariant_of-self-2
invariant_of-self-2 c =
    let room : IsOk c.overwrite.result = c.overwrite.ensures.room c.requires (omega (arith, c.in_ok-enter.ensures.spends.spent)) in
    let now : c.overwrite.new.bytes.items ≡ written c.args.self.now.bytes.items c.args.offset c.args.bytes.now = ok_fact c.overwrite.result room c.overwrite.ensures.written in
    record {
      reads = now ∙ ap (λ l. written l c.args.offset c.args.bytes.now) c.args.self.now.reads ∙ sym (reads_more (steps_of c.args.self.now.ledger) (steps_of c.enter.new.self) c.args.self.now.first.items (Wrote c.args.offset c.args.bytes.now) c.in_ok-enter.ensures.made);
      bytes_fit = omega (arith, ap length now, length-written c.args.offset c.args.self.now.bytes.items c.args.bytes.now c.requires, c.in_ok-enter.ensures.spends.spent, c.overwrite.ensures.capacity);
    }

pub returns-clause-crash : goal.returns-clause-crash
returns-clause-crash c = wrote_follows (steps_of c.args.self.now.ledger) (steps_of c.enter.new.self) c.args.self.now.first.items c.args.offset c.args.bytes.now (subst (λ l. c.args.offset ≤ length l) c.args.self.now.reads c.requires) c.in_ok-enter.ensures.made

pub returns-clause-time : goal.returns-clause-time
returns-clause-time c = c.enter.ensures.time c.args.self.now.first.items
