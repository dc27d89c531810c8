use Rattle.std.proofs.Common.{IfOk, subst, sym}
use Rattle.lrs_command.specs.Commands.{HasReadTrees}
use Rattle.lrs_command.specs.declared.command.Command.{Command}
use Rattle.lrs_fold.specs.Outcomes.{IsOutcome}
use Rattle.lrs_reads.specs.LrsHistoryHistory.{outcome, write_outcome}
use Rattle.lrs_record.specs.Entries.{IsLawfulCaller, IsLawfulWrite}
use Rattle.lrs_record.specs.declared.entry.Entry.{Entry}
use Rattle.lrs_learning.specs.LrsPartsParts.{state_of}
use Rattle.lrs_fold.proofs.fold.Fold.outcome_of_command.Goals as goal

pub write_outcome-requires-clause-caller : goal.write_outcome-requires-clause-caller
write_outcome-requires-clause-caller c = subst (λ (e : Entry). IsLawfulCaller e.caller) (sym c.next_entry-entry.ensures) c.requires.caller

pub write_outcome-requires-clause-write : goal.write_outcome-requires-clause-write
write_outcome-requires-clause-write c =
    subst (λ (e : Entry). IsLawfulWrite e.write) (sym c.next_entry-entry.ensures) (subst (λ (k : Command). HasReadTrees k) c.in-Write.is c.requires.command)

pub write_outcome-requires-clause-written : goal.write_outcome-requires-clause-written
write_outcome-requires-clause-written c = tt

pub returns-in-Write : goal.returns-in-Write
returns-in-Write c =
    let st = state_of c.args.self.now.parts in
    subst (λ k. IfOk c.write_outcome.result (IsOutcome st (outcome st c.args.caller k c.args.clock c.args.draw.now))) (sym c.in-Write.is)
    (subst (λ e. IfOk c.write_outcome.result (IsOutcome st (write_outcome st e))) c.next_entry-entry.ensures c.write_outcome.ensures)
