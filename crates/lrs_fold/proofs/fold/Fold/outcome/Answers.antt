use Rattle.std.proofs.Common.{IfOk, subst, sym}
use Rattle.lrs_command.specs.Commands.{HasReadTrees}
use Rattle.lrs_command.specs.declared.command.Command.{Command}
use Rattle.lrs_fold.specs.Outcomes.{IsOutcome}
use Rattle.lrs_fold.specs.declared.outcome.Outcome.TheVariants as made
use Rattle.lrs_fold.proofs.Malformed.{told_malformed}
use Rattle.lrs_reads.specs.LrsHistoryHistory.{outcome, write_outcome}
use Rattle.lrs_reads.specs.LrsRefusalsSubmissions.{IsWrittenOf}
use Rattle.lrs_record.specs.Entries.{IsLawfulCaller, IsLawfulWrite}
use Rattle.lrs_record.specs.declared.entry.Entry.{Entry}
use Rattle.lrs_learning.specs.LrsPartsParts.{state_of}
use Rattle.lrs_fold.proofs.fold.Fold.outcome.Goals as goal

pub outcome_of_command-requires-clause-command : goal.outcome_of_command-requires-clause-command
outcome_of_command-requires-clause-command c = subst (λ (k : Command). HasReadTrees k) (sym c.in-Unjudged.ensures) c.requires.command

pub write_outcome-requires-clause-caller : goal.write_outcome-requires-clause-caller
write_outcome-requires-clause-caller c = subst (λ (e : Entry). IsLawfulCaller e.caller) (sym c.next_entry-entry.ensures) c.requires.caller

pub write_outcome-requires-clause-write : goal.write_outcome-requires-clause-write
write_outcome-requires-clause-write c =
    subst (λ (e : Entry). IsLawfulWrite e.write) (sym c.next_entry-entry.ensures) (subst (λ (k : Command). HasReadTrees k) (sym c.in-Judged.ensures.0) c.requires.command)

pub write_outcome-requires-clause-written : goal.write_outcome-requires-clause-written
write_outcome-requires-clause-written c = subst (λ (e : Entry). IsWrittenOf e.write c.in-Judged.written) (sym c.next_entry-entry.ensures) c.in-Judged.ensures.1

pub returns-in-Unjudged : goal.returns-in-Unjudged
returns-in-Unjudged c =
    let st = state_of c.args.self.now.parts in
    subst (λ k. IfOk c.outcome_of_command.result (IsOutcome st (outcome st c.args.caller k c.args.clock c.args.draw.now))) c.in-Unjudged.ensures c.outcome_of_command.ensures

pub returns-in-Judged : goal.returns-in-Judged
returns-in-Judged c =
    let st = state_of c.args.self.now.parts in
    subst (λ k. IfOk c.write_outcome.result (IsOutcome st (outcome st c.args.caller k c.args.clock c.args.draw.now))) c.in-Judged.ensures.0
    (subst (λ e. IfOk c.write_outcome.result (IsOutcome st (write_outcome st e))) c.next_entry-entry.ensures c.write_outcome.ensures)

pub returns-in-Refused : goal.returns-in-Refused
returns-in-Refused c =
    let st = state_of c.args.self.now.parts in
    subst (λ v. IsOutcome st v (made.Said c.refused-said.result))
    (sym (told_malformed st c.args.caller c.args.command c.args.clock c.args.draw.now c.in-Refused.area c.in-Refused.refusal c.in-Refused.ensures)) c.refused-said.ensures
