use Rattle.lrs_record.proofs.Told.{written_entry_injective}
use Rattle.lrs_record.proofs.writing.write_entry.Goals as goal

pub returns-in-Ok-clause-alone : goal.returns-in-Ok-clause-alone
returns-in-Ok-clause-alone c = λ other lawful same.
    written_entry_injective other c.args.entry.now lawful (record { caller = c.requires.caller; write = c.requires.write; values = c.in-Ok.ensures.values }) same
