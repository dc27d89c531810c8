use Rattle.lrs_record.proofs.Exactly.{bad_always, bad_only}
use Rattle.lrs_record.proofs.reading.read_entry.Goals as goal

pub returns-clause-bad : goal.returns-clause-bad
returns-clause-bad c = bad_only c.args.bytes.now c.read_lawful.result c.read_lawful.ensures.again

pub returns-clause-always : goal.returns-clause-always
returns-clause-always c = bad_always c.args.bytes.now c.read_lawful.result c.read_lawful.ensures.found
