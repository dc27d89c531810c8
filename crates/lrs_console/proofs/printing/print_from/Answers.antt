use Rattle.lrs_console.proofs.Pieces.{goes_on, rest_of}
use Rattle.lrs_console.proofs.printing.print_from.Goals as goal

pub returns-clause-taken : goal.returns-clause-taken
returns-clause-taken g c = goes_on _ _ c.args.done _ _ _ (rest_of c.args.done c.args.bytes.now) c.in_ok-write.ensures.taken
