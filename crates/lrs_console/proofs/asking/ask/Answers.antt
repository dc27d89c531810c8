use Rattle.std.proofs.Common.{sym}
use Rattle.lrs_console.proofs.Inputs.{not_read, not_named}
use Rattle.lrs_console.proofs.asking.ask.Goals as goal

pub returns-in-Err-clause-refused : goal.returns-in-Err-clause-refused
returns-in-Err-clause-refused c = not_read _ _ c.requires c.in-Err.ensures.refused

pub returns-in-Ok-ending_without_id-clause-refused : goal.returns-in-Ok-ending_without_id-clause-refused
returns-in-Ok-ending_without_id-clause-refused c =
    rw c.in-Ok-ending_without_id.ensures (not_named c.args.input.now c.in-Ok.tree c.requires c.in-Ok.ensures.read (sym c.in-None.ensures))
