use Rattle.lrs_console.specs.Asking.{IsNotTaken}
use Rattle.lrs_console.specs.declared.ending.Ending.TheVariants as ending
use Rattle.lrs_console.proofs.Inputs.{any_input, too_many}
use Rattle.lrs_console.proofs.asking.take_statement.Goals as goal

pub returns-in-Err-TooLong-clause-refused : goal.returns-in-Err-TooLong-clause-refused
returns-in-Err-TooLong-clause-refused g c =
    let more = rw c.in-Err-TooLong.field-0-is at c.in-Err-TooLong.ensures.refused in
    too_many (g.I.Source.left c.args.input.now) (g.I.Source.left c.read_input.new.input) more.0 more.1 more.2

pub returns-in-Err-Failed-clause-refused : goal.returns-in-Err-Failed-clause-refused
returns-in-Err-Failed-clause-refused g c = any_input (g.I.Source.left c.args.input.now) (λ bytes. IsNotTaken bytes ending.InputFault) (λ bytes. tt)

pub returns-in-Err-Memory-clause-refused : goal.returns-in-Err-Memory-clause-refused
returns-in-Err-Memory-clause-refused g c = any_input (g.I.Source.left c.args.input.now) (λ bytes. IsNotTaken bytes ending.Memory) (λ bytes. tt)
