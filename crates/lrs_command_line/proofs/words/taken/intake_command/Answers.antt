use Rattle.std.specs.Prelude.{codes}
use Rattle.clap.specs.Words.{App, new_app}
use Rattle.lrs_command_line.proofs.Taken.{with_same}
use Rattle.lrs_command_line.proofs.words.taken.intake_command.Goals as goal

pub returns : goal.returns
returns c =
    let named : App = new_app (codes "intake") in
    with_same _ named c.required.ensures.rule (c.with_argument.ensures named (c.new.ensures.app, c.new.ensures.local))
