use Rattle.std.specs.Prelude.{codes}
use Rattle.clap.specs.Words.{App, new_app, with_subcommand}
use Rattle.lrs_command_line.specs.CommandLine.{init_app, intake_app}
use Rattle.lrs_command_line.proofs.words.taken.program_begun.Goals as goal

pub returns : goal.returns
returns c =
    let named : App = new_app (codes "kilnlime") in
    let with_init : App = with_subcommand named init_app.top in
    c.with_command.ensures with_init intake_app (c.with_command-program.ensures named init_app c.new.ensures.app c.init_command.ensures) c.intake_command.ensures
