use Rattle.clap.specs.Words.{App, with_subcommand}
use Rattle.lrs_command_line.specs.CommandLine.{load_app, migrate_app, program_begun, serve_app}
use Rattle.lrs_command_line.proofs.words.taken.program.Goals as goal

pub returns : goal.returns
returns c =
    let with_serve : App = with_subcommand program_begun serve_app.top in
    let with_load : App = with_subcommand with_serve load_app.top in
    c.with_command.ensures with_load migrate_app
    (c.with_command-program-2.ensures with_serve load_app
    (c.with_command-program.ensures program_begun serve_app c.program_begun.ensures c.serve_command.ensures) c.load_command.ensures) c.migrate_command.ensures
