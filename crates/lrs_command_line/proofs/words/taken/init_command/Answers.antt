use Rattle.std.specs.Prelude.{codes}
use Rattle.clap.specs.Words.{App, new_app, with_rule}
use Rattle.lrs_command_line.specs.CommandLine.{needed, optional, required}
use Rattle.lrs_command_line.proofs.Taken.{with_same}
use Rattle.lrs_command_line.proofs.words.taken.init_command.Goals as goal

pub returns : goal.returns
returns c =
    let named : App = new_app (codes "init") in
    let with_file : App = with_rule named (required (codes "file")) in
    let with_admin : App = with_rule with_file (needed (codes "admin")) in
    let with_base : App = with_rule with_admin (optional (codes "base")) in
    with_same _ with_base c.optional-2.ensures.rule (c.with_argument.ensures with_base
    (with_same _ with_admin c.optional.ensures.rule (c.with_argument-command-3.ensures with_admin
    (with_same _ with_file c.needed.ensures.rule (c.with_argument-command-2.ensures with_file
    (with_same _ named c.required.ensures.rule (c.with_argument-command.ensures named (c.new.ensures.app, c.new.ensures.local))))))))
