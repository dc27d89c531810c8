use Rattle.std.specs.Prelude.{codes}
use Rattle.clap.specs.Words.{App, new_app, with_rule}
use Rattle.lrs_command_line.specs.CommandLine.{needed, required}
use Rattle.lrs_command_line.proofs.Taken.{with_same}
use Rattle.lrs_command_line.proofs.words.taken.serve_command.Goals as goal

pub returns : goal.returns
returns c =
    let named : App = new_app (codes "serve") in
    let with_file : App = with_rule named (required (codes "file")) in
    let with_address : App = with_rule with_file (required (codes "address")) in
    let with_workers : App = with_rule with_address (needed (codes "workers")) in
    with_same _ with_workers c.needed-2.ensures.rule (c.with_argument.ensures with_workers
    (with_same _ with_address c.needed.ensures.rule (c.with_argument-command-3.ensures with_address
    (with_same _ with_file c.required-2.ensures.rule (c.with_argument-command-2.ensures with_file
    (with_same _ named c.required.ensures.rule (c.with_argument-command.ensures named (c.new.ensures.app, c.new.ensures.local))))))))
