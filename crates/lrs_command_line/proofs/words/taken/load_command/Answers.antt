use Rattle.std.specs.Prelude.{codes}
use Rattle.clap.specs.Words.{App, new_app, with_rule}
use Rattle.lrs_command_line.specs.CommandLine.{required}
use Rattle.lrs_command_line.proofs.Taken.{with_same}
use Rattle.lrs_command_line.proofs.words.taken.load_command.Goals as goal

pub returns : goal.returns
returns c =
    let named : App = new_app (codes "load") in
    let with_file : App = with_rule named (required (codes "file")) in
    let with_seed : App = with_rule with_file (required (codes "seed")) in
    with_same _ with_seed c.required-3.ensures.rule (c.with_argument.ensures with_seed
    (with_same _ with_file c.required-2.ensures.rule (c.with_argument-command-2.ensures with_file
    (with_same _ named c.required.ensures.rule (c.with_argument-command.ensures named (c.new.ensures.app, c.new.ensures.local))))))
