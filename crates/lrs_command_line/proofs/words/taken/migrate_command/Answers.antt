use Rattle.std.specs.Prelude.{codes}
use Rattle.clap.specs.Words.{App, new_app, with_rule}
use Rattle.lrs_command_line.specs.CommandLine.{required}
use Rattle.lrs_command_line.proofs.Taken.{with_same}
use Rattle.lrs_command_line.proofs.words.taken.migrate_command.Goals as goal

pub returns : goal.returns
returns c =
    let named : App = new_app (codes "migrate") in
    let with_old : App = with_rule named (required (codes "old")) in
    let with_new : App = with_rule with_old (required (codes "new")) in
    with_same _ with_new c.optional.ensures.rule (c.with_argument.ensures with_new
    (with_same _ with_old c.required-2.ensures.rule (c.with_argument-command-2.ensures with_old
    (with_same _ named c.required.ensures.rule (c.with_argument-command.ensures named (c.new.ensures.app, c.new.ensures.local))))))
