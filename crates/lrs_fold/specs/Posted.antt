-- A post of the program's own.
use Rattle.std.specs.Prelude.{List}
use Rattle.lrs_command.specs.declared.command.Command.{Command}
use Rattle.lrs_command.specs.declared.command.Command.TheVariants as command
use Rattle.lrs_json.specs.declared.tree.Tree.{Tree}
use Rattle.lrs_record.specs.declared.entry.Write.TheVariants.{Post}

abbrev pub post_of : List Tree → Command
post_of statements = command.Write (Post statements)
