use Rattle.lrs_command_line.proofs.Named.{read_as}
use Rattle.lrs_command_line.proofs.words.read_words.Goals as goal

pub returns : goal.returns
returns c = read_as c.args.words.now c.read_named.result c.read_named.ensures
