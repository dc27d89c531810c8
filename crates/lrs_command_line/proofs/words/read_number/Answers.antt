use Rattle.std.proofs.Common.{refl, rules}
use Rattle.lrs_command_line.proofs.Numbers.{unread}
use Rattle.lrs_command_line.proofs.words.read_number.Goals as goal

pub returns-in_default-2 : goal.returns-in_default-2
returns-in_default-2 c = unread _ _ _ _ _ _ (search rules) refl c.in_default.is c.parse.ensures.value.0
