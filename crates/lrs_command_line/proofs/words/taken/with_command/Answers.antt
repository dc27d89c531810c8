use Rattle.std.proofs.Common.{ap}
use Rattle.clap.specs.Words.{App, with_subcommand}
use Rattle.lrs_command_line.proofs.Taken.{as_same}
use Rattle.lrs_command_line.proofs.words.taken.with_command.Goals as goal

pub returns-in-Ok : goal.returns-in-Ok
returns-in-Ok c p a begun made =
    let same = rw c.in-Ok.is at begun in
    as_same _ (ap (λ (x : App). with_subcommand x a.top) same) (c.add_command.ensures a made)
