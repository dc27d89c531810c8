use Rattle.std.proofs.Common.{◌∙◌, ap}
use Rattle.cmi5_running_verdicts.specs.Tallies.{said_in_tally}
use Rattle.cmi5_running_verdicts.proofs.telling.said_at.Goals as goal

pub returns : goal.returns
returns c = c.said.ensures ∙ ap said_in_tally c.tally_of.ensures
