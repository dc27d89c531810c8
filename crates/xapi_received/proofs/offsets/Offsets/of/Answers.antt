use Rattle.std.proofs.Common.{sym, ◌∙◌}
use Rattle.xapi_received.proofs.offsets.Offsets.of.Goals as goal

pub returns-in-Some : goal.returns-in-Some
returns-in-Some c = c.of_ending.ensures ∙ sym c.in-Some.is

pub returns-in-None : goal.returns-in-None
returns-in-None c = c.nothing.ensures ∙ sym c.in-None.is
