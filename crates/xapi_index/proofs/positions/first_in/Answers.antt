use Rattle.std.proofs.Common.{◌∙◌, ap, sym, option_copied}
use Rattle.xapi_index.proofs.positions.first_in.Goals as goal

pub returns-in-Some : goal.returns-in-Some
returns-in-Some c = sym (ap option_copied c.in-Some.is) ∙ c.first.ensures.value

pub returns-in-None : goal.returns-in-None
returns-in-None c = sym (ap option_copied c.in-None.is) ∙ c.first.ensures.value
