use Rattle.std.proofs.Common.{◌∙◌, sym}
use Rattle.xapi_index.proofs.Found.{first_kept, first_none, first_past}
use Rattle.xapi_index.proofs.positions.first_below.Goals as goal

pub returns-then-position-n : goal.returns-then-position-n
returns-then-position-n c = first_kept c.args.n c.args.positions.now c.in-Some.position (sym c.first_in.ensures ∙ c.in-Some.is) c.if-position-n.true

pub returns-else-position-n : goal.returns-else-position-n
returns-else-position-n c = first_past c.args.n c.args.positions.now c.in-Some.position c.requires (sym c.first_in.ensures ∙ c.in-Some.is) c.if-position-n.false

pub returns-in-None : goal.returns-in-None
returns-in-None c = first_none c.args.n c.args.positions.now (sym c.first_in.ensures ∙ c.in-None.is)
