use Rattle.std.proofs.Common.{◌∙◌, ap}
use Rattle.std.specs.Prelude.{slice_get}
use Rattle.xapi_pages.specs.Listings.{positions_of}
use Rattle.xapi_pages.proofs.Fronts.{position_down, position_up}
use Rattle.xapi_pages.proofs.listing.position_at.Goals as goal

pub returns-then-ascending-clause-at : goal.returns-then-ascending-clause-at
returns-then-ascending-clause-at c = ap (λ b. slice_get (positions_of b c.args.n) c.args.i) c.if-ascending.true ∙ position_up c.args.n c.args.i c.requires

pub returns-else-ascending-clause-at : goal.returns-else-ascending-clause-at
returns-else-ascending-clause-at c = ap (λ b. slice_get (positions_of b c.args.n) c.args.i) c.if-ascending.false ∙ position_down c.args.n c.args.i c.requires
