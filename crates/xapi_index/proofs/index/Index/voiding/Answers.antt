use Rattle.std.proofs.Common.{◌∙◌, ap, position}
use Rattle.xapi_index.proofs.Keyed.{voids_keyed}
use Rattle.xapi_index.proofs.index.Index.voiding.Goals as goal

pub returns : goal.returns
returns c = c.first_with-first.ensures ∙ ap (λ p. position p c.args.self.now.held) (voids_keyed c.args.id.now)
