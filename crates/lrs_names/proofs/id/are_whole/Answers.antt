use Rattle.std.proofs.Common.{arith}
use Rattle.uuid.proofs.TextLemmas.{all_fit}
use Rattle.lrs_names.proofs.id.are_whole.Goals as goal

pub returns : goal.returns
returns c = (c.requires, all_fit c.args.bytes.now (λ k within. omega (arith, c.type_inv.bytes k)))
