use Rattle.std.proofs.Common.{sym, subst, refl, inr}
use Rattle.lrs_turn.specs.Lists.{NoneFalls}
use Rattle.lrs_turn.proofs.Steps.{none_falls_same}
use Rattle.lrs_turn.proofs.turns.Turns.put_back.Goals as goal

pub give_as-requires-clause-tide : goal.give_as-requires-clause-tide
give_as-requires-clause-tide g c = subst (NoneFalls c.args.pass.now.level) (sym c.requires.tide) (none_falls_same c.args.pass.now.level)

pub give_as-requires-clause-known : goal.give_as-requires-clause-known
give_as-requires-clause-known g c = inr (refl, c.requires.tide)
