use Rattle.std.proofs.Common.{refl, inl}
use Rattle.lrs_turn.proofs.turns.Turns.give.Goals as goal

pub give_as-requires-clause-known : goal.give_as-requires-clause-known
give_as-requires-clause-known g c = inl refl
