use Rattle.std.proofs.Common.{◌∷◌, [], ◌++◌, Some, ap, ◌∙◌}
use Rattle.lrs_turn.specs.Rule.{meaning}
use Rattle.lrs_turn.proofs.Steps.{starts_at}
use Rattle.lrs_turn.proofs.turns.Turns.new.Goals as goal

pub new-requires : goal.new-requires
new-requires g c =
    starts_at (meaning g.S.Journaled.line g.S.Journaled.marks g.S.Journaled.tide) c.args.passes c.args.state c.of.result.value _ c.push_reserved.new.self.items
    c.requires.0 c.length-length.ensures (c.push_reserved.ensures.items ∙ ap (λ l. l ++ Some c.args.state ∷ []) c.in-Ok-with_capacity.ensures.items) c.of.ensures
