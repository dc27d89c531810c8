use Rattle.std.proofs.Common.{◌≡◌, ◌++◌, Some, drop, map}
use Rattle.lrs_json.specs.View.{view}
use Rattle.lrs_bodies.specs.Bodies.{first_unlike, texts_under}
use Rattle.lrs_bodies.proofs.strings.texts_of.Given as goal

abbrev pub invariant-loop-member : goal.invariant-loop-member
invariant-loop-member l = record {
  -- none of the members so far breaks its rule
  rules :
      first_unlike (map (λ m. (m.0.now, m.1)) l.members) (view l.tree)
      ≡ first_unlike (map (λ m. (m.0.now, m.1)) (drop l.member-index l.members)) (view l.tree);
  -- the texts so far are those of the members so far
  texts :
      texts_under (map (λ m. (m.0.now, m.1)) l.members) (view l.tree)
      ≡ map Some l.texts ++ texts_under (map (λ m. (m.0.now, m.1)) (drop l.member-index l.members)) (view l.tree);
}
