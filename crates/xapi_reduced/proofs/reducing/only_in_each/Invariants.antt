use Rattle.std.proofs.Common.{◌≡◌, ◌++◌, map}
use Rattle.std.specs.Vec.Iter.{into_iter_items}
use Rattle.lrs_json.specs.View.{view}
use Rattle.xapi_reduced.specs.Reduced.{with_only}
use Rattle.xapi_reduced.proofs.reducing.only_in_each.Given as goal

-- what was made so far, and what is left
abbrev pub invariant-loop-item : goal.invariant-loop-item
invariant-loop-item l =
    (map view l.built ≡ map (λ t. with_only (map (λ name. name.now) l.fn.names) (view t)) l.yielded) × (l.fn.items ≡ l.yielded ++ into_iter_items l.item-iterator)
