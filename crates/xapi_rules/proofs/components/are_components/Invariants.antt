use Rattle.std.proofs.Common.{◌≡◌, drop, map}
use Rattle.lrs_json.specs.View.{view, elements_of}
use Rattle.xapi_rules.specs.Objects.{are_components}
use Rattle.xapi_rules.proofs.components.are_components.Given as goal

abbrev pub invariant-loop-item : goal.invariant-loop-item
invariant-loop-item l = are_components (elements_of (map view l.items)) ≡ are_components (elements_of (map view (drop l.item-index l.items)))
