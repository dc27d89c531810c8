use Rattle.std.proofs.Common.{◌≡◌, drop, map}
use Rattle.lrs_json.specs.View.{view, elements_of}
use Rattle.xapi_values.specs.Shapes.{are_strings}
use Rattle.xapi_values.proofs.shapes.are_strings.Given as goal

abbrev pub invariant-loop-item : goal.invariant-loop-item
invariant-loop-item l = are_strings (elements_of (map view l.items)) ≡ are_strings (elements_of (map view (drop l.item-index l.items)))
