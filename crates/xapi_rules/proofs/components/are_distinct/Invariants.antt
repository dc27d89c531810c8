use Rattle.std.proofs.Common.{drop, map}
use Rattle.lrs_json.specs.View.{view, elements_of}
use Rattle.lrs_json.proofs.Sets.{SetSoFar}
use Rattle.xapi_rules.specs.Objects.{ids_of}
use Rattle.xapi_rules.proofs.components.are_distinct.Given as goal

abbrev pub invariant-loop-item : goal.invariant-loop-item
invariant-loop-item l = SetSoFar l.ids (ids_of (elements_of (map view (drop l.item-index l.items)))) (ids_of (elements_of (map view l.items)))
