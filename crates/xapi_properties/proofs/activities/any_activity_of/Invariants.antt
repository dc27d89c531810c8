use Rattle.std.proofs.Common.{◌≡◌, drop, map}
use Rattle.lrs_json.specs.View.{view, elements_of}
use Rattle.xapi_properties.specs.Activities.{any_activity_of}
use Rattle.xapi_properties.proofs.activities.any_activity_of.Given as goal

abbrev pub invariant-loop-item : goal.invariant-loop-item
invariant-loop-item l = any_activity_of l.id (elements_of (map view l.items)) ≡ any_activity_of l.id (elements_of (map view (drop l.item-index l.items)))
