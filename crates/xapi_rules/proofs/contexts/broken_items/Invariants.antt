use Rattle.std.proofs.Common.{◌≡◌, drop, map}
use Rattle.lrs_json.specs.View.{view, elements_of}
use Rattle.lrs_names.specs.Rules.{least, lesser}
use Rattle.xapi_rules.specs.Contexts.{faults_of_activities}
use Rattle.xapi_rules.proofs.contexts.broken_items.Given as goal

abbrev pub invariant-loop-item : goal.invariant-loop-item
invariant-loop-item l = least (faults_of_activities (elements_of (map view l.items))) ≡ lesser l.broken (least (faults_of_activities (elements_of (map view (drop l.item-index l.items)))))
