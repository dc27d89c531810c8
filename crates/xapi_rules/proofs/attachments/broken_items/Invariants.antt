use Rattle.std.proofs.Common.{◌≡◌, drop, map}
use Rattle.lrs_json.specs.View.{view, elements_of}
use Rattle.lrs_names.specs.Rules.{least, lesser}
use Rattle.xapi_rules.specs.Contexts.{faults_of_attachments}
use Rattle.xapi_rules.proofs.attachments.broken_items.Given as goal

abbrev pub invariant-loop-item : goal.invariant-loop-item
invariant-loop-item l = least (faults_of_attachments (elements_of (map view l.items))) ≡ lesser l.broken (least (faults_of_attachments (elements_of (map view (drop l.item-index l.items)))))
