use Rattle.std.proofs.Common.{◌≡◌, drop, map}
use Rattle.lrs_json.specs.View.{view, elements_of}
use Rattle.lrs_agents.specs.Agents.{faults_of_agents}
use Rattle.lrs_names.specs.Rules.{least, lesser}
use Rattle.lrs_agents.proofs.groups.broken_agents.Given as goal

abbrev pub invariant-loop-item : goal.invariant-loop-item
invariant-loop-item l =
    least (faults_of_agents (elements_of (map view l.items)))
    ≡ lesser l.found (least (faults_of_agents (elements_of (map view (drop l.item-index l.items)))))
