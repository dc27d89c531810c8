use Rattle.std.proofs.Common.{◌≡◌, drop, map}
use Rattle.lrs_json.specs.View.{view, elements_of}
use Rattle.xapi_format.specs.Party.{any_identified}
use Rattle.xapi_properties.proofs.parties.any_identified.Given as goal

abbrev pub invariant-loop-item : goal.invariant-loop-item
invariant-loop-item l = any_identified l.ifi (elements_of (map view l.items)) ≡ any_identified l.ifi (elements_of (map view (drop l.item-index l.items)))
