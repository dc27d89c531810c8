use Rattle.std.proofs.Common.{◌≡◌, true, drop, map}
use Rattle.lrs_json.specs.View.{view, elements_of}
use Rattle.xapi_alike.specs.Ranks.{have_own_names}
use Rattle.xapi_alike.proofs.ranks.have_own_names.Given as goal

-- what is left decides
abbrev pub invariant-loop-item : goal.invariant-loop-item
invariant-loop-item l =
    have_own_names (elements_of (map view (drop l.item-index l.items))) ≡ true → have_own_names (elements_of (map view l.items)) ≡ true
