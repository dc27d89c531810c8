use Rattle.std.proofs.Common.{◌≡◌, true, drop, map}
use Rattle.lrs_json.specs.View.{member_view, members_of}
use Rattle.xapi_alike.specs.Ranks.{are_own_names}
use Rattle.xapi_alike.proofs.ranks.+own_names.Given as goal

-- what is left decides
abbrev pub invariant-are_own_names-loop-i : goal.invariant-are_own_names-loop-i
invariant-are_own_names-loop-i l =
    are_own_names (members_of (map member_view (drop l.i l.members))) ≡ true → are_own_names (members_of (map member_view l.members)) ≡ true
