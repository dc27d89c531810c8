use Rattle.std.proofs.Common.{map, take}
use Rattle.lrs_json.specs.View.{member_view, members_of}
use Rattle.xapi_docs.specs.Merging.{HasIndices}
use Rattle.xapi_docs.proofs.merging.indices_of.Given as goal

-- the indices of the members so far
abbrev pub invariant-loop-at : goal.invariant-loop-at
invariant-loop-at l = HasIndices l.indices (members_of (map member_view (take l.at l.members)))
