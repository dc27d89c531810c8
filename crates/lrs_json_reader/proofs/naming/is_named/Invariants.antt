use Rattle.std.proofs.Common.{◌≡◌, drop, map}
use Rattle.lrs_json.specs.Names.{is_among}
use Rattle.lrs_json.specs.View.{member_view}
use Rattle.lrs_json_reader.proofs.naming.is_named.Given as goal

-- none of the members so far has the name
abbrev pub invariant-loop-member : goal.invariant-loop-member
invariant-loop-member l = is_among l.name (map (λ m. (member_view m).0) l.members) ≡ is_among l.name (map (λ m. (member_view m).0) (drop l.member-index l.members))
