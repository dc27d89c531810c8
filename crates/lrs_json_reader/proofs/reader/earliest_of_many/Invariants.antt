use Rattle.std.proofs.Common.{map}
use Rattle.lrs_json.specs.View.{member_view}
use Rattle.lrs_json.proofs.Sets.{has_name}
use Rattle.lrs_json_reader.proofs.Names.{NamesSoFar}
use Rattle.lrs_json_reader.proofs.reader.earliest_of_many.Given as goal

abbrev pub invariant-loop-member : goal.invariant-loop-member
invariant-loop-member l = NamesSoFar (λ q. has_name q l.names) l.found (map (λ m. (member_view m).0) l.member-iterator.a.rest.now) l.member-iterator.b.rest.now (map (λ m. (member_view m).0) l.members) l.lefts
