use Rattle.std.proofs.Common.{map, take}
use Rattle.lrs_json.specs.Names.{is_among}
use Rattle.lrs_json.specs.View.{member_view}
use Rattle.lrs_json_reader.proofs.Names.{NamesSoFar, Passed}
use Rattle.lrs_json_reader.proofs.reader.earliest_of_few.Given as goal

abbrev pub invariant-loop-member : goal.invariant-loop-member
invariant-loop-member l = record {
  passed : Passed l.members l.before l.member-iterator.a.rest.now;
  names : NamesSoFar (λ q. is_among q (map (λ m. (member_view m).0) (take l.before l.members))) l.found (map (λ m. (member_view m).0) l.member-iterator.a.rest.now) l.member-iterator.b.rest.now (map (λ m. (member_view m).0) l.members) l.lefts;
}
