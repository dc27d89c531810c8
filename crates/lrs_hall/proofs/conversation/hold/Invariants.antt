use Rattle.std.proofs.Common.{◌≡◌, ◌<◌}
use Rattle.lrs_http.specs.Links.{stream_left}
use Rattle.lrs_hall.specs.Acts.{ActsOn, limit_in}
use Rattle.lrs_hall.specs.Serving.{KeepsPass}
use Rattle.lrs_hall.specs.Steps.{worker}
use Rattle.lrs_hall.proofs.Goes.{SoFar}
use Rattle.lrs_hall.proofs.conversation.hold.Given as goal

abbrev pub invariant-loop-alloc : goal.invariant-loop-alloc
invariant-loop-alloc g l = record {
  some : 0 < l.most;
  talk : SoFar (ActsOn (limit_in l.fn.pass.marks)) (worker l.fn.draws l.fn.pass (g.O.Door.state l.fn.door).readings) (g.O.Link.Link.left l.fn.link) (g.O.Link.Link.taken l.fn.link)
      l.most (stream_left l.kept.items (g.O.Link.Link.left l.link)) l.receipts.items (g.O.Link.Link.taken l.link) (worker l.draws l.pass (g.O.Door.state l.door).readings);
  pass : KeepsPass l.turns l.fn.pass l.pass;
  door : g.O.Door.state l.door ≡ record (g.O.Door.state l.fn.door) { readings = (g.O.Door.state l.door).readings };
  stream : g.O.Link.Link.stream l.link ≡ g.O.Link.Link.stream l.fn.link;
  name : g.O.Link.Link.name l.link ≡ g.O.Link.Link.name l.fn.link;
  faults : g.O.Link.Link.fault_count l.link ≡ g.O.Link.Link.fault_count l.fn.link;
}

abbrev pub decreases-loop-alloc : goal.decreases-loop-alloc
decreases-loop-alloc g l = l.most
