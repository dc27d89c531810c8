use Rattle.std.proofs.Common.{length, take, ◌-◌, ◌≡◌, ◌≤◌}
use Rattle.lrs_http.specs.Links.{stream_left, TakesOff}
use Rattle.lrs_http.proofs.reading.fill.Given as goal

abbrev pub invariant-loop-at : goal.invariant-loop-at
invariant-loop-at g l = record {
  within : l.at ≤ length l.body;
  told : stream_left (take l.at l.body) (g.L.Link.left l.link) ≡ stream_left (take l.fn.held l.initial.body) (g.L.Link.left l.initial.link);
  off : TakesOff (l.at - l.fn.held) (g.L.Link.left l.initial.link) (g.L.Link.left l.link);
  from : l.fn.held ≤ l.at;
  faults : g.L.Link.fault_count l.link ≡ g.L.Link.fault_count l.initial.link;
  stream : g.L.Link.stream l.link ≡ g.L.Link.stream l.initial.link;
  taken : g.L.Link.taken l.link ≡ g.L.Link.taken l.initial.link;
  name : g.L.Link.name l.link ≡ g.L.Link.name l.initial.link;
}

abbrev pub decreases-loop-at : goal.decreases-loop-at
decreases-loop-at g l = length l.body - l.at
