use Rattle.std.proofs.Common.{length, drop, ◌-◌, ◌≡◌, ◌≤◌}
use Rattle.lrs_http.specs.Links.{Sends}
use Rattle.lrs_http.proofs.response.write_all.Given as goal

abbrev pub invariant-loop-done : goal.invariant-loop-done
invariant-loop-done g l = record {
  within : l.done ≤ length l.bytes;
  sent : Sends l.bytes (drop l.done l.bytes) (g.L.Link.taken l.initial.link) (g.L.Link.taken l.link);
  faults : g.L.Link.fault_count l.link ≡ g.L.Link.fault_count l.initial.link;
  left : g.L.Link.left l.link ≡ g.L.Link.left l.initial.link;
  stream : g.L.Link.stream l.link ≡ g.L.Link.stream l.initial.link;
  name : g.L.Link.name l.link ≡ g.L.Link.name l.initial.link;
}

abbrev pub decreases-loop-done : goal.decreases-loop-done
decreases-loop-done g l = length l.bytes - l.done
