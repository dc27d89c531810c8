use Rattle.std.proofs.Common.{◌-◌, ◌≡◌, ◌≤◌, vec_len}
use Rattle.lrs_http.specs.Links.{stream_left, TakesOff}
use Rattle.lrs_http.proofs.reading.read_head.Given as goal
use Rattle.lrs_http.specs.declared.heads.TheConstants.{LONGEST_HEAD}

abbrev pub invariant-loop-search : goal.invariant-loop-search
invariant-loop-search g l = record {
  told : stream_left l.kept.items (g.L.Link.left l.link) ≡ stream_left l.initial.kept.items (g.L.Link.left l.initial.link);
  grows : vec_len l.initial.kept ≤ vec_len l.kept;
  few : vec_len l.initial.kept ≤ LONGEST_HEAD → vec_len l.kept ≤ LONGEST_HEAD;
  short : vec_len l.kept - vec_len l.initial.kept ≤ LONGEST_HEAD;
  off : TakesOff (vec_len l.kept - vec_len l.initial.kept) (g.L.Link.left l.initial.link) (g.L.Link.left l.link);
  faults : g.L.Link.fault_count l.link ≡ g.L.Link.fault_count l.initial.link;
  stream : g.L.Link.stream l.link ≡ g.L.Link.stream l.initial.link;
  taken : g.L.Link.taken l.link ≡ g.L.Link.taken l.initial.link;
  name : g.L.Link.name l.link ≡ g.L.Link.name l.initial.link;
}

abbrev pub decreases-loop-search : goal.decreases-loop-search
decreases-loop-search g l = LONGEST_HEAD - vec_len l.kept
