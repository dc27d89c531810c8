use Rattle.std.proofs.Common.{◌≡◌, All, vec_len, vec_capacity}
use Rattle.lrs_disk.specs.Door.{IsFresh}
use Rattle.lrs_edge.specs.TcpDoor.{state_of}
use Rattle.lrs_edge.proofs.lobby.open.Given as goal

abbrev pub invariant-loop : goal.invariant-loop
invariant-loop g l = record {
  number : vec_len l.doors ≡ l.counter;
  room : vec_capacity l.doors ≡ l.count;
  fresh : All (λ door. IsFresh (state_of door)) l.doors.items;
}
