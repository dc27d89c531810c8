use Rattle.std.proofs.Common.{Some, refl}
use Rattle.lrs_in_memory_doors.specs.GateLink.{link_of}
use Rattle.lrs_in_memory_doors.specs.MemDoor.{state_of}
use Rattle.lrs_in_memory_doors.specs.MemLink.{stream_of}
use Rattle.lrs_in_memory_doors.specs.declared.gate_link.GateLink.{GateLink}
use Rattle.lrs_in_memory_doors.specs.declared.link.MemLink.{MemLink}
use Rattle.lrs_in_memory_doors.proofs.Gated.{brings_same}
use Rattle.lrs_in_memory_doors.proofs.gate_door.GateDoorDoor.next.Goals as goal

pub returns-in-Joined-clause-streams : goal.returns-in-Joined-clause-streams
returns-in-Joined-clause-streams c =
    let joined : GateLink = record { link = c.in-Joined.link; gate = c.pop_front.result } in
    brings_same (λ (l : MemLink). Some (stream_of l)) (λ (l : GateLink). Some (stream_of (link_of l))) c.in-Joined.link joined (state_of c.args.self.now.door).streams (state_of c.next.new.self).streams refl c.in-Joined.ensures.streams
