use Rattle.std.proofs.Common.{All, subst, sym, arith}
use Rattle.std.proofs.lemmas.List.Elements.{All-push}
use Rattle.lrs_disk.specs.Door.{IsFresh}
use Rattle.lrs_edge.specs.TcpDoor.{state_of}
use Rattle.lrs_edge.specs.declared.door.TcpDoor.{TcpDoor}
use Rattle.lrs_edge.proofs.lobby.open.Goals as goal

pub loop-preserved : goal.loop-preserved
loop-preserved g c =
    let P : TcpDoor _ → Type 0 = λ door. IsFresh (state_of door) in
    record {
      number = omega (arith, c.push_reserved.ensures.len, c.loop.invariant.number);
      room = omega (arith, c.push_reserved.ensures.capacity, c.loop.invariant.room);
      fresh = subst (All P) (sym c.push_reserved.ensures.items) (All-push P c.loop.doors.items c.new.result c.loop.invariant.fresh c.new.ensures);
    }
