-- What is seen of a TCP address.
use Rattle.lrs_disk.specs.Door.{DoorState}
use Rattle.lrs_edge.specs.Silent.{silent_door}
use Rattle.lrs_edge.specs.declared.door.TcpDoor.{TcpDoor}

abbrev pub state_of : {R : Type 0} → TcpDoor R → DoorState
state_of d = silent_door d.out d.faults.count
