-- What is seen of a door in memory with gates: the door itself.
use Rattle.lrs_in_memory_doors.specs.declared.door.MemDoor.{MemDoor}
use Rattle.lrs_in_memory_doors.specs.declared.gate_door.GateDoor.{GateDoor}

abbrev pub door_of : GateDoor → MemDoor
door_of d = d.door
