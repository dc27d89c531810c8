-- What is seen of a connection in memory behind a gate: the connection itself.
use Rattle.lrs_in_memory_doors.specs.declared.gate_link.GateLink.{GateLink}
use Rattle.lrs_in_memory_doors.specs.declared.link.MemLink.{MemLink}

abbrev pub link_of : GateLink → MemLink
link_of l = l.link
